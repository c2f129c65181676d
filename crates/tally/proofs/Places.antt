-- Laws of a last place and of a count of steps: what one step more makes of them, and that each is one number. Knows of a step only whether it is such.
use mathlib.Core.Path.{◌≡◌, refl, sym, ap, ◌∙◌}
use mathlib.Core.Logic.{◌⊎◌, ◌↔◌, inl, inr, ⊎_elim}
use mathlib.Core.Bool.{Bool, true, false, cond, ◌||◌, false≢true}
use Prim.Native.Nat.{ℕ, suc, ◌+◌, ◌≤◌, ◌<◌}
use native.Mathlib.Omega.{arith}
use lib.Dec.{eqb}
use borrow.Author.Tests.{ne_eqb, eq-eqb, eqb-true}
use Rattle.laws.specs.Bit.{count_below}
use Rattle.laws.proofs.Count.{count_cong}
use Rattle.laws.proofs.Truth.{same_truth, no_truth, or_iff}
use Rattle.tally.specs.Record.{Last, Times}

-- what a mark adds to a count
abbrev digit : Bool → ℕ
digit b = cond b 1 0

-- one step more: step n may be such too
module _ {Such Such' : ℕ → Type 0} {New : Type 0} (n : ℕ) (below : (p : ℕ) → Such p → p < n) (grows : (p : ℕ) → Such' p ↔ (Such p ⊎ ((p ≡ n) × New))) where
  kept : (New → ⊥) → (p : ℕ) → Such' p → Such p
  kept not p h = ⊎_elim (λ s. s) (λ x. absurd (not x.1)) ((grows p).0 h)

  pub last_kept : (New → ⊥) → {k : ℕ} → Last Such k → Last Such' k
  last_kept not l =
      record {
        behind = λ p h. l.behind p (kept not p h);
        there = ⊎_elim inl (λ x. inr (x.0, x.1, (grows x.0).1 (inl x.2))) l.there;
      }

  pub last_moved : New → Last Such' (n + 1)
  last_moved new =
      record {
        behind = λ p h. ⊎_elim (λ s. omega (arith, below p s)) (λ x. omega (arith, x.0)) ((grows p).0 h);
        there = inr (n, refl, (grows n).1 (inr (refl, new)));
      }

  pub times_kept : (New → ⊥) → {c : ℕ} → Times Such n c → Times Such' (suc n) c
  unfolding count_below
  times_kept not t =
      let off : t.marked n ≡ false = no_truth (t.marked n) (λ h. omega (arith, below n ((t.marks n).0 h))) in
      let none : digit (t.marked n) ≡ 0 = ap digit off in
      record {
        marked = t.marked;
        marks = λ p. (λ h. (grows p).1 (inl ((t.marks p).0 h)), λ h. (t.marks p).1 (kept not p h));
        counted = let e = t.counted in omega arith;
      }

  pub times_more : New → {c : ℕ} → Times Such n c → Times Such' (suc n) (c + 1)
  unfolding count_below
  times_more new t =
      let marked : ℕ → Bool = λ p. eqb p n || t.marked p in
      let here : marked n ≡ true = (or_iff (eqb n n) (t.marked n)).1 (inl (eq-eqb n n refl)) in
      let one : digit (marked n) ≡ 1 = ap digit here in
      let same : count_below n marked ≡ count_below n t.marked =
      count_cong n (λ i h. ap (λ (b : Bool). b || t.marked i) (ne_eqb i n (λ e. omega arith))) in
      record {
        marked = marked;
        marks = λ p. (
          λ h. ⊎_elim (λ e. (grows p).1 (inr (eqb-true p n e, new))) (λ m. (grows p).1 (inl ((t.marks p).0 m))) ((or_iff (eqb p n) (t.marked p)).0 h),
          λ h. (or_iff (eqb p n) (t.marked p)).1 (⊎_elim (λ s. inr ((t.marks p).1 s)) (λ x. inl (eq-eqb p n x.0)) ((grows p).0 h)),
        );
        counted = let e = t.counted in omega arith;
      }

-- no step at all
pub last_none : {Such : ℕ → Type 0} → ((p : ℕ) → Such p → ⊥) → Last Such 0
last_none not = record { behind = λ p h. absurd (not p h); there = inl refl }

pub times_none : {Such : ℕ → Type 0} → ((p : ℕ) → Such p → ⊥) → Times Such 0 0
unfolding count_below
times_none not = record { marked = λ p. false; marks = λ p. (λ h. absurd (false≢true h), λ h. absurd (not p h)); counted = refl }

-- a last place is one, and so is a count
pub one_last : {Such : ℕ → Type 0} {k k' : ℕ} → Last Such k → Last Such k' → k ≡ k'
one_last {Such} {k} {k'} x y = omega (arith, up x y, up y x)
  where
    up : {i j : ℕ} → Last Such i → Last Such j → i ≤ j
    up u v = ⊎_elim (λ e. omega arith) (λ h. omega (arith, h.1, v.behind h.0 h.2)) u.there

pub one_count : {Such : ℕ → Type 0} {n c c' : ℕ} → Times Such n c → Times Such n c' → c ≡ c'
one_count {n = n} x y =
    x.counted
    ∙ count_cong n (λ i _. same_truth (x.marked i) (y.marked i) (λ h. (y.marks i).1 ((x.marks i).0 h)) (λ h. (x.marks i).1 ((y.marks i).0 h)))
    ∙ sym y.counted

-- "the last possible occurrence comes after the last impossible step": one of the first sort comes after all of the second
pub later_iff : {Such Other : ℕ → Type 0} {k j : ℕ} → Last Such k → Last Other j → (j < k) ↔ ((p : ℕ) × Such p × ((q : ℕ) → Other q → q < p))
later_iff x y = (
  λ h. ⊎_elim (λ e. absurd (omega arith)) (λ l. (l.0, l.2, λ q o. omega (arith, l.1, y.behind q o))) x.there,
  λ (p, such, all). let up = x.behind p such in ⊎_elim (λ e. omega arith) (λ l. omega (arith, l.1, all l.0 l.2)) y.there,
)

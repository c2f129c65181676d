-- The image of a set of positions, what a `?` holds while it goes over a set, and the positions of a set that each sign of a test keeps: the mathematics of
-- the evaluator's arms. Knows relations, and sets by the positions that they hold; no walk, no text and no word.
use mathlib.Core.Path.{◌≡◌, refl, sym, subst, ◌∙◌}
use mathlib.Core.Logic.{◌↔◌, ◌⊎◌, inl, inr, ⊎_elim}
use mathlib.Core.Bool.{Bool, true, false, not, ◌&&◌, ◌||◌}
use Prim.Native.Nat.{ℕ, ◌≤◌}
use borrow.Author.Tests.{not-true}
use Rattle.laws.proofs.Truth.{no_truth, off_on, true_or_false, and_iff, or_iff, implies_iff}
use Rattle.meaning.specs.Theory.{World}
use Rattle.meaning.specs.Leads.{Rel, Truth, Always, Both, Not, Some, Here, own_now}
use Rattle.meaning.proofs.Chain.{Within}
use Rattle.runs.specs.Image.{Set, UpTo, Image, Sifted}

-- what is kept of a set at or before now is so too
pub sifted_up_to : {x : Truth} {n m : ℕ} {s a : Set} → UpTo m s → Sifted x n s a → UpTo m a
sifted_up_to low i q h = low q ((i.each q).0 h).0

-- the same relation, said otherwise
pub image_same : {r t : Rel} {n : ℕ} {s a : Set} → ((p q : ℕ) → r p q n ↔ t p q n) → Image r n s a → Image t n s a
image_same e i = record {
  each = λ q. (
    λ h. let (p, there, step) = (i.each q).0 h in (p, there, (e p q).0 step),
    λ h. (i.each q).1 (h.0, h.1, (e h.0 q).1 h.2),
  );
}

-- a position of the first set and not of the second
pub rest_iff : (a b : Bool) → ((a && not b) ≡ true) ↔ ((a ≡ true) × (b ≡ false))
rest_iff a b = (
  λ h. let (p, q) = (and_iff a (not b)).0 h in (p, not-true b q),
  λ h. let (p, q) = h in (and_iff a (not b)).1 (p, rw q),
)

-- `?T`, what its loop holds between two turns: it has kept those of the set that are gone over and where this is so
pub record Gone (x : ℕ → Type 0) (s left kept : Set) : Type 0 where
  pub within : (q : ℕ) → left q ≡ true → s q ≡ true
  pub each : (q : ℕ) → (kept q ≡ true) ↔ ((s q ≡ true) × (left q ≡ false) × x q)

-- some positions more are gone over
pub gone_more : {x : ℕ → Type 0} {s left kept these there left' kept' : Set} → ((q : ℕ) → these q ≡ true → left q ≡ true)
    → ((q : ℕ) → (there q ≡ true) ↔ ((these q ≡ true) × x q)) → ((q : ℕ) → kept' q ≡ (kept q || there q)) → ((q : ℕ) → left' q ≡ (left q && not (these q)))
    → Gone x s left kept → Gone x s left' kept'
gone_more {x} {s} {left} {kept} {these} {there} {left'} {kept'} mine sift join rest g = record {
  within = λ q h. g.within q ((rest_iff (left q) (these q)).0 (sym (rest q) ∙ h)).0;
  each = λ q. (
    λ h. ⊎_elim (before q) (now_there q) ((or_iff (kept q) (there q)).0 (sym (join q) ∙ h)),
    λ h. join q ∙ (or_iff (kept q) (there q)).1 (⊎_elim (latest q h) (earlier q h) (true_or_false (left q))),
  );
}
  where
    gone : (q : ℕ) → (left q ≡ true → these q ≡ true) → left' q ≡ false
    gone q h = rest q ∙ (implies_iff (left q) (these q)).1 h

    before : (q : ℕ) → kept q ≡ true → (s q ≡ true) × (left' q ≡ false) × x q
    before q h =
        let (own, past, holds) = (g.each q).0 h in
        (own, gone q (λ k. absurd (off_on past k)), holds)

    now_there : (q : ℕ) → there q ≡ true → (s q ≡ true) × (left' q ≡ false) × x q
    now_there q h =
        let (one, holds) = (sift q).0 h in
        (g.within q (mine q one), gone q (λ k. one), holds)

    latest : (q : ℕ) → (s q ≡ true) × (left' q ≡ false) × x q → left q ≡ true → (kept q ≡ true) ⊎ (there q ≡ true)
    latest q h k = inr ((sift q).1 ((implies_iff (left q) (these q)).0 (sym (rest q) ∙ h.1) k, h.2))

    earlier : (q : ℕ) → (s q ≡ true) × (left' q ≡ false) × x q → left q ≡ false → (kept q ≡ true) ⊎ (there q ≡ true)
    earlier q h k = inl ((g.each q).1 (h.0, k, h.2))

-- `?T`, all gone over
pub here_image : (w : World) (x : Truth) {n : ℕ} {s left kept : Set} → UpTo n s → ((q : ℕ) → left q ≡ false) → Gone (λ q. x q (own_now w q n)) s left kept
    → Image (Here w x) n s kept
here_image w x {n} {s} low none g = record {
  each = λ q. (
    λ h. let (own, past, holds) = (g.each q).0 h in (q, own, (refl, low q own, holds)),
    λ h.
        let e : q ≡ h.0 = h.2.0 in
        (g.each q).1 (subst (λ (k : ℕ). s k ≡ true) (sym e) h.1, none q, subst (λ (k : ℕ). x k (own_now w k n)) (sym e) h.2.2),
  );
}

-- `1`
pub always_sifted : {n : ℕ} {s : Set} → Sifted Always n s s
always_sifted = record { each = λ q. (λ h. (h, tt), λ h. h.0) }

-- `!T`
pub not_sifted : {x : Truth} {n : ℕ} {s t a : Set} → ((q : ℕ) → a q ≡ (s q && not (t q))) → Sifted x n s t → Sifted (Not x) n s a
not_sifted {x} {n} {s} {t} rest i = record {
  each = λ q. (
    λ h.
        let (own, out) = (rest_iff (s q) (t q)).0 (sym (rest q) ∙ h) in
        (own, λ k. off_on out ((i.each q).1 (own, k))),
    λ h. rest q ∙ (rest_iff (s q) (t q)).1 (h.0, no_truth (t q) (λ k. h.1 ((i.each q).0 k).1)),
  );
}

-- `&TU`
pub both_sifted : {x y : Truth} {n : ℕ} {s t u : Set} → Sifted x n s t → Sifted y n t u → Sifted (Both x y) n s u
both_sifted f g = record {
  each = λ q. (
    λ h.
        let (on, second) = (g.each q).0 h in
        let (own, first) = (f.each q).0 on in
        (own, (first, second)),
    λ h. (g.each q).1 ((f.each q).1 (h.0, h.1.0), h.1.1),
  );
}

-- `<WT`: from every position up to now where T is true, W backwards
pub some_sifted : {r back : Rel} {x : Truth} {n : ℕ} {s all t m a : Set} → Within r → ((p q : ℕ) → back p q n ↔ r q p n)
    → ((q : ℕ) → q ≤ n → all q ≡ true) → Sifted x n all t → Image back n t m → ((q : ℕ) → a q ≡ (s q && m q)) → Sifted (Some r x) n s a
some_sifted {n = n} {s = s} {m = m} low turn all f i meet = record {
  each = λ q. (
    λ h.
        let (own, led) = (and_iff (s q) (m q)).0 (sym (meet q) ∙ h) in
        let (p, there, step) = (i.each q).0 led in
        (own, (p, (turn p q).0 step, ((f.each p).0 there).1)),
    λ h.
        let (p, step, holds) = h.1 in
        let there = (f.each p).1 (all p (low q p n step).1, holds) in
        meet q ∙ (and_iff (s q) (m q)).1 (h.0, (i.each q).1 (p, there, (turn p q).1 step)),
  );
}

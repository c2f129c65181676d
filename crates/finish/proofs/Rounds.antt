-- The rounds of a star: each is met with the lengths that were not seen before, until there are none. All the mathematics of its loop; knows no code.
use mathlib.Core.Path.{◌≡◌, refl, sym, subst, ◌∙◌}
use mathlib.Core.Logic.{inl, inr, ⊎_elim}
use mathlib.Core.Bool.{Bool, true, false, not, ◌&&◌}
use mathlib.Core.List.{List}
use Prim.Native.Nat.{ℕ, ◌+◌, ◌-◌, ◌*◌, ◌%◌, ◌^◌, ◌<◌}
use native.Mathlib.Omega.{arith}
use lib.Bits.{bit_and, bit_or, or_disjoint, or_zero_r, and_le_l}
use lib.Dec.{ltb}
use lib.ListN.{length, get_or, set}
use lib.Seq.{get_or-set_same, get_or-set_other}
use borrow.Author.Tests.{lt-ltb, le-leb}
use Rattle.laws.specs.Bit.{on}
use Rattle.laws.proofs.Truth.{true_or_false}
use Rattle.laws.proofs.On.{on_none, on_below, same_bits}
use Rattle.laws.proofs.Bitwise.{on_and}
use Rattle.laws.proofs.Shift.{on_not, on_shl, on_ones}
use Rattle.meaning.specs.Limits.{more_limit}
use Rattle.meaning.specs.Rule.{Walk, star, walk_text, of_walk}
use Rattle.meaning.specs.Lengths.{Inside, Longer, Measured, Grown}
use Rattle.meaning.proofs.Measured.{or_left, or_right, or_inside, measured_wide, measured_both}
use Rattle.grammar.specs.Standing.{Stands}
use Rattle.grammar.proofs.Spread.{Spread, spread, star_at}
use Rattle.finish.specs.Lengths.{Closed, Apart, Gained, BeforeTold}
use Rattle.finish.proofs.Gained.{closed_apart, set_grown}

-- one step more: the lengths moved up by a place, as far as there are lengths
pub one_longer : (behind all : ℕ) → all ≡ 2 ^ (more_limit + 1) - 1 → Longer behind (bit_and (behind * 2 ^ 1 % 2 ^ 8) all)
one_longer behind all whole l h e =
    on_and (behind * 2 ^ 1 % 2 ^ 8) all (l + 1)
    ∙ rw (whole, on_shl behind 1 8 (l + 1), lt-ltb (l + 1) 8 (omega arith), le-leb 1 (l + 1) (omega arith), on_ones 7 (l + 1), lt-ltb (l + 1) 7 (omega arith)) (
    let back : l + 1 - 1 ≡ l = omega arith in rw (back, e) refl)

-- what is new of some lengths, where these are seen already
abbrev pub unseen : ℕ → ℕ → ℕ
unseen more seen = bit_and more (2 ^ 8 - 1 - seen)

pub unseen_short : (more seen : ℕ) → more < 2 ^ 8 → unseen more seen < 2 ^ 8
unseen_short more seen small = omega (arith, and_le_l more (2 ^ 8 - 1 - seen))

away : (s m l : Bool) → (s && (m && (l && not s))) ≡ false
away true true true = refl
away true true false = refl
away true false l = refl
away false m l = refl

pub unseen_apart : (more seen : ℕ) → seen < 2 ^ 8 → bit_and seen (unseen more seen) ≡ 0
unseen_apart more seen short = same_bits _ 0 (λ i.
    on_and seen (unseen more seen) i ∙ rw (on_and more (2 ^ 8 - 1 - seen) i, on_not 8 short i, on_none i) (away (on seen i) (on more i) (ltb i 8)))

-- seen or new
pub unseen_all : (more seen : ℕ) → more < 2 ^ 8 → seen < 2 ^ 8 → Inside more (bit_or seen (unseen more seen))
unseen_all more seen small short l e = elim (true_or_false (on seen l)) [
  | inl here ↦ or_left seen (unseen more seen) l here
  | inr fresh ↦ or_right seen (unseen more seen) l
      (on_and more (2 ^ 8 - 1 - seen) l ∙ rw (e, on_not 8 short l, lt-ltb l 8 (on_below 8 small e), fresh) refl)
]

-- so more are seen after a round
pub round_more : (seen new : ℕ) → bit_and seen new ≡ 0 → (new ≡ 0 → ⊥) → seen < bit_or seen new
round_more seen new apart some = omega (arith, or_disjoint seen new apart)

-- What the loop keeps: the body has been met with what is seen, and what it leads to is seen or new.
pub record Round (ons offs at : ℕ) (x : Walk) (behind : ℕ) (f₀ f : List ℕ) (seen new : ℕ) : Type 0 where
  pub grown : Grown f₀ f
  pub apart : Apart (at + 1) (length (walk_text x)) f₀ f
  pub closed : Closed ons offs f (at + 1) x
  pub measured : Measured ons offs f (at + 1) x seen (bit_or seen new)
  pub met : Inside behind (bit_or seen new)
  pub kept : Inside (get_or f₀ at 0) seen

-- of the star that stands at a place
abbrev pub Rounds : List ℕ → ℕ → ℕ → ℕ → ℕ → List ℕ → List ℕ → ℕ → ℕ → Type 0
Rounds text at ons offs behind f₀ f seen new =
    (x : Walk) → Stands text (at + 1) (of_walk x) → Closed ons offs f₀ at (star x) → Round ons offs at x behind f₀ f seen new

module _ (ons offs : ℕ) {text : List ℕ} {at behind : ℕ} {f₀ : List ℕ} where
  pub rounds_start : (seen : ℕ) → seen ≡ get_or f₀ at 0 → behind < 2 ^ 8 → seen < 2 ^ 8 → Rounds text at ons offs behind f₀ f₀ seen (unseen behind seen)
  unfolding Closed
  rounds_start seen e small short x h closed = record {
    grown = λ i l k. k;
    apart = λ i out. refl;
    closed = closed.1;
    measured = measured_wide ons offs f₀ f₀ (at + 1) x (get_or f₀ at 0) (get_or f₀ at 0) seen (bit_or seen (unseen behind seen)) (λ i l k. k)
        (λ l k. subst (λ (j : ℕ). on j l ≡ true) e k) (λ l k. or_left seen (unseen behind seen) l (subst (λ (j : ℕ). on j l ≡ true) (sym e) k)) closed.0;
    met = unseen_all behind seen small short;
    kept = λ l k. subst (λ (j : ℕ). on j l ≡ true) (sym e) k;
  }

  -- a round, met with what is new
  pub rounds_more : {f f' : List ℕ} (seen new more : ℕ) → more < 2 ^ 8 → bit_or seen new < 2 ^ 8 → Rounds text at ons offs behind f₀ f seen new
      → BeforeTold text (at + 1) ons offs new f f' more
      → Rounds text at ons offs behind f₀ f' (bit_or seen new) (unseen more (bit_or seen new))
  rounds_more {f} {f'} seen new more small short r told x h closed =
      let a = r x h closed in
      let b = told.each x h a.closed in
      let all = bit_or seen new in
      let next = unseen more all in
      record {
        grown = λ i l k. b.grown i l (a.grown i l k);
        apart = λ i out. b.apart i out ∙ a.apart i out;
        closed = b.closed;
        measured = measured_wide ons offs f' f' (at + 1) x (bit_or seen new) (bit_or all more) all (bit_or all next) (λ i l k. k) (λ l k. k)
            (or_inside all more (bit_or all next) (or_left all next) (unseen_all more all small short))
            (measured_both ons offs f' (at + 1) x seen new all more
            (measured_wide ons offs f f' (at + 1) x seen all seen all b.grown (λ l k. k) (λ l k. k) a.measured) b.measured);
        met = λ l k. or_left all next l (a.met l k);
        kept = λ l k. or_left seen new l (a.kept l k);
      }

  -- nothing is new
  pub rounds_done : {f : List ℕ} (seen : ℕ) → get_or text at 0 ≡ 42 → at < length f → Rounds text at ons offs behind f₀ f seen 0
      → BeforeTold text at ons offs behind f₀ (set f at seen) seen
  unfolding Closed Measured walk_text
  rounds_done {f} seen sign room r = record { each = λ x h closed. go (spread h 42 sign) closed }
    where
      same : (l : ℕ) → on (bit_or seen 0) l ≡ true → on seen l ≡ true
      same l k = subst (λ (j : ℕ). on j l ≡ true) (or_zero_r seen) k

      go : {x : Walk} → Spread text at 42 (of_walk x) → Closed ons offs f₀ at x → Gained ons offs at x behind f₀ (set f at seen) seen
      go (star_at x p) closed =
          let a = r x p closed in
          let here : get_or f at 0 ≡ get_or f₀ at 0 = a.apart at (inl (omega arith)) in
          let more : Grown f (set f at seen) = set_grown f at seen room (λ l k. a.kept l (subst (λ (j : ℕ). on j l ≡ true) here k)) in
          let body : Measured ons offs (set f at seen) (at + 1) x seen seen =
          measured_wide ons offs f (set f at seen) (at + 1) x seen (bit_or seen 0) seen seen more (λ l k. k) same a.measured in
          record {
            grown = λ i l k. more i l (a.grown i l k);
            apart = λ i out. get_or-set_other f at i seen 0 (⊎_elim (λ k e. omega arith) (λ k e. omega arith) out)
                ∙ a.apart i (⊎_elim (λ k. inl (omega arith)) (λ k. inr (omega arith)) out);
            closed = (
              subst (λ (j : ℕ). Measured ons offs (set f at seen) (at + 1) x j j) (sym (get_or-set_same f at seen 0 room)) body,
              closed_apart ons offs f (set f at seen) (at + 1) x more (λ i low high. get_or-set_other f at i seen 0 (λ e. omega arith)) a.closed,
            );
            measured = (seen, λ l k. same l (a.met l k), body, λ l k. k);
          }

-- The evaluator's two loops, over position sets: what a round of a star adds and why it ends, and what one position of a test's set takes away. Knows sets
-- by the positions that they hold.
use mathlib.Core.Path.{◌≡◌, sym, subst, ◌∙◌}
use mathlib.Core.Logic.{◌↔◌}
use mathlib.Core.Bool.{true, false, not, ◌&&◌, ◌||◌}
use Prim.Native.Nat.{ℕ, ◌-◌, ◌≤◌, ◌<◌}
use native.Mathlib.Omega.{arith}
use lib.Dec.{eqb, ltb}
use borrow.Author.Tests.{eqb-true, eq-eqb, lt-ltb}
use Rattle.laws.proofs.Truth.{off_on, and_iff}
use Rattle.laws.proofs.First.{first_le}
use Rattle.meaning.specs.Limits.{places}
use Rattle.meaning.specs.Reach.{count_of, earliest_of}
use Rattle.positions.specs.declared.PositionSet.{PositionSet}
use Rattle.positions.specs.Positions.{holds, Empty}
use Rattle.positions.proofs.Held.{earliest_none, earliest_found, some_held, grows, join_falls}
use Rattle.runs.proofs.Image.{rest_iff}

-- a round takes in something that was not seen, and leaves fewer places
pub round_falls : (seen new all : PositionSet) → ((q : ℕ) → holds all q ≡ (holds seen q || holds new q)) → (Empty new → ⊥)
    → ((q : ℕ) → holds new q ≡ true → holds seen q ≡ false) → places - count_of (holds all) < places - count_of (holds seen)
round_falls seen new all join some apart =
    join_falls seen new all join (λ inside. let (q, there) = some_held new some in off_on (apart q there) (inside q there))

-- the earliest position of a set that is not empty is held
pub earliest_there : (left : PositionSet) (p : ℕ) → (Empty left → ⊥) → p ≡ earliest_of (holds left) → holds left p ≡ true
earliest_there left p some e =
    let low : earliest_of (holds left) ≤ places = first_le places (holds left) in
    let not_past : earliest_of (holds left) ≡ places → ⊥ = λ k. some ((earliest_none left).0 k) in
    subst (λ (i : ℕ). holds left i ≡ true) (sym e) (earliest_found left (omega arith))

-- the set of one position holds it alone
pub one_there : (p : ℕ) (one : PositionSet) → p < places → ((q : ℕ) → holds one q ≡ (eqb p q && ltb q places)) → (q : ℕ) → (holds one q ≡ true) ↔ (q ≡ p)
one_there p one room at q = (
  λ h. sym (eqb-true p q ((and_iff (eqb p q) (ltb q places)).0 (sym (at q) ∙ h)).0),
  λ e. at q ∙ (and_iff (eqb p q) (ltb q places)).1 (eq-eqb p q (sym e), lt-ltb q places (omega arith)),
)

-- without it fewer are left
pub left_falls : (left one rest : PositionSet) (p : ℕ) → holds left p ≡ true → holds one p ≡ true → ((q : ℕ) → holds rest q ≡ (holds left q && not (holds one q)))
    → count_of (holds rest) < count_of (holds left)
left_falls left one rest p there alone without =
    grows rest left (λ q h. ((rest_iff (holds left q) (holds one q)).0 (sym (without q) ∙ h)).0)
    (λ k. off_on ((rest_iff (holds left p) (holds one p)).0 (sym (without p) ∙ k p there)).1 alone)

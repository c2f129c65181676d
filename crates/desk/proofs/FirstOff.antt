-- The lowest label that is off in a state, by `trailing_zeros` of the state turned round. Knows words and bits; no code.
use mathlib.Core.Path.{◌≡◌, sym, ap, ◌∙◌}
use mathlib.Core.Bool.{Bool, not, ◌&&◌}
use Prim.Native.Nat.{ℕ, ◌+◌, ◌-◌, ◌^◌, ◌≤◌, ◌<◌}
use native.Mathlib.Omega.{arith}
use borrow.Author.Tests.{lt-ltb, le-ltb}
use lib.Count.{count_trailing_zeros}
use Rattle.std.specs.Prelude.{Some, None}
use Rattle.laws.specs.Bit.{on, first_below}
use Rattle.laws.proofs.First.{first_found, first_least, first_at, first_none, first_trailing}
use Rattle.laws.proofs.Shift.{on_not}
use Rattle.meaning.specs.Limits.{fluent_limit}
use Rattle.desk.specs.Log.{carton_limit}
use Rattle.desk.specs.Labels.{lowest_off}

-- the first bit that is off in a word
abbrev pub first_off : ℕ → ℕ
first_off state = count_trailing_zeros fluent_limit ((2 ^ fluent_limit - 1) - state)

module _ (cartons state : ℕ) (few : cartons ≤ carton_limit) (word : state < 2 ^ fluent_limit) where
  off : ℕ → Bool
  off i = not (on state i)

  turned : ℕ
  turned = (2 ^ fluent_limit - 1) - state

  -- a label is off exactly if its bit is on in the turned word
  on_turned : (i : ℕ) → i < cartons → on turned i ≡ off i
  unfolding turned off
  on_turned i h = on_not fluent_limit word i ∙ ap (λ (b : Bool). b && not (on state i)) (lt-ltb i fluent_limit (omega arith))

  first_is : first_below fluent_limit (on turned) ≡ first_off state
  unfolding turned
  first_is = first_trailing fluent_limit ((2 ^ fluent_limit - 1) - state)

  pub lowest_some : first_off state < cartons → lowest_off cartons state ≡ Some (first_off state + 1)
  unfolding off
  lowest_some h =
      let e = first_is in
      let low : first_below fluent_limit (on turned) < cartons = omega arith in
      let found = sym (on_turned _ low) ∙ first_found fluent_limit (on turned) (omega arith) in
      let first : first_below cartons off ≡ first_off state =
      first_at cartons off low found (λ i l. sym (on_turned i (omega arith)) ∙ first_least fluent_limit (on turned) i l) ∙ e in
      rw (first, lt-ltb (first_off state) cartons h)

  pub lowest_none : (first_off state < cartons → ⊥) → lowest_off cartons state ≡ None
  unfolding off
  lowest_none h =
      let e = first_is in
      let first : first_below cartons off ≡ cartons =
      (first_none cartons off).1 (λ i l. sym (on_turned i l) ∙ first_least fluent_limit (on turned) i (omega arith)) in
      rw (first, le-ltb cartons cartons (omega arith))

-- Any two answers that the contracts of this crate allow are equal: the rule stands there, the rows are those of a log, and the set lies at or before now.
use mathlib.Core.Path.{◌≡◌, sym, ◌∙◌}
use mathlib.Core.Bool.{Bool}
use mathlib.Core.List.{List}
use Prim.Native.Nat.{ℕ, ◌^◌, ◌<◌}
use native.Mathlib.Decide.{dec_lt}
use native.Mathlib.Omega.{arith}
use Rattle.laws.specs.Bit.{on}
use Rattle.laws.proofs.On.{on_high, same_bits}
use Rattle.laws.proofs.Truth.{same_truth}
use Rattle.meaning.specs.Limits.{action_limit}
use Rattle.meaning.specs.Theory.{World}
use Rattle.positions.specs.declared.PositionSet.{PositionSet}
use Rattle.positions.specs.Positions.{holds, Proper}
use Rattle.positions.proofs.Held.{same_set}
use Rattle.runs.specs.Image.{Set, UpTo}
use Rattle.runs.specs.Found.{Tabled, WalkHere, TestHere, WalkFound, TestFound, AskFound}

module _ {text ends rows bound : List ℕ} {at now : ℕ} {from : Set} (w : World) (tabled : Tabled w rows bound now) (low : UpTo now from) where
  -- `run::walk`, `run::test`
  pub walk_determined : {back : Bool} → WalkHere text ends at → (r s : PositionSet) → Proper r → Proper s → WalkFound text at back rows bound now from (holds r)
      → WalkFound text at back rows bound now from (holds s) → r ≡ s
  walk_determined here r s proper proper' f g =
      let one = f.found w tabled low here.walk here.stands in
      let two = g.found w tabled low here.walk here.stands in
      same_set r s proper proper' (λ q. same_truth (holds r q) (holds s q) (λ k. (two.each q).1 ((one.each q).0 k)) (λ k. (one.each q).1 ((two.each q).0 k)))

  pub test_determined : TestHere text ends at → (r s : PositionSet) → Proper r → Proper s → TestFound text at rows bound now from (holds r)
      → TestFound text at rows bound now from (holds s) → r ≡ s
  test_determined here r s proper proper' f g =
      let one = f.found w tabled low here.test here.stands in
      let two = g.found w tabled low here.test here.stands in
      same_set r s proper proper' (λ q. same_truth (holds r q) (holds s q) (λ k. (two.each q).1 ((one.each q).0 k)) (λ k. (one.each q).1 ((two.each q).0 k)))

  -- `run::asks`
  pub asks_determined : {may : ℕ → Bool} → WalkHere text ends at → (a b : ℕ) → a < 2 ^ action_limit → b < 2 ^ action_limit → AskFound may text at rows bound now from a
      → AskFound may text at rows bound now from b → a ≡ b
  asks_determined here a b short short' f g = same_bits a b (λ i. elim (dec_lt i action_limit) [
    | yes small ↦
        let one = f.found w tabled low here.walk here.stands i small in
        let two = g.found w tabled low here.walk here.stands i small in
        same_truth (on a i) (on b i) (λ k. two.1 (one.0 k)) (λ k. one.1 (two.0 k))
    | no high ↦ on_high action_limit short (omega arith) ∙ sym (on_high action_limit short' (omega arith))
  ])

-- A law of what goes into the lent slots: a count and an earliest position are small. No code.
use mathlib.Core.Logic.{inl, inr}
use mathlib.Core.List.{List}
use Prim.Native.Nat.{ℕ, ◌≤◌}
use native.Mathlib.Omega.{arith}
use Rattle.laws.proofs.Count.{count_le}
use Rattle.laws.proofs.First.{first_le}
use Rattle.meaning.specs.Limits.{places}
use Rattle.theory.specs.Subject.{Subject}
use Rattle.ask.specs.Reach.{ReachAnswered}

pub reach_small : {s : Subject} {bytes : List ℕ} {then now number set count earliest : ℕ}
    → ReachAnswered s bytes then now number set count earliest → (count ≤ places) × (earliest ≤ places)
reach_small (inl r) = (omega (arith, r.blank.1), omega (arith, r.blank.2))
reach_small (inr r) =
    let found = r.right.reached in (
      omega (arith, found.reached.counted, count_le places found.held),
      omega (arith, found.reached.first, first_le places found.held),
    )

-- `evaluator::evaluator::last_star` meets its contract: each byte gone over is a `*`.
use Prim.Native.Nat.{◌-◌}
use Rattle.runs.specs.Slots.{StarsTo}
use Rattle.evaluator.proofs.evaluator.last_star.Given as goal

abbrev pub invariant-loop-next : goal.invariant-loop-next
invariant-loop-next l = StarsTo l.text l.at (l.next - 1)

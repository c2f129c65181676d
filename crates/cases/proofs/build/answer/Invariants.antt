use Rattle.std.proofs.Common.{◌≤◌, length}
use Rattle.cases.proofs.build.answer.Given as goal

-- what is there stays within the room
abbrev pub invariant-loop-line : goal.invariant-loop-line
invariant-loop-line l =
    (goal.iterator-loop-line).can_next l.line-iterator × (goal.iterator-loop-line).is_finite l.line-iterator × (l.n ≤ length l.out)

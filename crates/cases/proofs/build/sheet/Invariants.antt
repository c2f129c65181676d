use Rattle.std.proofs.Common.{◌≤◌, length}
use Rattle.std.specs.Slice.Iter.{split_inclusive_rest}
use Rattle.cases.proofs.build.sheet.Given as goal

-- what is there stays within the room, and what is left of the row within what is left of the table
abbrev pub invariant-loop-line : goal.invariant-loop-line
invariant-loop-line l =
    (goal.iterator-loop-line).can_next l.line-iterator
    × (goal.iterator-loop-line).is_finite l.line-iterator
    × (length (split_inclusive_rest l.line-iterator) ≤ length l.rest)
    × (goal.iterator-loop-k).can_next l.lines
    × (goal.iterator-loop-k).is_finite l.lines
    × (l.n ≤ length l.out)

abbrev pub invariant-loop-k : goal.invariant-loop-k
invariant-loop-k l =
    (goal.iterator-loop-k).can_next l.lines × (goal.iterator-loop-k).is_finite l.lines × (l.n ≤ length l.out)

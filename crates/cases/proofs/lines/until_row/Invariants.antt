use Rattle.std.proofs.Common.{◌≡◌, ◌+◌, length}
use Rattle.std.specs.Slice.Iter.{split_inclusive_rest}
use Rattle.cases.proofs.lines.until_row.Given as goal

-- what was gone over and what is left of the text are all of it
abbrev pub invariant-loop-line : goal.invariant-loop-line
invariant-loop-line l =
    (goal.iterator-loop-line).can_next l.line-iterator
    × (goal.iterator-loop-line).is_finite l.line-iterator
    × (l.end + length (split_inclusive_rest l.line-iterator) ≡ length l.text)

-- `sheet_lines::versions::widen` meets its contract. The loop's invariant: the actions from a on have their rows.
use Rattle.sheet_lines.proofs.Widen.{Widened}
use Rattle.sheet_lines.proofs.versions.widen.Given as goal

abbrev pub invariant-loop-a : goal.invariant-loop-a
invariant-loop-a l = Widened l.initial.masks l.masks l.actions l.a

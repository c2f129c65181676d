-- `desk::labels::fill` meets its contract. The loop's invariant: the rows of the prints below a are filled.
use Rattle.desk.proofs.Table.{Filled}
use Rattle.desk.proofs.labels.fill.Given as goal

abbrev pub invariant-loop-a : goal.invariant-loop-a
invariant-loop-a l = Filled l.masks l.a

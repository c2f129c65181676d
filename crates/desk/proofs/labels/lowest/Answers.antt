-- `desk::labels::lowest` meets its contract: the first bit that is off, where it is a label's.
use mathlib.Core.Path.{sym}
use native.Mathlib.Omega.{arith}
use Rattle.desk.proofs.FirstOff.{lowest_some, lowest_none}
use Rattle.desk.proofs.labels.lowest.Goals as goal

pub returns-then-first-cartons : goal.returns-then-first-cartons
returns-then-first-cartons c = sym (lowest_some c.args.cartons c.args.out (omega arith) c.ranges.out.fits c.if-first-cartons.true)

pub returns-else-first-cartons : goal.returns-else-first-cartons
returns-else-first-cartons c = sym (lowest_none c.args.cartons c.args.out (omega arith) c.ranges.out.fits (λ h. omega arith))

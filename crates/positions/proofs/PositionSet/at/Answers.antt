-- `at` holds its position, if that is one of the places.
use Rattle.positions.proofs.Word.{at_place, at_no_place}
use Rattle.positions.proofs.PositionSet.at.Goals as goal

pub returns-then-p-lt-PLACES : goal.returns-then-p-lt-PLACES
returns-then-p-lt-PLACES c = at_place c.args.p c.if-p-lt-PLACES.true

pub returns-else-p-lt-PLACES : goal.returns-else-p-lt-PLACES
returns-else-p-lt-PLACES c = at_no_place c.args.p c.if-p-lt-PLACES.false

-- `has` is whether the position is held; past the last place none is.
use Rattle.positions.proofs.Word.{has_place, has_no_place}
use Rattle.positions.proofs.PositionSet.has.Goals as goal

pub returns-then-p-lt-PLACES : goal.returns-then-p-lt-PLACES
returns-then-p-lt-PLACES c = has_place c.args.self c.args.p c.if-p-lt-PLACES.true

pub returns-else-p-lt-PLACES : goal.returns-else-p-lt-PLACES
returns-else-p-lt-PLACES c = has_no_place c.args.self c.args.p c.if-p-lt-PLACES.false

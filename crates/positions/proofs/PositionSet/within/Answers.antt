-- `within` is true exactly where this set, without the other, is empty.
use mathlib.Core.Logic.Iff
use Rattle.positions.proofs.Held.{inside_empty}
use Rattle.positions.proofs.PositionSet.within.Goals as goal

pub returns : goal.returns
returns c =
    Iff.trans c.is_empty.ensures
    (inside_empty c.args.self c.args.other c.without-rest.result c.without-rest.ensures)

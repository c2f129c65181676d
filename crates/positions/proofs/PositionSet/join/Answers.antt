-- `join` holds what either set holds.
use Rattle.positions.proofs.Word.{join_word}
use Rattle.positions.proofs.PositionSet.join.Goals as goal

pub returns : goal.returns
returns c = join_word c.args.self c.args.other

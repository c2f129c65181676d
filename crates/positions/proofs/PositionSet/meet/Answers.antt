-- `meet` holds what both sets hold.
use Rattle.positions.proofs.Word.{meet_word}
use Rattle.positions.proofs.PositionSet.meet.Goals as goal

pub returns : goal.returns
returns c = meet_word c.args.self c.args.other

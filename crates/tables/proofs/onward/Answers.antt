-- `tables::onward` meets its contract.
use Rattle.tables.proofs.Marks.{from_iff}
use Rattle.tables.proofs.onward.Goals as goal

pub returns : goal.returns
returns c q = from_iff c.args.p c.args.n q c.requires.0 c.requires.1

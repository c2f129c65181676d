-- `ask::judged` meets its contract: the log is transposed, and the test told over its rows.
use mathlib.Core.Path.{refl}
use Rattle.ask.proofs.judged.Goals as goal

pub returns : goal.returns
returns c = c.true_at.ensures.each _ refl refl c.requires c.transpose.ensures

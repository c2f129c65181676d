-- `finish::follow::stepped` meets its contract: one step more is one place further on.
use mathlib.Core.Path.{refl}
use native.Mathlib.Omega.{arith}
use Rattle.finish.proofs.Rounds.{one_longer}
use Rattle.finish.proofs.follow.stepped.Goals as goal

pub returns : goal.returns
returns c = (refl, one_longer c.args.behind _ (omega arith))

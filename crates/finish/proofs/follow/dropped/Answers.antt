-- `finish::follow::dropped` meets its contract.
use native.Mathlib.Omega.{arith}
use Rattle.finish.proofs.Turns.{gone_there}
use Rattle.finish.proofs.follow.dropped.Goals as goal

pub returns : goal.returns
returns c i h e off = gone_there c.args.put c.args.drop i (omega arith) h e off

-- `finish::truth::Job::may_be` meets its contract: a line for each need, by the law of its sign. The measure is the text that is left.
use Prim.Native.Nat.{◌-◌}
use lib.ListN.{length}
use Rattle.finish.proofs.truth.Job.+may_be.Given as goal

abbrev pub decreases-may_be : goal.decreases-may_be
decreases-may_be l = length l.self.text.now - l.at

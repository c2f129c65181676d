-- `ask::job::asked` meets its contract: what the job asks for from 0 alone.
use Rattle.ask.proofs.Jobs.{asked_right}
use Rattle.ask.proofs.job.asked.Goals as goal

pub returns : goal.returns
returns c = asked_right c.at-front.ensures c.asks.ensures

-- `standins::decisive` meets its contract. The loop's invariant: the word holds the fluents of the actions gone over.
use Rattle.standins.proofs.Words.{decisive_none, decisive_more}
use Rattle.standins.proofs.decisive.Goals as goal

pub loop-a-init : goal.loop-a-init
loop-a-init c = decisive_none _

pub loop-a-preserved : goal.loop-a-preserved
loop-a-preserved c = decisive_more _ _ _ _ c.deciding-all.ensures c.loop-a.invariant

-- `standins::named` meets its contract. The loop's invariant: the word holds the numbers of the places gone over.
use Rattle.standins.proofs.Words.{named_none, named_more}
use Rattle.standins.proofs.named.Goals as goal

pub loop-at-init : goal.loop-at-init
loop-at-init c = named_none _ _ _

pub loop-at-preserved : goal.loop-at-preserved
loop-at-preserved c = named_more _ _ _ _ _ _ c.bit_behind-all.ensures c.loop-at.invariant

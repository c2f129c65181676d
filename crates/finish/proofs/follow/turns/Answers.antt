-- `finish::follow::turns` meets its contract. The loop's invariant: so it is for the actions gone over.
use native.Mathlib.Omega.{arith}
use Rattle.theory.specs.Subject.{table_masks}
use Rattle.finish.proofs.Turns.{reach_none, reach_more}
use Rattle.finish.proofs.follow.turns.Goals as goal

pub loop-a-init : goal.loop-a-init
loop-a-init c = reach_none _ _ _ (omega arith) (omega arith)

pub loop-a-preserved : goal.loop-a-preserved
loop-a-preserved c =
    let a = c.args in
    let k = c.loop-a in
    reach_more (table_masks a.masks.now) a.state k.a k.ons k.offs c.dropped-gone.result c.dropped-gone2.result c.dropped-gone.ensures c.dropped-gone2.ensures k.invariant

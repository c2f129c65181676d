-- `desk::labels::fill` meets its contract. The loop's invariant: the rows of the prints below a are filled.
use mathlib.Core.Path.{◌≡◌, subst}
use native.Mathlib.Omega.{arith}
use Rattle.desk.proofs.Table.{Filled, own_mask, own_some, same_masks, row_set, filled_more, filled_all}
use Rattle.desk.proofs.labels.fill.Goals as goal

pub overflow_sub-lower : goal.overflow_sub-lower
overflow_sub-lower c = own_some c.loop-a.a (omega arith)

pub loop-a-preserved : goal.loop-a-preserved
loop-a-preserved c =
    let loop = c.loop-a in
    let own = own_mask loop.a (omega arith) in
    let set = row_set _ _ loop.a _ _ _ _ (omega arith) loop.invariant.room c.plain_row.ensures in
    filled_more set (same_masks (omega (arith, own)) (omega arith) own (omega arith)) loop.invariant

pub returns : goal.returns
returns c =
    let loop = c.loop-a in
    let cartons = c.args.cartons in
    let ends : loop.a ≡ cartons = omega arith in
    let all = own_mask cartons (omega arith) in
    let set = row_set _ _ cartons _ _ _ _ (omega arith) loop.invariant.room c.plain_row-2.ensures in
    filled_all (omega arith) set (same_masks (omega arith) (omega arith) (omega arith) (omega (arith, all))) (subst (Filled loop.masks) ends loop.invariant)

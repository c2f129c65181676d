-- `sheet::act::read_table` meets its contract: where a line has four masks, each is made into a row.
use Rattle.sheet.proofs.Acts.{table_widened}
use Rattle.sheet.proofs.act.read_table.Goals as goal

pub returns-then-head-eq-PLAIN_STRIDE : goal.returns-then-head-eq-PLAIN_STRIDE
returns-then-head-eq-PLAIN_STRIDE c =
    let a = c.args in
    table_widened a.sheet.now a.head a.masks.now c.read_acts.new.masks c.in_ok-last.last c.in_ok-last.ensures c.widen.new.masks c.if-head-eq-PLAIN_STRIDE.true c.widen.ensures

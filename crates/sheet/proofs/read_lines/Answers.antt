-- `sheet::read_lines` meets its contract. Assumes nothing.
use native.Mathlib.Omega.{arith}
use lib.ListN.{take}
use Rattle.sheet.specs.Sections.{table_in}
use Rattle.sheet.proofs.Whole.{room_for, lines_found}
use Rattle.sheet.proofs.read_lines.Goals as goal

pub returns : goal.returns
returns c =
    let a = c.args in
    let h = c.in_ok-head.head in
    let masks = c.read_table.new.masks in
    lines_found a.sheet.now h a.masks.now masks a.log.now _ c.in_ok-last.last c.in_ok-head.ensures c.in_ok-last.ensures
    (omega (arith, c.read_table.auto.masks, room_for h c.in_ok-head.ensures.ranged))
    c.read_rest.result
    (c.read_rest.ensures (take (table_in h) masks))

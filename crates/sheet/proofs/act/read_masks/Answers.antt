-- `sheet::act::read_masks` meets its contract. The loop has read the first masks into the row. Assumes nothing.
use mathlib.Core.Path.{refl, sym, ap, ◌∙◌}
use native.Mathlib.Omega.{arith}
use lib.ListN.{length, get_or}
use Rattle.spelling.proofs.Stretch.{length_stretch}
use Rattle.sheet_lines.specs.Masks.{row_width}
use Rattle.sheet_lines.proofs.MaskRow.{masks_long}
use Rattle.sheet.proofs.MaskReading.{text_mask, reading_more, reading_done}
use Rattle.sheet.proofs.act.read_masks.Goals as goal

pub returns-then-end-start : goal.returns-then-end-start
returns-then-end-start c =
    let a = c.args in
    let long = length_stretch a.sheet.now a.start a.end (omega arith) in
    (record { front = refl; back = refl }, λ m row e. c.if-end-start.true (sym long ∙ ap length e ∙ masks_long m ∙ ap row_width row.long))

pub returns-in-None : goal.returns-in-None
returns-in-None c =
    let a = c.args in (
      c.loop-j.invariant.only,
      λ m row e.
          c.in-None.ensures (get_or m c.loop-j.j 0) (text_mask a.sheet.now a.start a.end a.count c.loop-j.j m c.if-end-start.false c.loop-j-test.true row e),
    )

pub loop-j-preserved : goal.loop-j-preserved
loop-j-preserved c = reading_more _ _ _ _ _ _ _ _ c.requires.4 c.loop-j.invariant c.loop-j-test.true c.in-Some.ensures

pub returns : goal.returns
returns c =
    let k = c.loop-j in
    let a = c.args in
    (k.invariant.only, reading_done a.sheet.now a.start a.end _ _ _ _ _ k.invariant c.loop-j-test.false c.requires.2 c.requires.4 c.requires.1 c.if-end-start.false)

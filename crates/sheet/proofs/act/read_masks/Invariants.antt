-- `sheet::act::read_masks` meets its contract. The loop has read the first masks into the row. Assumes nothing.
use Rattle.sheet.proofs.MaskReading.{Reading}
use Rattle.sheet.proofs.act.read_masks.Given as goal

abbrev pub invariant-loop-j : goal.invariant-loop-j
invariant-loop-j l = Reading l.sheet l.start l.initial.masks l.masks l.row l.count l.j

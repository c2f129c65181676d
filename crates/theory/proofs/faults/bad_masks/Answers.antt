-- `theory::faults::bad_masks` meets its contract: all masks as one, and what that one names.
use mathlib.Core.Logic.Iff
use Rattle.theory.proofs.Lacking.{masks_lacking_iff}
use Rattle.theory.proofs.faults.bad_masks.Goals as goal

pub returns : goal.returns
returns c =
    let a = c.args in
    Iff.trans
    c.names_lacking.ensures
    (masks_lacking_iff a.fluents a.start a.masks.now c.union-all.result c.union-all.ensures)

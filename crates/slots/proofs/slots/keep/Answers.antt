-- `slots::slots::keep` meets its contract: past the end nothing is stored.
use Rattle.runs.proofs.Keeping.{not_stored}
use Rattle.slots.proofs.slots.keep.Goals as goal

pub returns-else-i-slots : goal.returns-else-i-slots
returns-else-i-slots c =
    let a = c.args in
    not_stored a.slots.now a.i c.if-i-slots.false

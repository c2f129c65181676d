-- `slots::slots::kept` meets its contract: a slot that is not lent has nothing.
use mathlib.Core.Path.{sym, ◌∙◌}
use Rattle.positions.proofs.Held.{nothing_held}
use Rattle.runs.proofs.Keeping.{empty_slot, no_slot}
use Rattle.slots.proofs.slots.kept.Goals as goal

pub returns-else-i-slots : goal.returns-else-i-slots
returns-else-i-slots c = λ q.
    let a = c.args in
    nothing_held q ∙ sym (empty_slot a.slots.now a.i (no_slot a.slots.now c.if-i-slots.false) q)

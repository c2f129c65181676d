-- `slots::slots::clear` meets its contract: place by place, and where the table ends nothing is left to clear.
use Rattle.runs.specs.Slots.{Cleared}
use Rattle.slots.proofs.slots.clear.Given as goal

abbrev pub invariant-loop-i : goal.invariant-loop-i
invariant-loop-i l = Cleared l.text l.initial.slots l.from l.i l.slots

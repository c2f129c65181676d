-- `sheet::act::read_acts` meets its contract. The loop has read the first actions. Assumes nothing.
use Rattle.sheet.proofs.Acts.{Acts}
use Rattle.sheet.proofs.act.read_acts.Given as goal

abbrev pub invariant-loop-a : goal.invariant-loop-a
invariant-loop-a l = Acts l.sheet l.head l.initial.masks l.masks l.a l.last

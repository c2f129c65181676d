-- `finish::tries::doable` meets its contract. The loop's invariant: the word holds the possible ones of the actions gone over.
use Rattle.finish.specs.Found.{Doable}
use Rattle.finish.proofs.tries.doable.Given as goal

abbrev pub invariant-loop-a : goal.invariant-loop-a
invariant-loop-a l = Doable l.a l.masks l.state l.these

-- `standins::decisive` meets its contract. The loop's invariant: the word holds the fluents of the actions gone over.
use Rattle.standins.specs.Worth.{Decisive}
use Rattle.standins.proofs.decisive.Given as goal

abbrev pub invariant-loop-a : goal.invariant-loop-a
invariant-loop-a l = Decisive l.masks l.a l.all

-- `standins::named` meets its contract. The loop's invariant: the word holds the numbers of the places gone over.
use Rattle.standins.specs.Worth.{Named}
use Rattle.standins.proofs.named.Given as goal

abbrev pub invariant-loop-at : goal.invariant-loop-at
invariant-loop-at l = Named l.text l.one l.other l.at l.all

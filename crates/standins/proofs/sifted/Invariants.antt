-- `standins::sifted` meets its contract. The loop's invariant: of the actions gone over, those that have a stand-in are left out, and no other is.
use Rattle.standins.specs.Worth.{others, Sifted}
use Rattle.standins.proofs.sifted.Given as goal

abbrev pub invariant-loop-b : goal.invariant-loop-b
invariant-loop-b l = Sifted l.masks l.unnamed (others l.matter) l.b l.kept

-- `standins::like_smaller` meets its contract. The loop's invariant: none of the actions gone over is one of these and like b.
use Prim.Native.Nat.{◌≤◌}
use Rattle.standins.specs.Worth.{Like}
use Rattle.standins.proofs.like_smaller.Given as goal

abbrev pub invariant-loop-a : goal.invariant-loop-a
invariant-loop-a l = (like : Like l.masks l.these l.matter l.b) → l.a ≤ like.by

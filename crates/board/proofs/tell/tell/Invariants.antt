-- `board::tell::tell` meets its contract. The loop's invariant: whatever tests the text falls into, the first k are told, and the others stand from here on.
use mathlib.Core.List.{List}
use Prim.Native.Nat.{ℕ, ◌≤◌}
use lib.ListN.{length}
use Rattle.board.specs.Tests.{FallsInto}
use Rattle.board.proofs.Telling.{Going}
use Rattle.board.proofs.tell.tell.Given as goal

abbrev pub invariant-loop-k : goal.invariant-loop-k
invariant-loop-k l = (l.at ≤ length l.text) × ((tests : List (List ℕ)) → FallsInto l.text tests → Going l.s l.text l.rows l.then l.now l.initial.out l.k l.at l.out tests)

-- `theory::log::state_at` meets its contract. The loop's invariant: the state is that after the steps passed.
use mathlib.Core.Path.{◌≡◌}
use mathlib.Core.List.{List}
use Prim.Native.Nat.{ℕ}
use Rattle.meaning.specs.Theory.{World, state_before}
use Rattle.theory.specs.Subject.{setting_of, subject_of, world_of}
use Rattle.theory.proofs.log.state_at.Given as goal

-- the world as far as a state depends on it: the counts do not matter
abbrev pub world : ℕ → List ℕ → List ℕ → World
world start masks log = world_of (subject_of (setting_of 0 0 0 start 0) masks log)

abbrev pub invariant-loop-a : goal.invariant-loop-a
invariant-loop-a l = l.state ≡ state_before (world l.initial.state l.asked.masks.now l.asked.log.now) l.a-index

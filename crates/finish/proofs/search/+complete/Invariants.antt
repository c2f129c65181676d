-- `finish::search::complete` meets its contract: by recursion on how many actions are left. The loop's invariant: the log still stands in front, and no
-- action gone over has a rest that completes the job.
use mathlib.Core.Path.{◌≡◌}
use lib.ListN.{length, take}
use Rattle.theory.specs.Subject.{subject_of, world_of}
use Rattle.tables.specs.Tables.{Describes}
use Rattle.finish.proofs.Trail.{Passed}
use Rattle.finish.proofs.search.+complete.Given as goal

-- how many actions are left
abbrev pub decreases-complete : goal.decreases-complete
decreases-complete l = l.left

abbrev pub invariant-loop-a : goal.invariant-loop-a
invariant-loop-a l = record {
  long : length l.trail ≡ length l.initial.trail;
  kept : take l.n l.trail ≡ take l.n l.initial.trail;
  passed : Passed l.s l.masks l.job.text.now (take l.n l.initial.trail) l.rest l.a;
  shown : Describes (world_of (subject_of l.s l.masks (take l.n l.initial.trail))) l.rows;
}

-- `finish::search::first` meets its contract: the job as it stands, and then the lengths from 1 up. The loop's invariant: the log still stands in front, its rows are there, and no
-- shorter sequence completes the job.
use mathlib.Core.Path.{◌≡◌}
use lib.ListN.{length, take}
use Rattle.theory.specs.Subject.{subject_of, world_of}
use Rattle.tables.specs.Tables.{Describes}
use Rattle.finish.proofs.Shorter.{Fewer}
use Rattle.finish.proofs.search.first.Given as goal

abbrev pub invariant-loop-k : goal.invariant-loop-k
invariant-loop-k l = record {
  long : length l.trail ≡ length l.initial.trail;
  kept : take l.n l.trail ≡ take l.n l.initial.trail;
  fewer : Fewer l.s l.masks l.job.text.now (take l.n l.initial.trail) l.k;
  shown : Describes (world_of (subject_of l.s l.masks (take l.n l.initial.trail))) l.rows;
}

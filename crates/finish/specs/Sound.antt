-- What the functions of the search take for granted: what the checks of a call leave of its arguments. Knows no code.
use Rattle.std.specs.Prelude.{◌≡◌, false, List, ℕ, ◌+◌, ◌≤◌, ◌<◌, length, get_or, take}
use Rattle.meaning.specs.Limits.{log_limit, places, text_limit, more_limit}
use Rattle.meaning.specs.Rule.{Walk, of_walk, backward}
use Rattle.meaning.specs.Theory.{World, run}
use Rattle.tables.specs.Tables.{Describes}
use Rattle.grammar.specs.Standing.{Stands}
use Rattle.runs.specs.Found.{WalkHere}
use Rattle.standins.specs.Worth.{Table}

-- the table is one of so many actions, and the log is one of this theory
pub record Logged (actions : ℕ) (masks log : List ℕ) : Type 0 where
  pub table : Table actions masks
  pub short : length log ≤ log_limit
  pub known : (k : ℕ) → k < length log → get_or log k 0 < actions

-- and a walk stands at the front of the job's text
pub record Node (actions : ℕ) (masks job ends log : List ℕ) : Type 0 where
  pub logged : Logged actions masks log
  pub stands : WalkHere job ends 0

-- the trail has the log and what is tried in its first n places, and room for `left` actions more
pub record Ready (actions : ℕ) (masks job ends trail : List ℕ) (n left : ℕ) : Type 0 where
  pub node : Node actions masks job ends (take n trail)
  pub room : length trail ≡ places
  pub fits : n + left ≤ log_limit

-- the rows are those of a world's log, and this is the state behind it
pub record Shown (w : World) (rows : List ℕ) (state : ℕ) : Type 0 where
  pub described : Describes w rows
  pub here : state ≡ run w.masks w.start w.log

-- the job's text is that of this walk, which goes onward only
pub record JobIs (job : List ℕ) (x : Walk) : Type 0 where
  pub there : Stands job 0 (of_walk x)
  pub onward : backward x ≡ false

-- what is left once every check is passed: a log of the theory, a job, and room for the sequence
pub record Wanted (actions : ℕ) (masks log job : List ℕ) (more room : ℕ) : Type 0 where
  pub logged : Logged actions masks log
  pub short : length job ≤ text_limit
  pub walk : Walk
  pub spelled : JobIs job walk
  pub few : more ≤ more_limit
  pub enough : more ≤ room

-- Which actions may come next: those that the job waits for at the log's end and that are possible there. What the call answers, and when an answer is right.
use Rattle.std.specs.Prelude.{◌≡◌, ◌↔◌, true, List, [], ◌++◌, ℕ, ◌<◌, length}
use Rattle.laws.specs.Bit.{on}
use Rattle.meaning.specs.Theory.{World, Possible, as_job}
use Rattle.meaning.specs.Rule.{Walk, of_walk, job_kind, Opens}
use Rattle.meaning.specs.Asks.{Asks}
use Rattle.meaning.specs.Refusal.{Row, Answered}
use Rattle.theory.specs.Subject.{Subject, counts_of, world_of}
use Rattle.theory.specs.Rows.{world_rows}
use Rattle.rule.specs.Outcome.{text_rows}
use Rattle.finish.specs.Search.{stands}

-- bit a is on exactly where a is an action of the theory, possible at the log's end, and asked for there by the job, with its own tests read as a job's are
abbrev pub MayCome : World → Walk → ℕ → Type 0
MayCome w x actions =
    (a : ℕ) → (on actions a ≡ true) ↔ ((a < w.actions) × Possible (w.masks a) (stands w) × Asks (as_job w) x 0 (length w.log) a)

-- a refusal has no actions
abbrev pub no_actions : ℕ
no_actions = 0

-- the rows of a world, and those of a job
abbrev pub next_rows : Subject → List ℕ → List {1} Row
next_rows s job = world_rows s ++ text_rows true job_kind job (counts_of s)

-- the actions that may come next in the job that the bytes spell
pub record JobNext (w : World) (job : List ℕ) (actions : ℕ) : Type 0 where
  pub walk : Walk
  pub spells : Opens job_kind job (of_walk walk) []
  pub told : MayCome w walk actions

abbrev pub NextAnswered : Subject → List ℕ → ℕ → ℕ → Type 0
NextAnswered s job number actions = Answered (next_rows s job) number (actions ≡ no_actions) (JobNext (world_of s) job actions)

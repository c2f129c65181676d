-- Document 01, "Finish": what the call answers, case by case, and when an answer is right. "Its bytes go to the front of the lent output, the rest keeps its
-- content; the count is returned."
use Rattle.std.specs.Prelude.{◌≡◌, List, [], ◌++◌, ℕ, length, drop}
use Rattle.meaning.specs.Theory.{World}
use Rattle.meaning.specs.Rule.{Walk, of_walk, job_kind, Opens}
use Rattle.meaning.specs.Finish.{First}
use Rattle.meaning.specs.Refusal.{Answered, no_count}
use Rattle.theory.specs.Subject.{Subject, world_of}
use Rattle.finish.specs.Rows.{finish_rows}

-- the first finishing sequence of this job is what was written
pub record Finished (w : World) (job : Walk) (more : ℕ) (before after : List ℕ) (count : ℕ) : Type 0 where
  pub ending : List ℕ
  pub first : First w job more ending
  pub counted : count ≡ length ending
  pub written : after ≡ ending ++ drop (length ending) before

-- and it is the job that the bytes spell
pub record JobFinished (w : World) (job : List ℕ) (more : ℕ) (before after : List ℕ) (count : ℕ) : Type 0 where
  pub walk : Walk
  pub spells : Opens job_kind job (of_walk walk) []
  pub finished : Finished w walk more before after count

-- the number and the count that a call gives, and what the lent output holds after it; a refusal "changes no lent byte"
abbrev pub FinishAnswered : Subject → List ℕ → ℕ → List ℕ → ℕ → ℕ → List ℕ → Type 0
FinishAnswered s job more before number count after =
    Answered (finish_rows s job more (length before)) number ((count ≡ no_count) × (after ≡ before)) (JobFinished (world_of s) job more before after count)

-- Document 01, "What may be asked", reach: what its answer says, and when an answer is right.
use Rattle.std.specs.Prelude.{◌≡◌, List, [], ℕ, Result}
use Rattle.refusal.specs.declared.Refusal.{Refusal}
use Rattle.refusal.specs.Given.{value_given}
use Rattle.meaning.specs.Rule.{Walk, of_walk, walk_kind, Opens}
use Rattle.meaning.specs.Reach.{ReachedAs}
use Rattle.meaning.specs.Refusal.{Answered, no_set, no_count, no_earliest}
use Rattle.theory.specs.Subject.{Subject, world_of}
use Rattle.ask.specs.Rows.{ask_rows}
use Rattle.ask.specs.declared.Reached.{Reached}

-- what a call gives beside the number: "A refusal has set 0, count 0, earliest 64"
abbrev pub none_reached : Reached
none_reached = record { set = no_set; count = no_count; earliest = no_earliest }

abbrev pub reached_given : Result Reached Refusal → Reached
reached_given = value_given none_reached

abbrev pub NothingReached : ℕ → ℕ → ℕ → Type 0
NothingReached set count earliest = (set ≡ no_set) × (count ≡ no_count) × (earliest ≡ no_earliest)

-- what the walk that the bytes spell reaches
pub record WalkReached (s : Subject) (bytes : List ℕ) (then now set count earliest : ℕ) : Type 0 where
  pub walk : Walk
  pub spells : Opens walk_kind bytes (of_walk walk) []
  pub reached : ReachedAs (world_of s) walk then now set count earliest

-- the number, and set, count and earliest, that a call gives
abbrev pub ReachAnswered : Subject → List ℕ → ℕ → ℕ → ℕ → ℕ → ℕ → ℕ → Type 0
ReachAnswered s bytes then now number set count earliest =
    Answered (ask_rows walk_kind s bytes then now) number (NothingReached set count earliest) (WalkReached s bytes then now set count earliest)

-- Document 01, "State at a position": when an answer of the call is right.
use Rattle.std.specs.Prelude.{◌≡◌, ℕ}
use Rattle.meaning.specs.Theory.{state_before}
use Rattle.meaning.specs.Refusal.{Answered, no_state}
use Rattle.theory.specs.Subject.{Subject, world_of}
use Rattle.theory.specs.Rows.{state_rows}

-- the number and the state that a call gives: "A refusal has .. state 0"
abbrev pub StateAnswered : Subject → ℕ → ℕ → ℕ → Type 0
StateAnswered s position number state =
    Answered (state_rows s position) number (state ≡ no_state) (state ≡ state_before (world_of s) position)

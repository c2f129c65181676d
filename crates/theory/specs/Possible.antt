-- Whether an action may be taken at a position: its need bits on and its ban bits off in the state there. What the call answers, and when an answer is right.
use Rattle.std.specs.Prelude.{◌≡◌, Bool, List, ◌∷◌, ◌++◌, ℕ, ◌≤◌, Result}
use Rattle.std.specs.Prelude.{Ok, Err}
use Rattle.std.proofs.Math.Option.{Option, some}
use Rattle.refusal.specs.declared.Refusal.{Refusal}
use Rattle.meaning.specs.Theory.{Possible, state_before}
use Rattle.meaning.specs.Refusal.{Row, ◌when◌, Answered, no_verdict, YesOrNo}
use Rattle.theory.specs.Subject.{Subject, counts_of, world_of}
use Rattle.theory.specs.Rows.{world_rows, position_rows}

-- the verdict, which a refusal has none of
abbrev pub verdict_given : Result Bool Refusal → Option Bool
verdict_given (Err r) = no_verdict
verdict_given (Ok b) = some b

-- 7: an action that the theory lacks
abbrev pub asked_rows : Subject → ℕ → ℕ → List {1} Row
asked_rows s action position = (7 when ((counts_of s).actions ≤ action)) ∷ position_rows s position

abbrev pub possible_rows : Subject → ℕ → ℕ → List {1} Row
possible_rows s action position = world_rows s ++ asked_rows s action position

abbrev pub PossibleAnswered : Subject → ℕ → ℕ → ℕ → Option Bool → Type 0
PossibleAnswered s action position number verdict =
    Answered (possible_rows s action position) number (verdict ≡ no_verdict)
    (YesOrNo (Possible ((world_of s).masks action) (state_before (world_of s) position)) verdict)

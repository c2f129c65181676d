-- A kind as a number: 0 a test, 1 a walk, 2 a job. Any other number is no kind, so that no text is a rule of it.
use Rattle.std.specs.Prelude.{◌≡◌, Result, Ok, Err, cond, List, [], ◌∷◌, ℕ, eqb}
use Rattle.std.proofs.Math.Option.{Option, none, some}
use Rattle.meaning.specs.Rule.{Kind, test_kind, walk_kind, job_kind}
use Rattle.meaning.specs.Refusal.{Row, ◌when◌, Refused}
use Rattle.refusal.specs.declared.Refusal.{Refusal}
use Rattle.refusal.specs.Number.{number_of}
use Rattle.theory.specs.Rows.{CountsOut}
use Rattle.theory.specs.declared.Counts.{Counts}
use Rattle.rule.specs.declared.Kind.{Kind as Asked}
use Rattle.rule.specs.Outcome.{kind_of}

abbrev pub kind_at : ℕ → Option Kind
kind_at k = cond (eqb k 0) (some test_kind) (cond (eqb k 1) (some walk_kind) (cond (eqb k 2) (some job_kind) none))

-- the rows of a call whose kind is none: 3 as ever, and 6 whatever the text
abbrev pub no_kind_rows : Counts → List {1} Row
no_kind_rows counts = (3 when CountsOut counts) ∷ ((6 when Unit {0}) ∷ [])

-- the kind that has this number; or that none has it, and the refusal
abbrev pub KindAnswered : ℕ → Counts → Result Asked Refusal → Type 0
KindAnswered number counts (Ok kind) = kind_at number ≡ some (kind_of kind)
KindAnswered number counts (Err why) = (kind_at number ≡ none) × Refused (no_kind_rows counts) (number_of why)

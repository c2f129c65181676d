-- What the checks within a call answer, one after the other: the rule that opens the text, what its facts decide, and both together.
use Rattle.std.specs.Prelude.{Option, Some, None, Result, Ok, Err, ◌≡◌, ◌⊎◌, Bool, true, List, [], ◌∷◌, ℕ, ◌<◌, ◌≤◌, length}
use Rattle.meaning.specs.Limits.{text_limit, depth_limit}
use Rattle.meaning.specs.Rule.{Kind, job_kind, Rule, text}
use Rattle.meaning.specs.Refusal.{Row, ◌when◌, Refused, Accepted, Allowed}
use Rattle.refusal.specs.declared.Refusal.{Refusal}
use Rattle.refusal.specs.Number.{number_of}
use Rattle.theory.specs.declared.Counts.{Counts}
use Rattle.rule.specs.declared.answer.Facts.{Facts}
use Rattle.rule.specs.Facts.{facts_of}
use Rattle.rule.specs.Outcome.{Spelled, Unspelled, rule_rows}

-- the text is short enough and spells a rule, which has no variables if those have no values, and whose facts these are; or refusal 6 applies
pub record Opening (whole : Bool) (kind : Kind) (domain : ℕ) (bytes : List ℕ) (f : Facts) : Type 0 where
  pub short : length bytes ≤ text_limit
  pub rule : Rule
  pub spells : Spelled whole kind bytes rule
  pub allowed : Allowed domain rule
  pub told : f ≡ facts_of domain (length (text rule)) rule

abbrev pub OpenedAs : Bool → Kind → ℕ → List ℕ → Option Facts → Type 0
OpenedAs whole kind domain bytes None = Unspelled whole kind domain bytes
OpenedAs whole kind domain bytes (Some f) = Opening whole kind domain bytes f

-- the rows that a rule's facts decide
abbrev pub fact_rows : Kind → Counts → Facts → List {1} Row
fact_rows kind counts f =
    (7 when ((counts.actions < f.actions) ⊎ (counts.fluents < f.fluents)))
    ∷ ((8 when (depth_limit < f.depth)) ∷ ((9 when ((kind ≡ job_kind) × (f.backward ≡ true))) ∷ ((13 when (0 < f.free)) ∷ [])))

abbrev pub JudgedAs : Kind → Counts → Facts → Result Facts Refusal → Type 0
JudgedAs kind counts f (Err why) = Refused (fact_rows kind counts f) (number_of why)
JudgedAs kind counts f (Ok g) = (g ≡ f) × Accepted (fact_rows kind counts f)

-- what an accepted rule is, and its facts
pub record Fitting (whole : Bool) (kind : Kind) (bytes : List ℕ) (counts : Counts) (f : Facts) : Type 0 where
  pub accepted : Accepted (rule_rows whole kind bytes counts)
  pub rule : Rule
  pub spells : Spelled whole kind bytes rule
  pub told : f ≡ facts_of counts.domain (length (text rule)) rule

abbrev pub SurveyedAs : Bool → Kind → List ℕ → Counts → Result Facts Refusal → Type 0
SurveyedAs whole kind bytes counts (Err why) = Refused (rule_rows whole kind bytes counts) (number_of why)
SurveyedAs whole kind bytes counts (Ok f) = Fitting whole kind bytes counts f

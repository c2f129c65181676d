-- What `normal` answers: the rows of refusal that the call has, and what goes with an acceptance.
use Rattle.std.specs.Prelude.{◌≡◌, true, List, [], ◌∷◌, ◌++◌, ℕ, length, drop}
use Rattle.meaning.specs.Rule.{Kind, Rule, Opens, text}
use Rattle.meaning.specs.Normal.{normal_rule}
use Rattle.meaning.specs.Refusal.{Row, ◌when◌, Answered, TooShort, no_count}
use Rattle.theory.specs.declared.Counts.{Counts}
use Rattle.rule.specs.Outcome.{Spelled, With, rule_rows}

-- the bytes of the normal form
abbrev pub normal_text : Rule → List ℕ
normal_text r = text (normal_rule r)

-- the rows of a call that reads a rule, and "the lent output is shorter than the normal form"
abbrev pub output_rows : Kind → List ℕ → ℕ → List {1} Row
output_rows kind bytes room = (12 when With (Spelled true kind bytes) (λ r. TooShort room (length (normal_text r)))) ∷ []

abbrev pub normal_rows : Kind → List ℕ → Counts → ℕ → List {1} Row
normal_rows kind bytes counts room = rule_rows true kind bytes counts ++ output_rows kind bytes room

-- "A refusal has .. count 0 .. and changes no lent byte."
pub record Untouched (before : List ℕ) (count : ℕ) (after : List ℕ) : Type 0 where
  pub none : count ≡ no_count
  pub same : after ≡ before

-- "The bytes are written from the front of the lent output, the rest of which keeps its content; their count is returned."
pub record NormalWritten (kind : Kind) (bytes before : List ℕ) (count : ℕ) (after : List ℕ) : Type 0 where
  pub rule : Rule
  pub spells : Opens kind bytes rule []
  pub counted : count ≡ length (normal_text rule)
  pub written : after ≡ normal_text rule ++ drop (length (normal_text rule)) before

abbrev pub NormalAnswered : Kind → List ℕ → Counts → List ℕ → ℕ → ℕ → List ℕ → Type 0
NormalAnswered kind bytes counts before number count after =
    Answered (normal_rows kind bytes counts (length before)) number (Untouched before count after) (NormalWritten kind bytes before count after)

-- What the exported functions for one rule's text promise: a kind is a number, and a part of a text is the place where it begins.
use Rattle.std.specs.Prelude.{◌≡◌, false, List, ℕ, length, drop}
use Rattle.std.proofs.Math.Option.{Option, none, some}
use Rattle.meaning.specs.Rule.{Kind, Rule, Opens, text}
use Rattle.meaning.specs.Refusal.{Answered, Refused, no_count}
use Rattle.theory.specs.declared.Counts.{Counts}
use Rattle.rule.specs.Outcome.{rule_rows}
use Rattle.normal.specs.Answer.{NormalAnswered}
use Rattle.rule_calls.specs.Kinds.{kind_at, no_kind_rows}

-- one rule opens the text, and the rest begins behind it
pub record RuleRead (kind : Kind) (bytes : List ℕ) (rest : ℕ) : Type 0 where
  pub rule : Rule
  pub opens : Opens kind bytes rule (drop rest bytes)
  pub behind : rest ≡ length (text rule)

-- the rest of a text as the place where it begins; a refusal has an empty rest
abbrev pub RestBy : Option Kind → List ℕ → Counts → ℕ → ℕ → Type 0
RestBy (some kind) bytes counts number rest = Answered (rule_rows false kind bytes counts) number (rest ≡ length bytes) (RuleRead kind bytes rest)
RestBy none bytes counts number rest = Refused (no_kind_rows counts) number × (rest ≡ length bytes)

abbrev pub RestExported : ℕ → List ℕ → Counts → ℕ → ℕ → Type 0
RestExported kind bytes counts number rest = RestBy (kind_at kind) bytes counts number rest

abbrev pub NormalBy : Option Kind → List ℕ → Counts → List ℕ → ℕ → ℕ → List ℕ → Type 0
NormalBy (some kind) bytes counts before number count after = NormalAnswered kind bytes counts before number count after
NormalBy none bytes counts before number count after = Refused (no_kind_rows counts) number × (count ≡ no_count) × (after ≡ before)

abbrev pub NormalExported : ℕ → List ℕ → Counts → List ℕ → ℕ → ℕ → List ℕ → Type 0
NormalExported kind bytes counts before number count after = NormalBy (kind_at kind) bytes counts before number count after

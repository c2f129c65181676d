-- Within the call: what its steps ask and promise of the whole text and of the output.
use Rattle.std.specs.Prelude.{◌≡◌, Result, Ok, Err, List, [], ℕ, ◌≤◌, length}
use Rattle.std.proofs.lemmas.List.Edits.{sets}
use Rattle.meaning.specs.Limits.{text_limit}
use Rattle.meaning.specs.Rule.{Kind, Rule, Opens}
use Rattle.meaning.specs.Refusal.{TooShort}
use Rattle.refusal.specs.Number.{number_of}
use Rattle.refusal.specs.declared.Refusal.{Refusal}
use Rattle.normal.specs.Place.{Marked}
use Rattle.normal.specs.Answer.{normal_text}

-- the bytes spell a rule, and are no more than a rule's; and they have their table of ends
pub record ShortRule (kind : Kind) (bytes : List ℕ) : Type 0 where
  pub rule : Rule
  pub spells : Opens kind bytes rule []
  pub short : length bytes ≤ text_limit

pub record SpelledWhole (kind : Kind) (bytes ends : List ℕ) : Type 0 where
  pub rule : Rule
  pub spells : Opens kind bytes rule []
  pub marked : Marked bytes ends

-- its normal form is written as far as there is room, and counted
pub record RuleWritten (kind : Kind) (bytes before : List ℕ) (count : ℕ) (after : List ℕ) : Type 0 where
  pub counted : (r : Rule) → Opens kind bytes r [] → count ≡ length (normal_text r)
  pub written : (r : Rule) → Opens kind bytes r [] → after ≡ sets before 0 (normal_text r)

-- the output is too short for the rule's normal form, and keeps its bytes; or it is written there
abbrev pub ByRoom : Rule → List ℕ → Result ℕ Refusal → List ℕ → Type 0
ByRoom r before (Err why) after = (number_of why ≡ 12) × TooShort (length before) (length (normal_text r)) × (after ≡ before)
ByRoom r before (Ok n) after = (n ≡ length (normal_text r)) × (n ≤ length before) × (after ≡ sets before 0 (normal_text r))

pub record WrittenOut (kind : Kind) (bytes before : List ℕ) (answer : Result ℕ Refusal) (after : List ℕ) : Type 0 where
  pub each : (r : Rule) → Opens kind bytes r [] → ByRoom r before answer after

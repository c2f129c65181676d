-- What the readers answer.
use Rattle.std.specs.Prelude.{Option, Some, None, ◌≡◌, List, ℕ, ◌+◌, length, drop}
use Rattle.meaning.specs.Rule.{Kind, Rule, Opens, text}
use Rattle.rule.specs.declared.answer.Facts.{Facts}
use Rattle.rule.specs.Facts.{facts_of}

-- no rule of the kind opens the text from there on; or one does, and these are its facts, where a variable has so many values
abbrev pub ReadAt : Kind → ℕ → List ℕ → ℕ → Option Facts → Type 0
ReadAt kind domain bytes at None = (rule : Rule) (rest : List ℕ) → Opens kind (drop at bytes) rule rest → ⊥
ReadAt kind domain bytes at (Some f) =
    (rule : Rule) × (rest : List ℕ) × Opens kind (drop at bytes) rule rest × (f ≡ facts_of domain (at + length (text rule)) rule)

-- Where a rule stands in a text, and the table of where each rule ends. Knows document 01's text of a rule.
use Rattle.std.specs.Prelude.{◌≡◌, List, ◌++◌, ℕ, ◌+◌, ◌≤◌, length, drop, get_or}
use Rattle.meaning.specs.Limits.{number_limit}
use Rattle.meaning.specs.Rule.{Walk, act, undo, next, prev, seq, alt, star, check, conv, pick, Rule, text, actions_in, fluents_in, as_written}

-- this rule is written at this place of the text; something may follow it
pub record Stands (bytes : List ℕ) (at : ℕ) (rule : Rule) : Type 0 where
  pub rest : List ℕ
  pub spells : drop at bytes ≡ text rule ++ rest
  pub short_actions : actions_in as_written rule ≤ number_limit
  pub short_fluents : fluents_in as_written rule ≤ number_limit

-- the table says of each rule where the text goes on behind it
pub record Ends (bytes ends : List ℕ) : Type 0 where
  pub each : (at : ℕ) (rule : Rule) → Stands bytes at rule → get_or ends at 0 ≡ at + length (text rule)

-- a walk with no part
abbrev pub Leaf : Walk → Type 0
Leaf (act a) = Unit {0}
Leaf (undo a) = Unit {0}
Leaf next = Unit {0}
Leaf prev = Unit {0}
Leaf (seq v x) = ⊥
Leaf (alt v x) = ⊥
Leaf (star x) = ⊥
Leaf (check t) = ⊥
Leaf (conv x) = ⊥
Leaf (pick v x) = ⊥

-- What a line of the packers' log says: "numbers of labels and the word void". A number is written in plain decimals, as everywhere.
use Rattle.std.specs.Prelude.{◌≡◌, ◌⊎◌, List, ℕ, ◌≤◌, ◌<◌, Option, Some, None}
use Rattle.laws.specs.Text.{bytes}
use Rattle.spelling.specs.Decimal.{decimal}
use Rattle.desk.specs.Log.{label_of, void_of}

-- the line is a label's number, and of none below it
pub record NumberOf (most : ℕ) (line : List ℕ) (label : ℕ) : Type 0 where
  pub above : 1 ≤ label
  pub within : label ≤ most
  pub spells : line ≡ decimal label
  pub first : (lower : ℕ) → 1 ≤ lower → lower < label → line ≡ decimal lower → ⊥

-- or of none at all
abbrev pub NoNumber : ℕ → List ℕ → Type 0
NoNumber most line = (label : ℕ) → 1 ≤ label → label ≤ most → line ≡ decimal label → ⊥

abbrev pub LabelRead : ℕ → List ℕ → Option ℕ → Type 0
LabelRead most line (Some label) = NumberOf most line label
LabelRead most line None = NoNumber most line

abbrev pub Void : List ℕ → Type 0
Void line = line ≡ bytes "void"

-- the action that the line stands for, or that it is neither
abbrev pub EntryIs : ℕ → List ℕ → Option ℕ → Type 0
EntryIs cartons line (Some action) = (Void line × (action ≡ void_of cartons)) ⊎ ((Void line → ⊥) × NumberOf cartons line (label_of action))
EntryIs cartons line None = (Void line → ⊥) × NoNumber cartons line

-- What reading the lines of the actions leaves in the lent mask table: the masks of a line from a row on, and all else as it was.
use Rattle.std.specs.Prelude.{◌≡◌, Option, Some, None, Bool, true, false, List, ℕ, ◌+◌, take, drop}
use Rattle.sheet_lines.specs.Masks.{masks_text, MaskRow, MaskAt}

-- mask j of those that start at this place, if it is one
abbrev pub MaskFound : List ℕ → ℕ → ℕ → Option ℕ → Type 0
MaskFound bytes start j (Some n) = MaskAt bytes start j n
MaskFound bytes start j None = (n : ℕ) → MaskAt bytes start j n → ⊥

-- so many masks of a table from this row on
abbrev pub row_at : List ℕ → ℕ → ℕ → List ℕ
row_at table row count = take count (drop row table)

-- nothing but these has changed
pub record OnlyRow (row count : ℕ) (entry exit : List ℕ) : Type 0 where
  pub front : take row exit ≡ take row entry
  pub back : drop (row + count) exit ≡ drop (row + count) entry

-- the value is the text of the masks that the table now has there, or of no such masks
abbrev pub MasksRead : List ℕ → List ℕ → ℕ → ℕ → Bool → Type 0
MasksRead value table row count true = MaskRow count (row_at table row count) × (value ≡ masks_text (row_at table row count))
MasksRead value table row count false = (masks : List ℕ) → MaskRow count masks → value ≡ masks_text masks → ⊥

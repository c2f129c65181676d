-- Document 01, "The sheet": the masks of an action's line, "as 8 hex digits each with commas between", however many they are.
use Rattle.std.specs.Prelude.{◌≡◌, List, [], ◌∷◌, ◌++◌, ℕ, ◌+◌, ◌-◌, ◌*◌, ◌<◌, ◌^◌, length, get_or, take, drop}
use Rattle.meaning.specs.Limits.{fluent_limit}
use Rattle.spelling.specs.Numeral.{word_width, hex8}
use Rattle.sheet_lines.specs.Limits.{comma}

-- a state or a mask "is a 32-bit number"
abbrev pub Word : ℕ → Type 0
Word n = n < 2 ^ fluent_limit

-- the masks behind the first, a comma before each
unfoldable pub further_text : List ℕ → List ℕ
further_text [] = []
further_text (mask ∷ masks) = comma ∷ (hex8 mask ++ further_text masks)

unfoldable pub masks_text : List ℕ → List ℕ
masks_text [] = []
masks_text (mask ∷ masks) = hex8 mask ++ further_text masks

-- from one mask to the next, and how long so many are: the last has no comma behind it
abbrev pub mask_pitch : ℕ
mask_pitch = word_width + 1

abbrev pub row_width : ℕ → ℕ
row_width count = mask_pitch * count - 1

-- so many masks
pub record MaskRow (count : ℕ) (row : List ℕ) : Type 0 where
  pub long : length row ≡ count
  pub words : (i : ℕ) → i < length row → Word (get_or row i 0)

-- mask j of those that start at this place is this number, and a comma parts it from the one before it
pub record MaskAt (bytes : List ℕ) (start j n : ℕ) : Type 0 where
  pub word : Word n
  pub parted : 0 < j → get_or bytes (start + mask_pitch * j - 1) 0 ≡ comma
  pub shown : take word_width (drop (start + mask_pitch * j) bytes) ≡ hex8 n

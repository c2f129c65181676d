-- Document 01, "The sheet": how numbers and actions are written.
use Rattle.std.specs.Prelude.{cond, List, [], ◌∷◌, ◌++◌, ℕ, zero, suc, ◌+◌, ◌/◌, ◌%◌, ltb}
use Rattle.meaning.specs.Rule.{digits}

-- each line is "ended by one LF"
abbrev pub lf : ℕ
lf = 10

-- the ASCII byte of a digit: `0` to `9`, then `a` to `f`. "Hex is lowercase."
abbrev pub symbol : ℕ → ℕ
symbol d = cond (ltb d 10) (48 + d) (87 + d)

-- the number in this base with so many digits, the highest first
unfoldable pub numeral : ℕ → ℕ → ℕ → List ℕ
numeral base zero n = []
numeral base (suc width) n = numeral base width (n / base) ++ (symbol (n % base) ∷ [])

-- a state or a mask is written as "8 hex digits"
abbrev pub word_width : ℕ
word_width = 8

abbrev pub hex8 : ℕ → List ℕ
hex8 n = numeral 16 word_width n

-- "two digits an action, run together, may be empty"
unfoldable pub log_text : List ℕ → List ℕ
log_text [] = []
log_text (a ∷ log) = digits a ++ log_text log

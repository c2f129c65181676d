-- A variable's letter at a place of a text. "Variables are `v`, `w`, `x`, `y`."
use Rattle.std.specs.Prelude.{◌≡◌, Option, Some, None, List, [], ◌∷◌, ℕ, ◌+◌, drop, get_or}
use Rattle.meaning.specs.Rule.{Variable, var_v, var_w, var_x, var_y, letter}

-- the variables in the order of their letters, and which of them each is
abbrev pub variables : List Variable
variables = var_v ∷ (var_w ∷ (var_x ∷ (var_y ∷ [])))

abbrev pub variable_meant : ℕ → Variable
variable_meant i = get_or variables i var_v

abbrev pub place : Variable → ℕ
place var_v = 0
place var_w = 1
place var_x = 2
place var_y = 3

-- the letter of this variable stands there
abbrev pub Lettered : List ℕ → ℕ → Variable → Type 0
Lettered bytes at v = drop at bytes ≡ letter v ∷ drop (at + 1) bytes

-- the letter of the variable at this place of the order stands there; or no variable's does
abbrev pub LetterAt : List ℕ → ℕ → Option ℕ → Type 0
LetterAt bytes at (Some k) = (v : Variable) × (k ≡ place v) × Lettered bytes at v
LetterAt bytes at None = (v : Variable) (rest : List ℕ) → drop at bytes ≡ letter v ∷ rest → ⊥

-- Document 01, "The sheet" and "Numbers of refusal": one line of a sheet, whatever its key, and when it has which refusal.
use Rattle.std.specs.Prelude.{◌≡◌, List, [], ◌∷◌, ◌++◌, ℕ, ◌+◌, ◌<◌, length, get_or, drop}
use Rattle.meaning.specs.Refusal.{Row, ◌when◌}
use Rattle.spelling.specs.Numeral.{lf}

-- "Lines key=value .., each ended by one LF": from place `at` on the sheet has a line with this key (its `=` with it) and this value.
pub record Line (key bytes : List ℕ) (at : ℕ) (value : List ℕ) : Type 0 where
  pub after : List ℕ
  pub opens : drop at bytes ≡ key ++ (value ++ (lf ∷ after))
  pub ends : (i : ℕ) → i < length value → get_or value i 0 ≡ lf → ⊥

-- a fault that a line can have although it is written as it should be
pub record Judge (A : Type 0) : Type 1 where
  pub number : ℕ
  pub bad : A → Type 0

infix 5 ◌if◌
abbrev pub ◌if◌ : {A : Type 0} → ℕ → (A → Type 0) → Judge A
k if x = record { number = k; bad = x }

-- What a line may say: its key, how what it says is written, how many bytes that takes at most, what is in range, the number of the refusal of anything
-- else, and further faults.
pub record Form : Type 1 where
  pub key : List ℕ
  pub Value : Type 0
  pub spell : Value → List ℕ
  pub width : ℕ
  pub InRange : Value → Type 0
  pub otherwise : ℕ
  pub judges : List {1} (Judge Value)

-- how many bytes a line takes at most: its key, its value and its LF
abbrev pub line_width : Form → ℕ
line_width form = length form.key + form.width + 1

-- the line at this place says this
pub record Says (form : Form) (bytes : List ℕ) (at : ℕ) (said : form.Value) : Type 0 where
  pub line : Line form.key bytes at (form.spell said)
  pub in_range : form.InRange said

-- "the expected key and `=` do not open the line, or its LF is missing"
abbrev pub NoLine : List ℕ → List ℕ → ℕ → Type 0
NoLine key bytes at = (value : List ℕ) → Line key bytes at value → ⊥

-- there is such a line, but its value "is not written as above or out of its range"
pub record Miswritten (form : Form) (bytes : List ℕ) (at : ℕ) : Type 0 where
  pub value : List ℕ
  pub line : Line form.key bytes at value
  pub unsaid : (said : form.Value) → form.InRange said → value ≡ form.spell said → ⊥

-- the line says something, and this is bad
pub record SaysBad (form : Form) (bytes : List ℕ) (at : ℕ) (bad : form.Value → Type 0) : Type 0 where
  pub said : form.Value
  pub says : Says form bytes at said
  pub fault : bad said

abbrev pub judge_rows : (form : Form) → List ℕ → ℕ → List {1} (Judge form.Value) → List {1} Row
judge_rows form bytes at [] = []
judge_rows form bytes at (judge ∷ judges) = (judge.number when SaysBad form bytes at judge.bad) ∷ judge_rows form bytes at judges

-- the rows of the table "Numbers of refusal" for the line that should stand at this place
abbrev pub line_rows : Form → List ℕ → ℕ → List {1} Row
line_rows form bytes at =
    (2 when NoLine form.key bytes at) ∷ (form.otherwise when Miswritten form bytes at) ∷ judge_rows form bytes at form.judges

-- and for the place after the last line: "or bytes follow the last line"
abbrev pub end_rows : List ℕ → ℕ → List {1} Row
end_rows bytes at = (2 when (drop at bytes ≡ [] → ⊥)) ∷ []

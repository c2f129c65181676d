-- Document 02, Q-3, the text of the call: "up to 64 tests", "each ended by LF". Knows bytes alone.
use Rattle.std.specs.Prelude.{◌≡◌, List, [], ◌∷◌, ◌++◌, ℕ, ◌-◌, ◌<◌, length, get_or}
use Rattle.spelling.specs.Numeral.{lf}

abbrev pub test_limit : ℕ
test_limit = 64

-- the tests one after the other, an LF behind each; "empty text is no tests"
abbrev pub listed : List (List ℕ) → List ℕ
listed [] = []
listed (test ∷ tests) = test ++ (lf ∷ listed tests)

-- an LF ends a test, so that none stands in one
abbrev pub NoLf : List ℕ → Type 0
NoLf test = (i : ℕ) → i < length test → get_or test i 0 ≡ lf → ⊥

-- the text falls into these tests
pub record FallsInto (text : List ℕ) (tests : List (List ℕ)) : Type 0 where
  pub whole : text ≡ listed tests
  pub each : (k : ℕ) → NoLf (get_or tests k [])

-- "a missing last LF": there is text, and it ends with something else
abbrev pub NoLastLf : List ℕ → Type 0
NoLastLf text = (0 < length text) × (get_or text (length text - 1) 0 ≡ lf → ⊥)

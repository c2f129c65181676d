-- Document 02, Q-3, "Refusals of the whole call, before any test is read, smallest first": the text of the tests (2, 3), the theory and the log (3, 4, 5), then and now (10), the room (12).
use Rattle.std.specs.Prelude.{List, [], ◌∷◌, ◌++◌, ℕ, ◌<◌, length}
use Rattle.meaning.specs.Refusal.{Row, ◌when◌, TooShort}
use Rattle.theory.specs.Subject.{Subject}
use Rattle.theory.specs.Rows.{world_rows}
use Rattle.ask.specs.Rows.{time_rows}
use Rattle.board.specs.Tests.{test_limit, FallsInto, NoLastLf}

-- the tests that the text falls into are so many, and that is a fault
pub record SoMany (text : List ℕ) (fault : ℕ → Type 0) : Type 0 where
  pub tests : List (List ℕ)
  pub falls : FallsInto text tests
  pub faulty : fault (length tests)

-- "a missing last LF is 2 .., more than 64 tests 3"
abbrev pub tests_rows : List ℕ → List {1} Row
tests_rows text = (2 when NoLastLf text) ∷ (3 when SoMany text (λ n. test_limit < n)) ∷ []

-- "too little output 12": a byte each
abbrev pub room_rows : List ℕ → ℕ → List {1} Row
room_rows text room = (12 when SoMany text (TooShort room)) ∷ []

-- "theory, log and positions as in 3, 4, 5 and 10"
abbrev pub board_rows : Subject → List ℕ → ℕ → ℕ → ℕ → List {1} Row
board_rows s text then now room = tests_rows text ++ (world_rows s ++ (time_rows s then now ++ room_rows text room))

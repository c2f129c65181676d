-- Document 02, Q-3: what the call answers, and when an answer is right. "Each byte equals what the single question gives, a refused test spoils no other, and bytes past the last test are untouched."
use Rattle.std.specs.Prelude.{Result, Ok, Err}
use Rattle.std.specs.Prelude.{◌≡◌, Bool, true, false, List, [], ℕ, ◌+◌, ◌≤◌, ◌<◌, length, get_or}
use Rattle.refusal.specs.declared.Refusal.{Refusal}
use Rattle.refusal.specs.Number.{number_of}
use Rattle.refusal.specs.Given.{number_given}
use Rattle.meaning.specs.Refusal.{Answered, no_count}
use Rattle.theory.specs.Subject.{Subject}
use Rattle.theory.specs.Possible.{verdict_given}
use Rattle.ask.specs.Verdict.{VerdictAnswered}
use Rattle.board.specs.Tests.{FallsInto}
use Rattle.board.specs.Rows.{board_rows}

-- "a byte each: 0 no, 1 yes, otherwise 16 plus the refusal number"
abbrev pub byte_of : Result Bool Refusal → ℕ
byte_of (Ok false) = 0
byte_of (Ok true) = 1
byte_of (Err why) = 16 + number_of why

-- the byte of the answer that the single question gives
pub record ByteTold (s : Subject) (test : List ℕ) (then now byte : ℕ) : Type 0 where
  pub answer : Result Bool Refusal
  pub answered : VerdictAnswered s test then now (number_given answer) (verdict_given answer)
  pub told : byte ≡ byte_of answer

-- byte k is that of test k, and the bytes past the last test are as they were; the count is the number of tests
pub record BoardTold (s : Subject) (text : List ℕ) (then now : ℕ) (before : List ℕ) (count : ℕ) (after : List ℕ) : Type 0 where
  pub tests : List (List ℕ)
  pub falls : FallsInto text tests
  pub counted : count ≡ length tests
  pub room : length after ≡ length before
  pub bytes : (k : ℕ) → k < length tests → ByteTold s (get_or tests k []) then now (get_or after k 0)
  pub past : (k : ℕ) → length tests ≤ k → get_or after k 0 ≡ get_or before k 0

-- the number and the count that a call gives, and what the lent output holds after it: "A refusal has .. count 0", and "changes no lent byte"
abbrev pub BoardAnswered : Subject → List ℕ → ℕ → ℕ → List ℕ → ℕ → ℕ → List ℕ → Type 0
BoardAnswered s text then now before number count after =
    Answered (board_rows s text then now (length before)) number ((count ≡ no_count) × (after ≡ before)) (BoardTold s text then now before count after)

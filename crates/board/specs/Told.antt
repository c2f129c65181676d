-- Behind the checks of the call: what one test is told over the rows of the log, and what all are told. Right for every log that the rows are of.
use Rattle.std.specs.Prelude.{◌≡◌, List, [], ◌∷◌, ◌++◌, ℕ, ◌≤◌, ◌<◌, length, get_or, drop}
use Rattle.spelling.specs.Numeral.{lf}
use Rattle.meaning.specs.Refusal.{Accepted}
use Rattle.theory.specs.Subject.{Subject, subject_of, world_of}
use Rattle.theory.specs.Rows.{world_rows}
use Rattle.tables.specs.Tables.{Describes}
use Rattle.theory.specs.declared.Setting.{Setting}
use Rattle.ask.specs.Rows.{time_rows}
use Rattle.board.specs.Tests.{NoLf, FallsInto}
use Rattle.board.specs.Answer.{ByteTold}

-- this test stands at a place of the text, with its LF behind it
pub record StandsAt (text : List ℕ) (at : ℕ) (test : List ℕ) : Type 0 where
  pub rest : List ℕ
  pub stands : drop at text ≡ test ++ (lf ∷ rest)
  pub line : NoLf test

-- theory, log and positions have passed, and the rows are the log's
pub record Ready (s : Subject) (rows : List ℕ) (then now : ℕ) : Type 0 where
  pub sound : Accepted (world_rows s)
  pub timely : Accepted (time_rows s then now)
  pub described : Describes (world_of s) rows

-- the byte of one test
pub record ByteFound (s : Setting) (test rows : List ℕ) (then now byte : ℕ) : Type 0 where
  pub each : (masks log : List ℕ) → Ready (subject_of s masks log) rows then now → ByteTold (subject_of s masks log) test then now byte

-- there is a byte for each test
pub record Roomy (text out : List ℕ) : Type 0 where
  pub tests : List (List ℕ)
  pub falls : FallsInto text tests
  pub enough : length tests ≤ length out

-- the first so many tests have their bytes, the other bytes are as they were
pub record FirstTold (s : Setting) (tests : List (List ℕ)) (rows : List ℕ) (then now : ℕ) (before : List ℕ) (count : ℕ) (after : List ℕ) : Type 0 where
  pub room : length after ≡ length before
  pub bytes : (k : ℕ) → k < count → ByteFound s (get_or tests k []) rows then now (get_or after k 0)
  pub past : (k : ℕ) → count ≤ k → get_or after k 0 ≡ get_or before k 0

-- all have
pub record AllTold (s : Setting) (text rows : List ℕ) (then now : ℕ) (before : List ℕ) (count : ℕ) (after : List ℕ) : Type 0 where
  pub each : (tests : List (List ℕ)) → FallsInto text tests → (count ≡ length tests) × FirstTold s tests rows then now before count after

-- What the rewriter's two functions promise of a place: a rule stands there, and its normal form, or that of its converse, is written from a place of
-- the output on. Knows document 01's text of a rule and its normal form.
use Rattle.std.specs.Prelude.{◌≡◌, Bool, true, false, List, ℕ, ◌+◌, ◌^◌, ◌≤◌, ◌<◌, length, get_or, set}
use Rattle.std.proofs.lemmas.List.Edits.{sets}
use Rattle.meaning.specs.Limits.{text_limit}
use Rattle.meaning.specs.Rule.{Walk, Test, Rule, of_test, of_walk, text}
use Rattle.meaning.specs.Normal.{normal, turned, normal_test}
use Rattle.grammar.specs.Standing.{Stands, Ends}

-- the text is no longer than a rule's, and the table says where each rule of it ends
pub record Marked (bytes ends : List ℕ) : Type 0 where
  pub short : length bytes ≤ text_limit
  pub table : Ends bytes ends

-- what the two functions ask: a walk, a test, stands there, and each place that its normal form may take has a number of 64 bits
pub record WalkToWrite (bytes ends : List ℕ) (at to : ℕ) : Type 0 where
  pub marked : Marked bytes ends
  pub walk : Walk
  pub stands : Stands bytes at (of_walk walk)
  pub low : to + length (text (of_walk walk)) < 2 ^ 64

pub record TestToWrite (bytes ends : List ℕ) (at to : ℕ) : Type 0 where
  pub marked : Marked bytes ends
  pub test : Test
  pub stands : Stands bytes at (of_test test)
  pub low : to + length (text (of_test test)) < 2 ^ 64

-- the normal form of a walk, or under a converse that of its converse
abbrev pub facing : Bool → Walk → Walk
facing false x = normal x
facing true x = turned x

-- Y is written from a place on to its end, and no other byte changed
pub record Written (y : Rule) (to : ℕ) (before : List ℕ) (to' : ℕ) (after : List ℕ) : Type 0 where
  pub wrote : to' ≡ to + length (text y)
  pub bytes : after ≡ sets before to (text y)

-- what the walk function promises, and what the test function, of whatever stands there
pub record WalkWritten (bytes : List ℕ) (back : Bool) (at to : ℕ) (before : List ℕ) (to' : ℕ) (after : List ℕ) : Type 0 where
  pub each : (x : Walk) → Stands bytes at (of_walk x) → Written (of_walk (facing back x)) to before to' after

pub record TestWritten (bytes : List ℕ) (at to : ℕ) (before : List ℕ) (to' : ℕ) (after : List ℕ) : Type 0 where
  pub each : (t : Test) → Stands bytes at (of_test t) → Written (of_test (normal_test t)) to before to' after

-- the two digits of a number, copied: what is asked, and what is promised
pub record NumberHere (bytes : List ℕ) (at to : ℕ) : Type 0 where
  pub within : at + 2 ≤ length bytes
  pub low : to + 2 < 2 ^ 64

pub record NumberWritten (bytes : List ℕ) (at to : ℕ) (before : List ℕ) (to' : ℕ) (after : List ℕ) : Type 0 where
  pub wrote : to' ≡ to + 2
  pub copied : after ≡ set (set before to (get_or bytes at 0)) (to + 1) (get_or bytes (at + 1) 0)

-- the letter of a variable, copied
pub record LetterHere (bytes : List ℕ) (at to : ℕ) : Type 0 where
  pub within : at < length bytes
  pub low : to + 1 < 2 ^ 64

pub record LetterWritten (bytes : List ℕ) (at to : ℕ) (before : List ℕ) (to' : ℕ) (after : List ℕ) : Type 0 where
  pub wrote : to' ≡ to + 1
  pub copied : after ≡ set before to (get_or bytes at 0)

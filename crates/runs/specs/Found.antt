-- What the evaluator's functions ask of a place of the text, and what they answer. An answer is right for every world that the rows describe and every
-- rule that stands at the place.
use Rattle.std.specs.Prelude.{Some, ◌≡◌, ◌↔◌, Bool, true, List, ℕ, ◌≤◌, ◌<◌, length}
use Rattle.laws.specs.Bit.{on}
use Rattle.meaning.specs.Limits.{log_limit, action_limit}
use Rattle.meaning.specs.Theory.{World}
use Rattle.meaning.specs.Rule.{Walk, Test, of_walk, of_test}
use Rattle.meaning.specs.Leads.{Holds}
use Rattle.meaning.specs.Asks.{AsksAt}
use Rattle.tables.specs.Tables.{Describes}
use Rattle.spelling.specs.Scan.{NumberAt}
use Rattle.runs.specs.Values.{Bears}
use Rattle.runs.specs.Image.{Set, UpTo, Image, Sifted, Way}
use Rattle.grammar.specs.Standing.{Stands, Ends, Leaf}

-- a walk, a test, a walk with no part stands at the place; the table of ends is the text's
pub record WalkHere (bytes ends : List ℕ) (at : ℕ) : Type 0 where
  pub walk : Walk
  pub stands : Stands bytes at (of_walk walk)
  pub marked : Ends bytes ends

pub record TestHere (bytes ends : List ℕ) (at : ℕ) : Type 0 where
  pub test : Test
  pub stands : Stands bytes at (of_test test)
  pub marked : Ends bytes ends

pub record LeafHere (bytes : List ℕ) (at : ℕ) : Type 0 where
  pub walk : Walk
  pub stands : Stands bytes at (of_walk walk)
  pub leaf : Leaf walk

-- the two digits of some number stand at the place
pub record Numbered (bytes : List ℕ) (at : ℕ) : Type 0 where
  pub number : ℕ
  pub digits : NumberAt bytes at (Some number)

-- the rows are this world's, its log is no longer than a log may be, now is not past it, and so the variables stand
pub record Tabled (w : World) (rows bound : List ℕ) (now : ℕ) : Type 0 where
  pub described : Describes w rows
  pub logged : now ≤ length w.log
  pub room : length w.log ≤ log_limit
  pub bears : Bears w bound

-- the positions that the walk there, or its converse, leads to from some position of the set; the same of a walk with no part
pub record WalkFound (bytes : List ℕ) (at : ℕ) (back : Bool) (rows bound : List ℕ) (now : ℕ) (from answer : Set) : Type 0 where
  pub found :
      (w : World) → Tabled w rows bound now → UpTo now from → (x : Walk) → Stands bytes at (of_walk x) → Image (Way w x back) now from answer

pub record LeafFound (bytes : List ℕ) (at : ℕ) (back : Bool) (rows bound : List ℕ) (now : ℕ) (from answer : Set) : Type 0 where
  pub found :
      (w : World) → Tabled w rows bound now → UpTo now from → (x : Walk) → Leaf x → Stands bytes at (of_walk x) → Image (Way w x back) now from answer

-- the positions of the set where the test there is true
pub record TestFound (bytes : List ℕ) (at : ℕ) (rows bound : List ℕ) (now : ℕ) (among answer : Set) : Type 0 where
  pub found :
      (w : World) → Tabled w rows bound now → UpTo now among → (x : Test) → Stands bytes at (of_test x) → Sifted (Holds w x) now among answer

-- the actions that a walk, whose text begins at a place, asks for at now = n, from some position of a set
abbrev pub AskedBy : (ℕ → Bool) → World → ℕ → Walk → ℕ → Set → ℕ → Type 0
AskedBy may w at x n from asked = (a : ℕ) → a < action_limit → (on asked a ≡ true) ↔ ((p : ℕ) × (from p ≡ true) × AsksAt may w at x p n a)

-- the same of the walk there
pub record AskFound (may : ℕ → Bool) (text : List ℕ) (at : ℕ) (rows bound : List ℕ) (now : ℕ) (from : Set) (asked : ℕ) : Type 0 where
  pub found : (w : World) → Tabled w rows bound now → UpTo now from → (x : Walk) → Stands text at (of_walk x) → AskedBy may w at x now from asked

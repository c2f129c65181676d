-- What the evaluator reads of a question that no check refuses.
use Rattle.std.specs.Prelude.{List, ℕ, ◌+◌, replicate}
use Rattle.meaning.specs.Limits.{text_limit}
use Rattle.theory.specs.Subject.{Subject, world_of}
use Rattle.tables.specs.Tables.{Describes}
use Rattle.grammar.specs.Standing.{Ends}

-- a table of ends with nothing in it
abbrev pub no_ends : List ℕ
no_ends = replicate (text_limit + 1) 0

-- where each rule of the text ends, and the rows of the log
pub record LaidOut (s : Subject) (bytes ends rows : List ℕ) : Type 0 where
  pub marked : Ends bytes ends
  pub described : Describes (world_of s) rows

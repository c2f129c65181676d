-- What the call `answer` does to the lent output: "three lines", or one.
use Rattle.std.specs.Prelude.{◌≡◌, List, ◌++◌, ℕ, length, drop}
use Rattle.answer.specs.Outcome.{Told, OutcomeIs}
use Rattle.answer.specs.Text.{text_of}

-- the text of the sheet's outcome stands at the front of the output, the rest keeps its content, and its length is returned
pub record AnswerWritten (sheet before after : List ℕ) (count : ℕ) : Type 0 where
  pub told : Told
  pub outcome : OutcomeIs sheet told
  pub fronts : after ≡ text_of told ++ drop (length (text_of told)) before
  pub counted : count ≡ length (text_of told)

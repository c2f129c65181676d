-- What the answering of an accepted sheet takes for granted, and what its functions answer.
use Rattle.std.specs.Prelude.{List, ℕ, ◌<◌, IfOk, IfErr, IfSome, Result}
use Rattle.meaning.specs.Limits.{more_limit}
use Rattle.meaning.specs.Rule.{test_kind}
use Rattle.meaning.specs.Refusal.{Accepted}
use Rattle.theory.specs.Subject.{Subject}
use Rattle.ask.specs.Rows.{ask_rows}
use Rattle.finish.specs.Rows.{check_rows}
use Rattle.sheet.specs.Lines.{Sheet}
use Rattle.sheet_lines.specs.declared.Fault.{Fault}
use Rattle.answer.specs.declared.Answered.{Answered}
use Rattle.answer.specs.Outcome.{end_of, Answers, ending_of, Ended}

-- a sheet that says this, wherever its rules stand
abbrev pub saying : Subject → List ℕ → List ℕ → ℕ → Sheet
saying subject ask run more = record { subject = subject; ask = ask; ask_at = 0; run = run; run_at = 0; more = more }

-- no call about this sheet is refused before it is answered
pub record Askable (s : Sheet) : Type 0 where
  pub asked : Accepted (ask_rows test_kind s.subject s.ask (end_of s) (end_of s))
  pub sought : Accepted (check_rows s.subject s.run s.more more_limit)

-- the answers to a sheet, as the value in code
pub record Responded (s : Sheet) (a : Answered) : Type 0 where
  pub answers : Answers s a.yes a.state (ending_of a.finish)
  pub ends : IfSome a.finish Ended

-- an outcome that can be written: three digits are enough for its line, and its sequence is no longer than any can be
pub record Printable (outcome : Result Answered Fault) : Type 0 where
  pub low : IfErr outcome (λ f. f.line < 1000)
  pub ends : IfOk outcome (λ a. IfSome a.finish Ended)

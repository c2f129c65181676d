-- What an accepted sheet is good for: no library call about what it says is refused for its theory, its log, its rules or its bound.
use Rattle.std.specs.Prelude.{true}
use Rattle.meaning.specs.Rule.{test_kind, job_kind}
use Rattle.meaning.specs.Refusal.{Accepted, BadMore}
use Rattle.theory.specs.Subject.{counts_of}
use Rattle.theory.specs.Rows.{world_rows}
use Rattle.rule.specs.Outcome.{rule_rows}
use Rattle.sheet.specs.Lines.{Sheet}

pub record Legal (sheet : Sheet) : Type 0 where
  pub world : Accepted (world_rows sheet.subject)
  pub ask : Accepted (rule_rows true test_kind sheet.ask (counts_of sheet.subject))
  pub run : Accepted (rule_rows true job_kind sheet.run (counts_of sheet.subject))
  pub more : BadMore sheet.more → ⊥

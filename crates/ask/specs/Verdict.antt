-- Document 01, "What may be asked", verdict: what its answer says, and when an answer is right.
use Rattle.std.specs.Prelude.{◌≡◌, Bool, true, List, [], ℕ}
use Rattle.std.proofs.Math.Option.{Option, none, some}
use Rattle.meaning.specs.Theory.{World}
use Rattle.meaning.specs.Rule.{Test, of_test, test_kind, Opens}
use Rattle.meaning.specs.Leads.{Holds}
use Rattle.meaning.specs.Refusal.{Accepted, Answered, YesOrNo}
use Rattle.theory.specs.Subject.{Subject, counts_of, world_of}
use Rattle.tables.specs.Tables.{Describes}
use Rattle.theory.specs.declared.Counts.{Counts}
use Rattle.rule.specs.Outcome.{text_rows}
use Rattle.ask.specs.Rows.{ask_rows}

-- the verdict is yes exactly when the test is true
abbrev pub Verdict : World → Test → ℕ → ℕ → Option Bool → Type 0
Verdict w t then now verdict = YesOrNo (Holds w t then now) verdict

-- the verdict of the test that the bytes spell
pub record TestJudged (s : Subject) (bytes : List ℕ) (then now : ℕ) (verdict : Option Bool) : Type 0 where
  pub test : Test
  pub spells : Opens test_kind bytes (of_test test) []
  pub judged : Verdict (world_of s) test then now verdict

-- a test that some theory knows
pub record SoundTest (bytes : List ℕ) : Type 0 where
  pub counts : Counts
  pub accepted : Accepted (text_rows true test_kind bytes counts)

-- the verdict over the log that the rows are of, with so many values and this reading, if nothing refuses the question about it
pub record TestTold (bytes : List ℕ) (domain reading : ℕ) (rows : List ℕ) (then now : ℕ) (answer : Bool) : Type 0 where
  pub each : (s : Subject) → (counts_of s).domain ≡ domain → s.setting.reading ≡ reading → Accepted (ask_rows test_kind s bytes then now) → Describes (world_of s) rows
      → TestJudged s bytes then now (some answer)

-- the number and the verdict that a call gives
abbrev pub VerdictAnswered : Subject → List ℕ → ℕ → ℕ → ℕ → Option Bool → Type 0
VerdictAnswered s bytes then now number verdict =
    Answered (ask_rows test_kind s bytes then now) number (verdict ≡ none) (TestJudged s bytes then now verdict)

-- Document 01, "The answering program": the outcome of a sheet, as a value. Its text is another file's (`Text`).
use Rattle.std.specs.Prelude.{◌≡◌, ◌↔◌, Bool, true, List, [], ℕ, ◌≤◌, length, take, drop, replicate, IfOk, IfSome, Result, Ok, Err}
use Rattle.std.specs.Prelude.{Option as RustOption, Some, None}
use Rattle.std.proofs.Math.Option.{Option, some, none}
use Rattle.refusal.specs.Number.{number_of}
use Rattle.meaning.specs.Limits.{more_limit}
use Rattle.meaning.specs.Theory.{World, state_before}
use Rattle.meaning.specs.Rule.{Walk, Test, test_kind, job_kind, of_test, of_walk, Opens}
use Rattle.meaning.specs.Leads.{Holds}
use Rattle.meaning.specs.Finish.{First}
use Rattle.meaning.specs.Finish.{None as NoneOfAll}
use Rattle.theory.specs.Subject.{world_of}
use Rattle.sheet.specs.Lines.{Sheet, SheetRefused, SheetSays}
use Rattle.sheet_lines.specs.declared.Fault.{Fault}
use Rattle.answer.specs.declared.Answered.{Answered}
use Rattle.answer.specs.declared.Ending.{Ending}

-- "A refused sheet": its number and its line. Else "the ask line", "the last state", and "the sequence .. or `none`".
pub data Told : Type 0 where
  refused : ℕ → ℕ → Told
  answered : Bool → ℕ → Option (List ℕ) → Told

-- what an accepted sheet asks about, and the log's end, as a position
abbrev pub world_in : Sheet → World
world_in s = world_of s.subject

abbrev pub end_of : Sheet → ℕ
end_of s = length s.subject.log

-- the first finishing sequence, or that there is none
abbrev pub FirstOrNone : World → Walk → ℕ → Option (List ℕ) → Type 0
FirstOrNone w job more (some ending) = First w job more ending
FirstOrNone w job more none = NoneOfAll w job more

-- the answers to an accepted sheet: "for the ask line with then and now at the log's end", "the last state", "the sequence"
pub record Answers (s : Sheet) (verdict : Bool) (state : ℕ) (finish : Option (List ℕ)) : Type 0 where
  pub ask : Test
  pub asked : Opens test_kind s.ask (of_test ask) []
  pub job : Walk
  pub ordered : Opens job_kind s.run (of_walk job) []
  pub truth : (verdict ≡ true) ↔ Holds (world_in s) ask (end_of s) (end_of s)
  pub last : state ≡ state_before (world_in s) (end_of s)
  pub finished : FirstOrNone (world_in s) job s.more finish

-- this is what the sheet's bytes are told
abbrev pub OutcomeIs : List ℕ → Told → Type 0
OutcomeIs bytes (refused number line) = SheetRefused bytes number line
OutcomeIs bytes (answered verdict state finish) = (s : Sheet) × SheetSays bytes s × Answers s verdict state finish

-- The value in code. A sequence stands in the first places of its room.
abbrev pub ending_of : RustOption Ending → Option (List ℕ)
ending_of None = none
ending_of (Some e) = some (take e.count e.steps)

abbrev pub told_of : Result Answered Fault → Told
told_of (Err f) = refused (number_of f.refusal) f.line
told_of (Ok a) = answered a.yes a.state (ending_of a.finish)

-- and the others are 0
abbrev pub no_steps : List ℕ
no_steps = replicate more_limit 0

pub record Ended (e : Ending) : Type 0 where
  pub spare : drop e.count e.steps ≡ drop e.count no_steps
  pub few : e.count ≤ more_limit
  pub within : e.count ≤ length e.steps

pub record Decided (bytes : List ℕ) (outcome : Result Answered Fault) : Type 0 where
  pub is : OutcomeIs bytes (told_of outcome)
  pub ends : IfOk outcome (λ a. IfSome a.finish Ended)

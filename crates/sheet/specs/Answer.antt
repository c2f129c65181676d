-- What reading a sheet answers, and what the lent memory holds at the end.
use Rattle.std.specs.Prelude.{◌≡◌, Result, Ok, Err, List, ◌++◌, ℕ, ◌+◌, length, drop}
use Rattle.refusal.specs.Number.{number_of}
use Rattle.sheet.specs.Lines.{Sheet, SheetRefused, SheetSays}
use Rattle.sheet.specs.declared.Parsed.{Parsed}
use Rattle.sheet_lines.specs.declared.Fault.{Fault}
use Rattle.sheet_lines.specs.declared.Stretch.{Stretch}

-- where a value of a line stands
abbrev pub placed : ℕ → List ℕ → Stretch
placed at value = record { start = at; end = at + length value }

-- what is handed back of a sheet that says this: "A line's value is handed back as that stretch of the sheet."
abbrev pub parsed_of : Sheet → Parsed
parsed_of sheet =
    record {
      setting = sheet.subject.setting;
      steps = length sheet.subject.log;
      ask = placed sheet.ask_at sheet.ask;
      run = placed sheet.run_at sheet.run;
      more = sheet.more;
    }

-- the values at the front of lent memory, the rest of which keeps its content
abbrev pub fronted : List ℕ → List ℕ → List ℕ
fronted values lent = values ++ drop (length values) lent

-- an accepted sheet: what it says is handed back, its masks and its log to the front of lent memory
pub record Handed (bytes masks log : List ℕ) (p : Parsed) (masks' log' : List ℕ) : Type 0 where
  pub sheet : Sheet
  pub says : SheetSays bytes sheet
  pub told : p ≡ parsed_of sheet
  pub filled : masks' ≡ fronted sheet.subject.masks masks
  pub logged : log' ≡ fronted sheet.subject.log log

-- a refused one: its number and its place; "A refusal .. changes no lent byte."
pub record Refuses (bytes masks log : List ℕ) (number place : ℕ) (masks' log' : List ℕ) : Type 0 where
  pub refused : SheetRefused bytes number place
  pub kept : masks' ≡ masks
  pub kept_log : log' ≡ log

-- The answer to a sheet, with the lent mask table and the lent log before and after.
abbrev pub SheetAnswered : List ℕ → List ℕ → List ℕ → Result Parsed Fault → List ℕ → List ℕ → Type 0
SheetAnswered bytes masks log (Err f) masks' log' = Refuses bytes masks log (number_of f.refusal) f.line masks' log'
SheetAnswered bytes masks log (Ok p) masks' log' = Handed bytes masks log p masks' log'

-- What reading a sheet from some line on finds, line by line: the head down to the start state, the lines of the actions, and those below them.
use Rattle.std.specs.Prelude.{◌≡◌, Bool, true, false, Result, Ok, Err, List, ℕ, ◌+◌, ◌*◌, ◌≤◌, length, take, drop}
use Rattle.refusal.specs.Number.{number_of}
use Rattle.meaning.specs.Theory.{stride}
use Rattle.sheet_lines.specs.Versions.{Usable}
use Rattle.sheet.specs.Lines.{Sheet, Lines, opened, from_log, below_acts, from_acts, lines_of_sheet, ReadAs, FaultIn}
use Rattle.sheet_lines.specs.Line.{Form}
use Rattle.sheet_lines.specs.Found.{Below, ReadBelow}
use Rattle.sheet_lines.specs.Ranged.{Ranged}
use Rattle.sheet.specs.Answer.{parsed_of, fronted}
use Rattle.sheet.specs.Onward.{Onward}
use Rattle.sheet_lines.specs.declared.Cursor.{Cursor}
use Rattle.sheet_lines.specs.declared.Fault.{Fault}
use Rattle.sheet.specs.declared.Head.{Head}
use Rattle.sheet.specs.declared.Parsed.{Parsed}

-- a line that the version may lack, read below a cursor: without it reading is still at that cursor, which then says 0
abbrev pub ReadIf : Bool → (form : Form) → List ℕ → Cursor → (Cursor → form.Value) → Result Cursor Fault → Type 0
ReadIf true form bytes above said answer = ReadBelow form bytes above said answer
ReadIf false form bytes above said answer = answer ≡ Ok (record above { number = 0 })

-- the head is read from these lines on, and the lines of the actions come next
pub record HeadIs (lines : Lines) (bytes : List ℕ) (at line : ℕ) (h : Head) : Type 0 where
  pub usable : Usable h.version
  pub ranged : Ranged h.setting.counts
  pub below : Below bytes h.last
  pub onward : Onward lines bytes at line (from_acts h.version h.setting) (h.last.end + 1) (h.last.line + 1)

abbrev pub HeadFound : Lines → List ℕ → ℕ → ℕ → Result Head Fault → Type 0
HeadFound lines bytes at line (Err f) = FaultIn lines bytes at line (number_of f.refusal) f.line
HeadFound lines bytes at line (Ok h) = HeadIs lines bytes at line h

-- what reading the lines of the actions asks: a head that can be gone on from, and a table with room
pub record ActsAsked (bytes : List ℕ) (h : Head) (table : List ℕ) : Type 0 where
  pub usable : Usable h.version
  pub ranged : Ranged h.setting.counts
  pub below : Below bytes h.last
  pub room : stride * h.setting.counts.actions ≤ length table

-- how many masks the lines of the actions have
abbrev pub masks_in : Head → ℕ
masks_in h = h.version.masks * h.setting.counts.actions

-- the lines of the actions are read: their masks stand one after the other at the front of the table, nothing behind has changed, and the log comes next
pub record ActsAre (bytes : List ℕ) (h : Head) (entry exit : List ℕ) (c : Cursor) : Type 0 where
  pub below : Below bytes c
  pub back : drop (masks_in h) exit ≡ drop (masks_in h) entry
  pub onward :
      Onward (from_acts h.version h.setting) bytes (h.last.end + 1) (h.last.line + 1)
      (below_acts h.version h.setting (take (masks_in h) exit)) (c.end + 1) (c.line + 1)

abbrev pub ActsFound : List ℕ → Head → List ℕ → List ℕ → Result Cursor Fault → Type 0
ActsFound bytes h entry exit (Err f) =
    FaultIn (from_acts h.version h.setting) bytes (h.last.end + 1) (h.last.line + 1) (number_of f.refusal) f.line
ActsFound bytes h entry exit (Ok c) = ActsAre bytes h entry exit c

-- the same with the table that a call has: a row for each action
abbrev pub table_in : Head → ℕ
table_in h = stride * h.setting.counts.actions

pub record TableIs (bytes : List ℕ) (h : Head) (entry exit : List ℕ) (c : Cursor) : Type 0 where
  pub below : Below bytes c
  pub back : drop (table_in h) exit ≡ drop (table_in h) entry
  pub onward :
      Onward (from_acts h.version h.setting) bytes (h.last.end + 1) (h.last.line + 1)
      (from_log h.version (opened h.setting (take (table_in h) exit))) (c.end + 1) (c.line + 1)

abbrev pub TableFound : List ℕ → Head → List ℕ → List ℕ → Result Cursor Fault → Type 0
TableFound bytes h entry exit (Err f) =
    FaultIn (from_acts h.version h.setting) bytes (h.last.end + 1) (h.last.line + 1) (number_of f.refusal) f.line
TableFound bytes h entry exit (Ok c) = TableIs bytes h entry exit c

-- the lines from here on, of which the log comes first, are read, nothing follows them, and this is what the sheet says: its masks are these, and its steps went to the front of
-- the lent log
pub record LogIs (lines : Lines) (bytes : List ℕ) (at : ℕ) (masks entry exit : List ℕ) (p : Parsed) : Type 0 where
  pub sheet : Sheet
  pub reads : ReadAs lines bytes at sheet
  pub told : p ≡ parsed_of sheet
  pub about : sheet.subject.masks ≡ masks
  pub logged : exit ≡ fronted sheet.subject.log entry

abbrev pub LogFound : Lines → List ℕ → ℕ → ℕ → List ℕ → List ℕ → List ℕ → Result Parsed Fault → Type 0
LogFound lines bytes at line masks entry exit (Err f) = FaultIn lines bytes at line (number_of f.refusal) f.line
LogFound lines bytes at line masks entry exit (Ok p) = LogIs lines bytes at masks entry exit p

-- all lines are read, from the top, and this is what the sheet says
pub record LinesAre (bytes masks log : List ℕ) (p : Parsed) (masks' log' : List ℕ) : Type 0 where
  pub sheet : Sheet
  pub reads : ReadAs lines_of_sheet bytes 0 sheet
  pub told : p ≡ parsed_of sheet
  pub filled : masks' ≡ fronted sheet.subject.masks masks
  pub logged : log' ≡ fronted sheet.subject.log log

abbrev pub LinesFound : List ℕ → List ℕ → List ℕ → Result Parsed Fault → List ℕ → List ℕ → Type 0
LinesFound bytes masks log (Err f) masks' log' = FaultIn lines_of_sheet bytes 0 1 (number_of f.refusal) f.line
LinesFound bytes masks log (Ok p) masks' log' = LinesAre bytes masks log p masks' log'

-- What looking for a line finds, and what reading it finds: the refusal with the line's number, or the accepted line's cursor.
use Rattle.std.specs.Prelude.{◌≡◌, Result, Ok, Err, List, ℕ, ◌+◌, ◌≤◌, ◌<◌, length}
use Rattle.refusal.specs.Number.{number_of}
use Rattle.meaning.specs.Refusal.{Refused, Accepted}
use Rattle.spelling.specs.Scan.{stretch}
use Rattle.sheet_lines.specs.Line.{Line, Form, Says, NoLine, line_rows}
use Rattle.sheet_lines.specs.declared.Cursor.{Cursor}
use Rattle.sheet_lines.specs.declared.Fault.{Fault}

-- the cursor stands at the line with this key at this place
pub record CursorAt (key bytes : List ℕ) (at line : ℕ) (c : Cursor) : Type 0 where
  pub counted : c.line ≡ line
  pub starts : c.start ≡ at + length key
  pub onward : c.start ≤ c.end
  pub within : c.end < length bytes
  pub holds : Line key bytes at (stretch bytes c.start c.end)

-- a line with this key stands there, or 2 is its refusal
abbrev pub LineFound : List ℕ → List ℕ → ℕ → ℕ → Result Cursor Fault → Type 0
LineFound key bytes at line (Err f) = (number_of f.refusal ≡ 2) × (f.line ≡ line) × NoLine key bytes at
LineFound key bytes at line (Ok c) = CursorAt key bytes at line c

-- an accepted line that says no number: its cursor's is 0
abbrev pub Unnumbered : Result Cursor Fault → Type 0
Unnumbered (Err f) = Unit {0}
Unnumbered (Ok c) = c.number ≡ 0

-- the cursor stands at this line, which says this and has no fault
pub record Accepts (form : Form) (bytes : List ℕ) (at line : ℕ) (said : form.Value) (c : Cursor) : Type 0 where
  pub stands : CursorAt form.key bytes at line c
  pub says : Says form bytes at said
  pub sound : Accepted (line_rows form bytes at)

-- the line that should stand at this place, read: what it says is to be found by its cursor
abbrev pub LineRead : (form : Form) → List ℕ → ℕ → ℕ → (Cursor → form.Value) → Result Cursor Fault → Type 0
LineRead form bytes at line said (Err f) = Refused (line_rows form bytes at) (number_of f.refusal) × (f.line ≡ line)
LineRead form bytes at line said (Ok c) = Accepts form bytes at line (said c) c

-- a cursor from which reading goes on: its LF is within the sheet, and so is the number of the line below, for a line takes at least a byte
pub record Below (bytes : List ℕ) (c : Cursor) : Type 0 where
  pub within : c.end < length bytes
  pub early : c.line ≤ c.end

-- the line below a cursor, read: where it is accepted, reading goes on from it
abbrev pub ReadBelow : (form : Form) → List ℕ → Cursor → (Cursor → form.Value) → Result Cursor Fault → Type 0
ReadBelow form bytes above said (Err f) =
    Refused (line_rows form bytes (above.end + 1)) (number_of f.refusal) × (f.line ≡ above.line + 1)
ReadBelow form bytes above said (Ok c) = Accepts form bytes (above.end + 1) (above.line + 1) (said c) c × Below bytes c

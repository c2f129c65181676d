-- Document 01, "The sheet", and what document 02, Q-2 and Q-7 add: its lines in their order, and what reading them from the top finds.
use Rattle.std.specs.Prelude.{◌≡◌, ◌⊎◌, Bool, true, false, List, [], ◌++◌, ℕ, zero, suc, ◌+◌, ◌≤◌, ◌<◌, length}
use Rattle.meaning.specs.Refusal.{Refused, Accepted}
use Rattle.theory.specs.Subject.{Subject, setting_of, subject_of, counts_of}
use Rattle.theory.specs.declared.Counts.{Counts}
use Rattle.theory.specs.declared.Setting.{Setting}
use Rattle.sheet_lines.specs.Line.{Form, Says, line_rows, end_rows}
use Rattle.sheet_lines.specs.Versions.{version_meant, table_of}
use Rattle.sheet.specs.Longest.{sheet_limit}
use Rattle.sheet_lines.specs.Forms.{version_form, fluents_form, actions_form, domain_form, start_form, act_form, log_form, now_form, ask_form, run_form, more_form}
use Rattle.sheet_lines.specs.declared.Version.{Version}

-- What a sheet says. Its masks are one flat table; of a rule it is the text, and the place where that stands on the sheet.
pub record Sheet : Type 0 where
  pub subject : Subject
  pub ask : List ℕ
  pub ask_at : ℕ
  pub run : List ℕ
  pub run_at : ℕ
  pub more : ℕ

-- The lines that are still to come: one of this form, and then those that go by what it says and where its value stands; or none, and this was said.
pub data Lines : Type 1 where
  line : (form : Form) → (form.Value → ℕ → Lines) → Lines
  none : Sheet → Lines

-- a line that the version may lack; without it this is said
abbrev pub line_if : Bool → (form : Form) → form.Value → (form.Value → Lines) → Lines
line_if true form other next = line form (λ said at. next said)
line_if false form other next = next other

-- what is said once the lines of the actions are read, and what the lines below them add
abbrev pub opened : Setting → List ℕ → Sheet
opened setting masks = record { subject = subject_of setting masks []; ask = []; ask_at = 0; run = []; run_at = 0; more = 0 }

abbrev pub and_log : Sheet → List ℕ → Sheet
and_log s log =
    record {
      subject = subject_of s.subject.setting s.subject.masks log;
      ask = s.ask;
      ask_at = s.ask_at;
      run = s.run;
      run_at = s.run_at;
      more = s.more;
    }

-- the same setting with this reading
abbrev pub rereading : Setting → ℕ → Setting
rereading s reading = setting_of s.counts.fluents s.counts.actions s.counts.domain s.start reading

abbrev pub and_reading : Sheet → ℕ → Sheet
and_reading s reading =
    record {
      subject = subject_of (rereading s.subject.setting reading) s.subject.masks s.subject.log;
      ask = s.ask;
      ask_at = s.ask_at;
      run = s.run;
      run_at = s.run_at;
      more = s.more;
    }

abbrev pub with_ask : Sheet → List ℕ → ℕ → Sheet
with_ask s ask ask_at = record { subject = s.subject; ask = ask; ask_at = ask_at; run = s.run; run_at = s.run_at; more = s.more }

abbrev pub with_run : Sheet → List ℕ → ℕ → Sheet
with_run s run run_at = record { subject = s.subject; ask = s.ask; ask_at = s.ask_at; run = run; run_at = run_at; more = s.more }

abbrev pub with_more : Sheet → ℕ → Sheet
with_more s more = record { subject = s.subject; ask = s.ask; ask_at = s.ask_at; run = s.run; run_at = s.run_at; more = more }

-- "`log=` .., `ask=` a test, `run=` a job, `more=` one digit 0 to 6": each with the lines below it
abbrev pub from_more : Sheet → Lines
from_more s = line more_form (λ more at. none (with_more s more))

abbrev pub from_run : Sheet → Lines
from_run s = line (run_form (counts_of s.subject)) (λ run at. from_more (with_run s run at))

abbrev pub from_ask : Sheet → Lines
from_ask s = line (ask_form (counts_of s.subject)) (λ ask at. from_run (with_ask s ask at))

-- Q-7: "a line `now=step` or `now=end` between log and ask", where the version has it; "Sheets 1 to 3 mean `step`."
abbrev pub now_then : Bool → (ℕ → Lines) → Lines
now_then reading next = line_if reading now_form 0 next

abbrev pub from_now : Version → Sheet → Lines
from_now v s = now_then v.reading (λ reading. from_ask (and_reading s reading))

abbrev pub from_log : Version → Sheet → Lines
from_log v s = line (log_form v (counts_of s.subject).actions) (λ log at. from_now v (and_log s log))

-- "then one line per action in order of number"
abbrev pub act_lines : Version → ℕ → ℕ → List ℕ → (List ℕ → Lines) → Lines
act_lines v fluents zero table next = next table
act_lines v fluents (suc actions) table next = line (act_form v fluents) (λ row at. act_lines v fluents actions (table ++ row) next)

-- and those below them, whose masks these are
abbrev pub below_acts : Version → Setting → List ℕ → Lines
below_acts v s masks = from_log v (opened s (table_of v s.counts.actions masks))

abbrev pub from_acts : Version → Setting → Lines
from_acts v s = act_lines v s.counts.fluents s.counts.actions [] (below_acts v s)

-- "`sheet=1`, `fluents=NN` .., `actions=NN` .., `start=` 8 hex digits, then one line per action"
abbrev pub from_start : Version → Counts → Lines
from_start v c = line (start_form c.fluents) (λ start at. from_acts v (setting_of c.fluents c.actions c.domain start 0))

-- Q-2: "a line `domain=NN` .. after `actions`", where the version has it; otherwise a variable has no values
abbrev pub domain_then : Bool → (ℕ → Lines) → Lines
domain_then valued next = line_if valued domain_form 0 next

abbrev pub from_domain : Version → ℕ → ℕ → Lines
from_domain v fluents actions =
    domain_then v.valued (λ domain. from_start v (record { fluents = fluents; actions = actions; domain = domain }))

abbrev pub from_actions : Version → ℕ → Lines
from_actions v fluents = line actions_form (λ actions at. from_domain v fluents actions)

abbrev pub from_fluents : Version → Lines
from_fluents v = line fluents_form (λ fluents at. from_actions v fluents)

-- "Lines key=value in this order .., nothing after the last"; which lines come, the first one says
abbrev pub lines_of_sheet : Lines
lines_of_sheet = line version_form (λ number at. from_fluents (version_meant number))

-- where the value of a line stands, and where the next line
abbrev pub value_at : Form → ℕ → ℕ
value_at form at = at + length form.key

abbrev pub next_at : (form : Form) → ℕ → form.Value → ℕ
next_at form at said = value_at form at + length (form.spell said) + 1

-- these lines stand at this place of the sheet, none has a fault, nothing follows them, and this is what the sheet says
unfoldable pub ReadAs : Lines → List ℕ → ℕ → Sheet → Type 0
ReadAs (line form next) bytes at sheet =
    (said : form.Value)
    × Says form bytes at said
    × Accepted (line_rows form bytes at)
    × ReadAs (next said (value_at form at)) bytes (next_at form at said) sheet
ReadAs (none said) bytes at sheet = Accepted (end_rows bytes at) × (sheet ≡ said)

-- "lines from the top, the first faulty line decides, and within it the smallest number. The place is that line's number from 1 ..; bytes after the
-- last line have the next number": here the first of these lines is the one with this number
unfoldable pub FaultIn : Lines → List ℕ → ℕ → ℕ → ℕ → ℕ → Type 0
FaultIn (line form next) bytes at above number place =
    (Refused (line_rows form bytes at) number × (place ≡ above))
    ⊎ ((said : form.Value)
    × Says form bytes at said
    × Accepted (line_rows form bytes at)
    × FaultIn (next said (value_at form at)) bytes (next_at form at said) (above + 1) number place)
FaultIn (none said) bytes at above number place = Refused (end_rows bytes at) number × (place ≡ above)

-- "Sheet: 1 first; then lines from the top"; the place is "0 for refusal 1"
abbrev pub SheetRefused : List ℕ → ℕ → ℕ → Type 0
SheetRefused bytes number place =
    ((sheet_limit < length bytes) × (number ≡ 1) × (place ≡ 0))
    ⊎ ((length bytes ≤ sheet_limit) × FaultIn lines_of_sheet bytes 0 1 number place)

-- the sheet is accepted and says this
abbrev pub SheetSays : List ℕ → Sheet → Type 0
SheetSays bytes sheet = (length bytes ≤ sheet_limit) × ReadAs lines_of_sheet bytes 0 sheet

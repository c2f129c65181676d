-- What reading the log line leaves in the lent log: its steps at the front, the rest as it was.
use Rattle.std.specs.Prelude.{◌≡◌, Option, Some, None, Result, Ok, Err, List, ℕ, ◌≤◌, ◌<◌, ◌^◌, length, get_or, take, drop}
use Rattle.spelling.specs.Numeral.{log_text}
use Rattle.sheet_lines.specs.declared.Cursor.{Cursor}
use Rattle.sheet_lines.specs.declared.Fault.{Fault}

-- so many steps are read: the value is their text, and nothing behind them has changed
pub record StepsAre (limit : ℕ) (value entry exit : List ℕ) (count : ℕ) : Type 0 where
  pub few : count ≤ limit
  pub spelled : value ≡ log_text (take count exit)
  pub back : drop count exit ≡ drop count entry

-- a log that two digits an action can write
abbrev pub Writable : List ℕ → Type 0
Writable log = (k : ℕ) → k < length log → get_or log k 0 < 10 ^ 2

-- how many steps the value has, or that it is the text of no log that is short enough
abbrev pub StepsRead : ℕ → List ℕ → List ℕ → List ℕ → Option ℕ → Type 0
StepsRead limit value entry exit (Some count) = StepsAre limit value entry exit count
StepsRead limit value entry exit None = (log : List ℕ) → length log ≤ limit → Writable log → value ≡ log_text log → ⊥

-- of an accepted log line: its cursor says how many steps the log now has at its front, and nothing behind them has changed
abbrev pub LogKept : ℕ → List ℕ → List ℕ → Result Cursor Fault → Type 0
LogKept limit entry exit (Err f) = Unit {0}
LogKept limit entry exit (Ok c) = (c.number ≤ limit) × (drop c.number exit ≡ drop c.number entry)

-- The versions of the sheet. A version is a row: whether a line says how many values a variable has, how many masks an action's line has, how many steps its log may
-- have, and whether a line says how a test inside a walk is read. A version that has a further line gets a field that says so, and `Lines` a clause for it.
use Rattle.std.specs.Prelude.{◌≡◌, refl, ◌⊎◌, true, false, cond, List, [], ◌∷◌, ℕ, ◌-◌, ◌≤◌, eqb, length, get_or}
use Rattle.meaning.specs.Limits.{log_limit}
use Rattle.meaning.specs.Theory.{stride}
use Rattle.meaning.specs.Four.{plain_stride}
use Rattle.theory.specs.Plain.{plain_rows}
use Rattle.sheet_lines.specs.Limits.{newest}
use Rattle.sheet_lines.specs.declared.Version.{Version}

-- `sheet=1`: "need, ban, put, drop"; "A log is 0 to 63 actions"
abbrev pub sheet1 : Version
sheet1 = record { valued = false; masks = plain_stride; log = log_limit; reading = false }

-- Q-2: "Sheet=2 has a line `domain=NN` (01 to 16) after `actions`"
abbrev pub sheet2 : Version
sheet2 = record { valued = true; masks = plain_stride; log = log_limit; reading = false }

-- Q-6: "Sheet=3 keeps the domain line and gives each action line ten masks"
abbrev pub sheet3 : Version
sheet3 = record { valued = true; masks = stride; log = log_limit; reading = false }

-- Q-7: "Sheet=4 is sheet=3 with a line `now=step` or `now=end` between log and ask."
abbrev pub sheet4 : Version
sheet4 = record { valued = true; masks = stride; log = log_limit; reading = true }

-- the rows in the order of their numbers, from 1 on
abbrev pub versions : List Version
versions = sheet1 ∷ sheet2 ∷ sheet3 ∷ sheet4 ∷ []

pub as_many : length versions ≡ newest
as_many = refl

-- the row of a version's number; no sheet says another number
abbrev pub version_meant : ℕ → Version
version_meant number = get_or versions (number - 1) sheet1

-- the table of so many actions whose lines have these masks: "Older sheets read as one unconditional clause and an empty one"
abbrev pub table_of : Version → ℕ → List ℕ → List ℕ
table_of v actions masks = cond (eqb v.masks plain_stride) (plain_rows masks 0 actions) masks

-- what reading relies on of a row: an action has four masks or ten, and the log has room for its steps
pub record Usable (v : Version) : Type 0 where
  pub rows : (v.masks ≡ plain_stride) ⊎ (v.masks ≡ stride)
  pub short : v.log ≤ log_limit

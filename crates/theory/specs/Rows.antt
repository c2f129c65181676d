-- Document 01, "Numbers of refusal", for the inputs that every call about a world has: counts, domain, reading and mask table (3), the masks (4) and the log (5);
-- and the rows of the call for the state at a position.
use Rattle.std.specs.Prelude.{List, [], ◌∷◌, ◌++◌, ◌⊎◌, ℕ, ◌<◌, length}
use Rattle.meaning.specs.Limits.{log_limit}
use Rattle.meaning.specs.Refusal.{Row, ◌when◌, BadCounts, BadDomain, BadReading, BadTable, BadMasks, BadLog}
use Rattle.theory.specs.Subject.{Subject, counts_of}
use Rattle.theory.specs.declared.Counts.{Counts}
use Rattle.theory.specs.declared.Setting.{Setting}

-- 3: a count out of its range, or "for a bad domain"
abbrev pub CountsOut : Counts → Type 0
CountsOut c = BadCounts c.fluents c.actions ⊎ BadDomain c.domain

-- or a reading that there is not
abbrev pub SettingOut : Setting → Type 0
SettingOut s = CountsOut s.counts ⊎ BadReading s.reading

abbrev pub theory_rows : Setting → List ℕ → List {1} Row
theory_rows s masks =
    (3 when (SettingOut s ⊎ BadTable s.counts.actions masks)) ∷ (4 when BadMasks s.counts.fluents s.start masks) ∷ []

abbrev pub log_rows : Subject → List {1} Row
log_rows s = (5 when BadLog log_limit (counts_of s).actions s.log) ∷ []

abbrev pub world_rows : Subject → List {1} Row
world_rows s = theory_rows s.setting s.masks ++ log_rows s

-- 10: "the position asked > the log's length"
abbrev pub position_rows : Subject → ℕ → List {1} Row
position_rows s position = (10 when (length s.log < position)) ∷ []

abbrev pub state_rows : Subject → ℕ → List {1} Row
state_rows s position = world_rows s ++ position_rows s position

-- Document 01, "Numbers of refusal", for the two calls that ask a rule about a log: theory and log (3, 4, 5), the rule (6, 7, 8; it is no
-- job, so that 9 never holds; 13, "between 9 and 10"), then and now (10).
use Rattle.std.specs.Prelude.{true, List, [], ◌∷◌, ◌++◌, ℕ}
use Rattle.meaning.specs.Rule.{Kind}
use Rattle.meaning.specs.Refusal.{Row, ◌when◌, BadTimes}
use Rattle.theory.specs.Subject.{Subject, counts_of}
use Rattle.theory.specs.Rows.{world_rows}
use Rattle.rule.specs.Outcome.{text_rows}

abbrev pub time_rows : Subject → ℕ → ℕ → List {1} Row
time_rows s then now = (10 when BadTimes then now s.log) ∷ []

abbrev pub ask_rows : Kind → Subject → List ℕ → ℕ → ℕ → List {1} Row
ask_rows kind s bytes then now = world_rows s ++ (text_rows true kind bytes (counts_of s) ++ time_rows s then now)

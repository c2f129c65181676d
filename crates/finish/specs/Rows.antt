-- Document 01, "Numbers of refusal", for the call that finishes a job: more (3), the rows of a world (3, 4, 5), those of a job
-- (6 to 9, and 13 behind them), the room (12); and, where none of these holds, what the search finds (11).
use Rattle.std.specs.Prelude.{true, List, [], ◌∷◌, ◌++◌, ℕ}
use Rattle.meaning.specs.Theory.{World}
use Rattle.meaning.specs.Rule.{Rule, of_test, of_walk, job_kind}
use Rattle.meaning.specs.Finish.{None}
use Rattle.meaning.specs.Refusal.{Row, ◌when◌, BadMore, TooShort}
use Rattle.theory.specs.Subject.{Subject, world_of}
use Rattle.rule.specs.Outcome.{Spelled, With}
use Rattle.finish.specs.Next.{next_rows}

-- 11: "finish: no such sequence"
abbrev pub NoFinish : World → ℕ → Rule → Type 0
NoFinish w more (of_walk job) = None w job more
NoFinish w more (of_test t) = ⊥

abbrev pub room_rows : ℕ → ℕ → List {1} Row
room_rows more room = (12 when TooShort room more) ∷ []

-- what is checked before the search
abbrev pub check_rows : Subject → List ℕ → ℕ → ℕ → List {1} Row
check_rows s job more room = (3 when BadMore more) ∷ (next_rows s job ++ room_rows more room)

-- "12 comes before 11": the order of the list
abbrev pub search_rows : Subject → List ℕ → ℕ → List {1} Row
search_rows s job more = (11 when With (Spelled true job_kind job) (NoFinish (world_of s) more)) ∷ []

abbrev pub finish_rows : Subject → List ℕ → ℕ → ℕ → List {1} Row
finish_rows s job more room = check_rows s job more room ++ search_rows s job more

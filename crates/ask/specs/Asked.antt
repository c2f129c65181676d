-- A job over a log as its rows describe it, with now at its end: whether it has come to its end, and which actions it asks for next.
use Rattle.std.specs.Prelude.{◌≡◌, ◌↔◌, Bool, true, List, ℕ, ◌<◌}
use Rattle.laws.specs.Bit.{on}
use Rattle.meaning.specs.Limits.{action_limit}
use Rattle.meaning.specs.Theory.{World}
use Rattle.meaning.specs.Rule.{Walk, of_walk}
use Rattle.meaning.specs.Leads.{Leads}
use Rattle.meaning.specs.Asks.{AsksAt}
use Rattle.grammar.specs.Standing.{Stands}
use Rattle.runs.specs.Values.{unbound}
use Rattle.runs.specs.Found.{Tabled}

-- over the log that the rows describe, with now at its end, so many values and no variable bound, the job leads from 0 to the end; "A job's own `?T` .. keeps its own
-- position", and those inside a `<` have this reading
pub record EndTold (job : List ℕ) (domain reading : ℕ) (rows : List ℕ) (end : ℕ) (answer : Bool) : Type 0 where
  pub each : (w : World) → Tabled w rows (unbound domain 0 reading) end → (x : Walk) → Stands job 0 (of_walk x) → (answer ≡ true) ↔ Leads w x 0 end end

-- the actions that the job asks for there by the signs that may, bit a for action a
pub record AskTold (may : ℕ → Bool) (job : List ℕ) (domain reading : ℕ) (rows : List ℕ) (end asked : ℕ) : Type 0 where
  pub each : (w : World) → Tabled w rows (unbound domain 0 reading) end → (x : Walk) → Stands job 0 (of_walk x) → (a : ℕ) → a < action_limit
      → (on asked a ≡ true) ↔ AsksAt may w 0 x 0 end a

-- The log, transposed: a row of positions for each action, for each fluent, and one for the steps that were possible. Says what the rows hold of a world,
-- and how one step changes them.
use Rattle.std.specs.Prelude.{◌≡◌, ◌⊎◌, ◌↔◌, Bool, true, ◌&&◌, List, ℕ, ◌+◌, ◌≤◌, ◌<◌, ltb, eqb, length, get_or}
use Rattle.std.specs.Bool.{xor}
use Rattle.std.proofs.Math.Option.{some}
use Rattle.laws.specs.Bit.{on}
use Rattle.meaning.specs.Limits.{fluent_limit, action_limit}
use Rattle.meaning.specs.Theory.{Possible, World, state_before, step_at}

-- The rows in their order: the actions, the fluents, and the steps that were possible.
abbrev pub action_rows : ℕ
action_rows = 0

abbrev pub fluent_rows : ℕ
fluent_rows = action_rows + action_limit

abbrev pub possible_row : ℕ
possible_row = fluent_rows + fluent_limit

abbrev pub row_count : ℕ
row_count = possible_row + 1

-- row r holds position p. A row is a word and a position its bit: no other definition knows that.
unfoldable pub row_holds : List ℕ → ℕ → ℕ → Bool
row_holds rows r p = on (get_or rows r 0) p

-- the same of number n among so many rows from a first one on; a number past them holds nothing
abbrev pub among_holds : List ℕ → ℕ → ℕ → ℕ → ℕ → Bool
among_holds rows first many n p = ltb n many && row_holds rows (first + n) p

abbrev pub action_holds : List ℕ → ℕ → ℕ → Bool
action_holds rows a p = among_holds rows action_rows action_limit a p

abbrev pub fluent_holds : List ℕ → ℕ → ℕ → Bool
fluent_holds rows i p = among_holds rows fluent_rows fluent_limit i p

-- step p is action a, and a was possible there
abbrev pub TakenAt : World → ℕ → ℕ → Type 0
TakenAt w p a = (step_at w p ≡ some a) × Possible (w.masks a) (state_before w p)

-- The rows of a world. Each line holds of every number, so that nothing stands beyond the log, the actions or the fluents.
pub record Describes (w : World) (rows : List ℕ) : Type 0 where
  pub room : length rows ≡ row_count
  pub taken : (a p : ℕ) → (action_holds rows a p ≡ true) ↔ TakenAt w p a
  -- fluent i is on at position p
  pub shown : (i p : ℕ) → (fluent_holds rows i p ≡ true) ↔ ((p ≤ length w.log) × (on (state_before w p) i ≡ true))
  -- step p was possible, whichever action it was
  pub possible : (p : ℕ) → (row_holds rows possible_row p ≡ true) ↔ ((a : ℕ) × TakenAt w p a)

-- one step more: at position p it was action a, if that was possible
pub record Noted (old new : List ℕ) (a p : ℕ) (able : Bool) : Type 0 where
  pub room : length new ≡ length old
  pub bits : (r q : ℕ)
      → (row_holds new r q ≡ true) ↔ ((row_holds old r q ≡ true) ⊎ ((able ≡ true) × ((r ≡ action_rows + a) ⊎ (r ≡ possible_row)) × (q ≡ p)))

-- each fluent that changed is the other way at these positions, and no other row is touched
pub record Reversed (old new : List ℕ) (changed places : ℕ) : Type 0 where
  pub room : length new ≡ length old
  pub shown : (i q : ℕ) → fluent_holds new i q ≡ xor (fluent_holds old i q) (on places q && on changed i)
  pub others : (r q : ℕ) → (r < fluent_rows) ⊎ (possible_row ≤ r) → row_holds new r q ≡ row_holds old r q

-- A possible step at the end of the log, action a at position p with this state behind it, was put on the rows, or taken off again: its bits are the other way.
pub record Toggled (old new : List ℕ) (a p behind : ℕ) : Type 0 where
  pub room : length new ≡ length old
  pub taken : (b q : ℕ) → action_holds new b q ≡ xor (action_holds old b q) (eqb b a && eqb q p)
  pub shown : (i q : ℕ) → fluent_holds new i q ≡ xor (fluent_holds old i q) (eqb q (p + 1) && on behind i)
  pub possible : (q : ℕ) → row_holds new possible_row q ≡ xor (row_holds old possible_row q) (eqb q p)

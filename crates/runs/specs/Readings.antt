-- A `?T` over a set of positions: which of them have one now and are asked together, and what is forgotten between two nows.
use Rattle.std.specs.Prelude.{◌≡◌, ◌↔◌, true, List, ℕ}
use Rattle.meaning.specs.Theory.{World}
use Rattle.meaning.specs.Leads.{own_now}
use Rattle.meaning.specs.Reach.{earliest_of}
use Rattle.theory.specs.Subject.{reading_of}
use Rattle.runs.specs.Image.{Set}
use Rattle.runs.specs.Values.{own_in, inner_in}
use Rattle.runs.specs.Slots.{Forgotten}

-- Some positions of a set, with the now that a test at each of them has: under `step` one position alone, under `end` all of them.
pub record Together (left : Set) (n : ℕ) (bound : List ℕ) (own : ℕ) (these : Set) : Type 0 where
  pub some : (p : ℕ) × (these p ≡ true)
  pub within : (q : ℕ) → these q ≡ true → left q ≡ true
  pub now : (w : World) → w.own ≡ reading_of (own_in bound) → (q : ℕ) → these q ≡ true → own_now w q n ≡ own

-- and which: under `step` the earliest, under `end` all that are left, with the walk's now
pub record NextTurn (left : Set) (n : ℕ) (bound : List ℕ) (own : ℕ) (these : Set) : Type 0 where
  pub step : own_in bound ≡ 0 → (own ≡ earliest_of left) × ((q : ℕ) → (these q ≡ true) ↔ (q ≡ own))
  pub end : (own_in bound ≡ 0 → ⊥) → (own ≡ n) × ((q : ℕ) → these q ≡ left q)

-- Where a walk's own tests are read as those inside a `<`, what has been told stays; otherwise what is told between two places holds at one now alone, and is
-- forgotten.
pub record Renewed (bound before : List ℕ) (from to : ℕ) (after : List ℕ) : Type 0 where
  pub same : own_in bound ≡ inner_in bound → after ≡ before
  pub other : (own_in bound ≡ inner_in bound → ⊥) → Forgotten before from to after

-- The table that a run keeps: a set of positions for each place of the text, none where the table ends. Knows no rule and no world.
use Rattle.std.specs.Prelude.{◌≡◌, ◌↔◌, ◌⊎◌, true, List, ℕ, ◌≤◌, ◌<◌, length, get_or}
use Rattle.laws.specs.Bit.{on}
use Rattle.runs.specs.Image.{Set}

-- what the slot of a place has
abbrev pub slot : List ℕ → ℕ → Set
slot slots i q = on (get_or slots i 0) q

-- nothing is changed before the one place, nor from the other on
pub record Outside (from to : ℕ) (before after : List ℕ) : Type 0 where
  pub same : (j : ℕ) → (j < from) ⊎ (to ≤ j) → get_or after j 0 ≡ get_or before j 0

-- one slot has the set, where the table has it; no other is changed
pub record Stored (before : List ℕ) (i : ℕ) (set : Set) (after : List ℕ) : Type 0 where
  pub own : (q : ℕ) → (slot after i q ≡ true) ↔ ((i < length before) × (set q ≡ true))
  pub other : (j : ℕ) → (j ≡ i → ⊥) → get_or after j 0 ≡ get_or before j 0
  pub long : length after ≡ length before

-- the slots of the `*` between two places have nothing; no other is changed
pub record Cleared (bytes before : List ℕ) (from to : ℕ) (after : List ℕ) : Type 0 where
  pub stars : (j : ℕ) → from ≤ j → j < to → get_or bytes j 0 ≡ 42 → get_or after j 0 ≡ 0
  pub signs : (j : ℕ) → (get_or bytes j 0 ≡ 42 → ⊥) → get_or after j 0 ≡ get_or before j 0
  pub outside : Outside from to before after

-- the slots between two places have nothing; no other is changed
pub record Forgotten (before : List ℕ) (from to : ℕ) (after : List ℕ) : Type 0 where
  pub none : (j : ℕ) → from ≤ j → j < to → get_or after j 0 ≡ 0
  pub outside : Outside from to before after

-- from the first place on, up to the last, every further byte is a `*`
pub record StarsTo (bytes : List ℕ) (first last : ℕ) : Type 0 where
  pub onward : first ≤ last
  pub stars : (j : ℕ) → first < j → j ≤ last → get_or bytes j 0 ≡ 42

-- Request Q-5, what the record of a log says: "each action's count of possible occurrences and its last one, and the last impossible step", and what the next append
-- needs; and what one append makes of any record. Knows the meaning's steps and the fields of the record.
use Rattle.std.specs.Prelude.{◌≡◌, ◌⊎◌, ◌↔◌, Bool, true, cond, ℕ, ◌+◌, ◌<◌, leb, length, get_or, set}
use Rattle.laws.specs.Bit.{count_below}
use Rattle.meaning.specs.Limits.{action_limit, log_limit}
use Rattle.meaning.specs.Theory.{Masks, Possible, World, after, state_before}
use Rattle.tables.specs.Tables.{TakenAt}
use Rattle.tally.specs.declared.Tally.{Tally}

-- "possible occurrences" of an action are the steps where it was taken (`TakenAt`). An impossible step is one of the log's at which no action was.
abbrev pub ImpossibleAt : World → ℕ → Type 0
ImpossibleAt w p = (p < length w.log) × ((a : ℕ) → TakenAt w p a → ⊥)

-- "its last one": a place is kept as the position after the last step that is such, 0 for none
pub record Last (Such : ℕ → Type 0) (place : ℕ) : Type 0 where
  pub behind : (p : ℕ) → Such p → p < place
  pub there : (place ≡ 0) ⊎ ((p : ℕ) × (place ≡ p + 1) × Such p)

-- "count": how many of the first n steps are such
pub record Times (Such : ℕ → Type 0) (n count : ℕ) : Type 0 where
  pub marked : ℕ → Bool
  pub marks : (p : ℕ) → (marked p ≡ true) ↔ Such p
  pub counted : count ≡ count_below n marked

-- what the log says of one action
pub record ActionTold (w : World) (a count last : ℕ) : Type 0 where
  pub times : Times (λ p. TakenAt w p a) (length w.log) count
  pub latest : Last (λ p. TakenAt w p a) last

-- the record of a log: every field is what the log says
pub record TallyOf (w : World) (t : Tally) : Type 0 where
  pub actions : (a : ℕ) → a < action_limit → ActionTold w a (get_or t.counts a 0) (get_or t.last a 0)
  pub impossible : Last (ImpossibleAt w) t.impossible
  pub state : t.state ≡ state_before w (length w.log)
  pub steps : t.steps ≡ length w.log
  pub count_room : length t.counts ≡ action_limit
  pub last_room : length t.last ≡ action_limit

-- "a count of 63 or more stays as it is"
abbrev pub one_added : ℕ → ℕ
one_added count = cond (leb log_limit count) count (count + 1)

-- One step more, to any record, "taken by its fields as they stand". Its effects apply, possible or not.
pub record Grown (m : Masks) (a : ℕ) (t u : Tally) : Type 0 where
  pub steps : u.steps ≡ t.steps + 1
  pub state : u.state ≡ after m t.state
  pub possible : Possible m t.state
      → (u.counts ≡ set t.counts a (one_added (get_or t.counts a 0))) × (u.last ≡ set t.last a (t.steps + 1)) × (u.impossible ≡ t.impossible)
  pub impossible : (Possible m t.state → ⊥) → (u.counts ≡ t.counts) × (u.last ≡ t.last) × (u.impossible ≡ t.steps + 1)

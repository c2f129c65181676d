-- How many steps a job can still take behind each of its step signs, by its text, and which of its tests cannot come true. A set of lengths is a number, bit l
-- for l steps, 0 to *more*'s limit.
use Rattle.std.specs.Prelude.{◌≡◌, ◌⊎◌, Bool, true, false, List, ℕ, ◌+◌, ◌<◌, length, get_or}
use Rattle.laws.specs.Bit.{on}
use Rattle.meaning.specs.Limits.{fluent_limit, more_limit}
use Rattle.meaning.specs.Theory.{Clause, Masks, World, state_before}
use Rattle.meaning.specs.Rule.{Walk, Test, act, undo, next, prev, seq, alt, star, check, conv, pick, walk_text}
use Rattle.meaning.specs.Leads.{Holds}

-- In this state only fluents of `ons` are on, and only fluents of `offs` are off.
abbrev pub Turning : ℕ → ℕ → ℕ → Type 0
Turning ons offs state = (i : ℕ) → i < fluent_limit → (on state i ≡ true → on ons i ≡ true) × (on state i ≡ false → on offs i ≡ true)

-- A clause turns only such fluents on and off. "Put wins": what it drops and puts, it does not turn off.
pub record Turns (c : Clause) (ons offs : ℕ) : Type 0 where
  pub put : (i : ℕ) → i < fluent_limit → on c.put i ≡ true → on ons i ≡ true
  pub dropped : (i : ℕ) → i < fluent_limit → on c.drop i ≡ true → on c.put i ≡ false → on offs i ≡ true

-- So it is in this state, and every action of the theory leaves it so.
pub record Reaching (actions : ℕ) (masks : ℕ → Masks) (state ons offs : ℕ) : Type 0 where
  pub here : Turning ons offs state
  pub one : (a : ℕ) → a < actions → Turns (masks a).one ons offs
  pub two : (a : ℕ) → a < actions → Turns (masks a).two ons offs

-- the test is true in no such state, whatever the log
abbrev pub Never : ℕ → ℕ → Test → Type 0
Never ons offs t = (w : World) (p n : ℕ) → Turning ons offs (state_before w p) → Holds w t p n → ⊥

-- each length of one is one of the other; and with a step more
abbrev pub Inside : ℕ → ℕ → Type 0
Inside these those = (l : ℕ) → on these l ≡ true → on those l ≡ true

abbrev pub Longer : ℕ → ℕ → Type 0
Longer these those = (l : ℕ) → l < more_limit → on these l ≡ true → on those (l + 1) ≡ true

-- Measured ons offs follow at W behind before: where the job can be so long behind the walk W, whose text begins at a place, it is only so long before it, and
-- the table `follow` has at each step sign of W how long it can be behind that sign.
unfoldable pub Measured : ℕ → ℕ → List ℕ → ℕ → Walk → ℕ → ℕ → Type 0
Measured ons offs follow at (act a) behind before = Inside behind (get_or follow at 0) × Longer behind before
Measured ons offs follow at (undo a) behind before = Unit {0}
Measured ons offs follow at next behind before = Inside behind (get_or follow at 0) × Longer behind before
Measured ons offs follow at prev behind before = Unit {0}
Measured ons offs follow at (seq v x) behind before =
    (middle : ℕ) × Measured ons offs follow (at + 1 + length (walk_text v)) x behind middle × Measured ons offs follow (at + 1) v middle before
Measured ons offs follow at (alt v x) behind before =
    Measured ons offs follow (at + 1) v behind before × Measured ons offs follow (at + 1 + length (walk_text v)) x behind before
Measured ons offs follow at (star x) behind before =
    (rounds : ℕ) × Inside behind rounds × Measured ons offs follow (at + 1) x rounds rounds × Inside rounds before
Measured ons offs follow at (check t) behind before = Never ons offs t ⊎ Inside behind before
Measured ons offs follow at (conv x) behind before = Unit {0}
Measured ons offs follow at (pick v x) behind before = Measured ons offs follow (at + 2) x behind before

-- each place of the table has what it had
abbrev pub Grown : List ℕ → List ℕ → Type 0
Grown follow larger = (i : ℕ) → Inside (get_or follow i 0) (get_or larger i 0)

-- the sign at a place may ask, where so many steps are left behind it
abbrev pub allows : List ℕ → ℕ → ℕ → Bool
allows follow left at = on (get_or follow at 0) left

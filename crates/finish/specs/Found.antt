-- What the functions of the search answer. An answer is right for the walk that the job's text spells.
use Rattle.std.specs.Prelude.{◌≡◌, ◌↔◌, Bool, true, false, List, ℕ, ◌+◌, ◌≤◌, ◌<◌, length, drop, take, Option, Result}
use Rattle.std.specs.Prelude.{Some, None, Ok, Err}
use Rattle.refusal.specs.declared.Refusal.{Refusal}
use Rattle.refusal.specs.Number.{number_of}
use Rattle.laws.specs.Bit.{on}
use Rattle.meaning.specs.Limits.{log_limit}
use Rattle.meaning.specs.Theory.{World, Possible, as_job}
use Rattle.meaning.specs.Rule.{Walk}
use Rattle.meaning.specs.Asks.{AsksAt}
use Rattle.meaning.specs.Finish.{First}
use Rattle.meaning.specs.Finish.{None as NoneOfAll}
use Rattle.theory.specs.Subject.{Subject, counts_of, subject_of, table_masks, world_of}
use Rattle.tables.specs.Tables.{Describes}
use Rattle.theory.specs.declared.Setting.{Setting}
use Rattle.finish.specs.Search.{stands, FirstOf, NoneOf}
use Rattle.finish.specs.Sound.{JobIs}
use Rattle.finish.specs.Answer.{Finished}

-- the actions that are possible in a state, bit a for action a
pub record Doable (actions : ℕ) (masks : List ℕ) (state asked : ℕ) : Type 0 where
  pub each : (a : ℕ) → (on asked a ≡ true) ↔ ((a < actions) × Possible (table_masks masks a) state)

-- the actions that may come next by the signs that may ask, bit a for action a
abbrev pub MayBegin : (ℕ → Bool) → World → Walk → ℕ → Type 0
MayBegin may w x actions =
    (a : ℕ) → (on actions a ≡ true) ↔ ((a < w.actions) × Possible (w.masks a) (stands w) × AsksAt may (as_job w) 0 x 0 (length w.log) a)

pub record NextTold (may : ℕ → Bool) (s : Subject) (job : List ℕ) (actions : ℕ) : Type 0 where
  pub able : (a : ℕ) → on actions a ≡ true → (a < (counts_of s).actions) × Possible (table_masks s.masks a) (stands (world_of s))
  pub each : (x : Walk) → JobIs job x → MayBegin may (world_of s) x actions

-- this is the first sequence of k actions that completes the job; there is none
abbrev pub OneLength : Bool → ℕ → World → Walk → List ℕ → Type 0
OneLength true k w x ending = FirstOf k w x ending
OneLength false k w x ending = NoneOf k w x

-- Of k actions behind the first n of the trail, which are kept: the sequence stands behind them at the end.
pub record LengthTold (s : Setting) (masks job trail : List ℕ) (n k : ℕ) (last : List ℕ) (answer : Bool) : Type 0 where
  pub kept : take n last ≡ take n trail
  pub each : (x : Walk) → JobIs job x → OneLength answer k (world_of (subject_of s masks (take n trail))) x (take k (drop n last))

-- where none is found the rows are those of the log again
abbrev pub RowsKept : World → Bool → List ℕ → Type 0
RowsKept w answer rows = answer ≡ false → Describes w rows

-- and of all lengths up to more
abbrev pub AllLengths : Option ℕ → ℕ → World → Walk → List ℕ → Type 0
AllLengths (Some k) more w x behind = First w x more (take k behind)
AllLengths None more w x behind = NoneOfAll w x more

-- the two bounds on the length
abbrev pub Within : Option ℕ → ℕ → ℕ → Type 0
Within (Some k) n more = (k ≤ more) × (n + k ≤ log_limit)
Within None n more = Unit {0}

pub record FinishTold (s : Setting) (masks job trail : List ℕ) (n more : ℕ) (last : List ℕ) (answer : Option ℕ) : Type 0 where
  pub fits : Within answer n more
  pub each : (x : Walk) → JobIs job x → AllLengths answer more (world_of (subject_of s masks (take n trail))) x (drop n last)

-- what the search alone answers, once nothing but 11 is left to refuse
abbrev pub Sought : Result ℕ Refusal → World → Walk → ℕ → List ℕ → List ℕ → Type 0
Sought (Err r) w job more before after = (number_of r ≡ 11) × NoneOfAll w job more × (after ≡ before)
Sought (Ok n) w job more before after = Finished w job more before after n

pub record SoughtTold (s : Subject) (job : List ℕ) (more : ℕ) (before after : List ℕ) (answer : Result ℕ Refusal) : Type 0 where
  pub each : (x : Walk) → JobIs job x → Sought answer (world_of s) x more before after

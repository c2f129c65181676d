-- What is kept in a run, one walk with one now and one value of each variable, and why it may be used again. "Ground once walked by a star is not walked again in
-- the same run, and a test inside a walk is not asked twice at the same position."
use Rattle.std.specs.Prelude.{◌≡◌, Bool, true, false, not, ◌||◌, List, ℕ, ◌+◌, ◌≤◌, ◌<◌, length, get_or}
use Rattle.laws.specs.Bit.{on}
use Rattle.meaning.specs.Limits.{action_limit}
use Rattle.meaning.specs.Theory.{World}
use Rattle.meaning.specs.Rule.{Walk, Test, act, undo, next, prev, seq, alt, star, check, conv, pick, of_walk, of_test, walk_text, test_text}
use Rattle.meaning.specs.Leads.{Holds, own_now}
use Rattle.meaning.specs.Asks.{AsksAt}
use Rattle.grammar.specs.Standing.{Stands}
use Rattle.runs.specs.Image.{Set, UpTo, Sifted, Way}
use Rattle.runs.specs.Slots.{slot, Outside}
use Rattle.runs.specs.Found.{Tabled}

-- The ground that a sign may be given in a run: where the run starts, led on by the walks on the way to the sign.
pub data Ground : Type 0 where
  start : Set → Ground
  led : Ground → Walk → Bool → Ground

-- position q lies on it
abbrev pub Lies : World → ℕ → Ground → ℕ → Type 0
Lies w n (start s) q = s q ≡ true
Lies w n (led g x back) q = (p : ℕ) × Lies w n g p × Way w x back p q n

-- what a star of this walk has seen: ground that chains lead to, and whatever its walk leads to from there
pub record Chained (w : World) (n : ℕ) (x : Walk) (back : Bool) (g : Ground) (seen : Set) : Type 0 where
  pub sound : (q : ℕ) → seen q ≡ true → Lies w n (led g (star x) back) q
  pub closed : (p q : ℕ) → seen p ≡ true → Way w x back p q n → seen q ≡ true

-- so it is of every star of a walk that stands at a place and is given this ground; under a binder there are runs of their own
unfoldable pub Seen : World → ℕ → List ℕ → ℕ → Walk → Bool → Ground → Type 0
Seen w n slots at (act a) back g = Unit {0}
Seen w n slots at (undo a) back g = Unit {0}
Seen w n slots at next back g = Unit {0}
Seen w n slots at prev back g = Unit {0}
Seen w n slots at (seq v x) false g = Seen w n slots (at + 1) v false g × Seen w n slots (at + 1 + length (walk_text v)) x false (led g v false)
Seen w n slots at (seq v x) true g = Seen w n slots (at + 1 + length (walk_text v)) x true g × Seen w n slots (at + 1) v true (led g x true)
Seen w n slots at (alt v x) back g = Seen w n slots (at + 1) v back g × Seen w n slots (at + 1 + length (walk_text v)) x back g
Seen w n slots at (star x) back g = Chained w n x back g (slot slots at) × Seen w n slots (at + 1) x back (led g (star x) back)
Seen w n slots at (check t) back g = Unit {0}
Seen w n slots at (conv x) back g = Seen w n slots (at + 1) x (not back) g
Seen w n slots at (pick v x) back g = Unit {0}

-- A `?` of a scope keeps where its test is true, and behind that where it is not: under `step` each position is its own now, so that this holds for every run, and
-- under `end` every run of a scope has one now. A part under a binder is a scope of its own, in a world of its own; and so is the test of a job's own `?` where those
-- inside it are read otherwise.
pub record Told (w : World) (n : ℕ) (bytes : List ℕ) (scope : Set) (slots : List ℕ) : Type 0 where
  pub each : (i : ℕ) → scope i ≡ true → get_or bytes i 0 ≡ 63 → (x : Test) → Stands bytes (i + 1) (of_test x) → (p : ℕ)
      → (slot slots i p ≡ true → Holds w x p (own_now w p n)) × (slot slots (i + 1) p ≡ true → ¬ Holds w x p (own_now w p n))

-- a scope has every place of a stretch where a sign with a part can stand
abbrev pub Covers : Set → ℕ → ℕ → Type 0
Covers scope from to = (i : ℕ) → from ≤ i → i + 1 < to → scope i ≡ true

-- a walk is begun from a set on its ground, with slots that are right for it
pub record Begun (w : World) (bytes : List ℕ) (scope : Set) (rows bound : List ℕ) (n at : ℕ) (x : Walk) (back : Bool) (g : Ground) (slots : List ℕ) (from : Set) : Type 0 where
  pub tabled : Tabled w rows bound n
  pub low : UpTo n from
  pub stands : Stands bytes at (of_walk x)
  pub ground : (q : ℕ) → from q ≡ true → Lies w n g q
  pub covers : Covers scope at (at + length (walk_text x))
  pub told : Told w n bytes scope slots
  pub seen : Seen w n slots at x back g

-- the answer has where it leads from the set, and nothing but where it leads from its ground; the slots are still right, and no other is changed
pub record Walked (w : World) (bytes : List ℕ) (scope : Set) (n at : ℕ) (x : Walk) (back : Bool) (g : Ground) (before after : List ℕ) (from answer : Set) : Type 0 where
  pub least : (p q : ℕ) → from p ≡ true → Way w x back p q n → answer q ≡ true
  pub most : (q : ℕ) → answer q ≡ true → Lies w n (led g x back) q
  pub told : Told w n bytes scope after
  pub seen : Seen w n after at x back g
  pub outside : Outside at (at + length (walk_text x)) before after

-- A test asks nothing of what stars have seen; it has runs of its own. It has no tests of its own: all are inside a `<`, and so it is asked in a world that has one
-- reading.
pub record Tested (w : World) (bytes : List ℕ) (scope : Set) (n at : ℕ) (x : Test) (before after : List ℕ) (among answer : Set) : Type 0 where
  pub sifted : Sifted (Holds w x) n among answer
  pub told : Told w n bytes scope after
  pub outside : Outside (at + 1) (at + length (test_text x)) before after

-- What the evaluator's functions answer, for every world that the rows describe, every rule that stands at the place and every ground that the slots are right for.
pub record WalkKept (bytes : List ℕ) (at : ℕ) (back : Bool) (rows bound : List ℕ) (n : ℕ) (before after : List ℕ) (from answer : Set) : Type 0 where
  pub found : (w : World) (scope : Set) (x : Walk) (g : Ground) → Begun w bytes scope rows bound n at x back g before from → Walked w bytes scope n at x back g before after from answer

pub record TestKept (bytes : List ℕ) (at : ℕ) (rows bound : List ℕ) (n : ℕ) (before after : List ℕ) (among answer : Set) : Type 0 where
  pub found : (w : World) (scope : Set) → w.own ≡ w.inner → Tabled w rows bound n → UpTo n among → (x : Test) → Stands bytes at (of_test x)
      → Covers scope at (at + length (test_text x)) → Told w n bytes scope before
      → Tested w bytes scope n at x before after among answer

-- a `?`, the same both ways
pub record HereKept (bytes : List ℕ) (at : ℕ) (rows bound : List ℕ) (n : ℕ) (before after : List ℕ) (among answer : Set) : Type 0 where
  pub found : (back : Bool) → WalkKept bytes at back rows bound n before after among answer

-- What the stars of a walk have told in a run: the actions that the walk of each asks for from where the star has been are among these.
unfoldable pub Heard : (ℕ → Bool) → World → ℕ → List ℕ → ℕ → Walk → Set → Type 0
Heard may w n slots at (act a) these = Unit {0}
Heard may w n slots at (undo a) these = Unit {0}
Heard may w n slots at next these = Unit {0}
Heard may w n slots at prev these = Unit {0}
Heard may w n slots at (seq v x) these = Heard may w n slots (at + 1) v these × Heard may w n slots (at + 1 + length (walk_text v)) x these
Heard may w n slots at (alt v x) these = Heard may w n slots (at + 1) v these × Heard may w n slots (at + 1 + length (walk_text v)) x these
Heard may w n slots at (star x) these =
    ((p a : ℕ) → a < action_limit → slot slots at p ≡ true → AsksAt may w (at + 1) x p n a → these a ≡ true) × Heard may w n slots (at + 1) x these
Heard may w n slots at (check t) these = Unit {0}
Heard may w n slots at (conv x) these = Unit {0}
Heard may w n slots at (pick v x) these = Unit {0}

-- The actions that a walk asks for at now by the signs that may ask: from the set all that were not told before in this run, and none but from its ground.
pub record Asking (may : ℕ → Bool) (w : World) (n at : ℕ) (x : Walk) (g : Ground) (these : Set) (after : List ℕ) (from : Set) (word : ℕ) : Type 0 where
  pub least : (p a : ℕ) → a < action_limit → from p ≡ true → AsksAt may w at x p n a → (these a || on word a) ≡ true
  pub most : (a : ℕ) → a < action_limit → on word a ≡ true → (p : ℕ) × Lies w n g p × AsksAt may w at x p n a
  pub heard : Heard may w n after at x (λ a. these a || on word a)

-- one pass over a walk: where it leads, and what it asks for
pub record AskKept (may : ℕ → Bool) (bytes : List ℕ) (at : ℕ) (rows bound : List ℕ) (n : ℕ) (before after : List ℕ) (from reached : Set) (word : ℕ) : Type 0 where
  pub walked : WalkKept bytes at false rows bound n before after from reached
  pub asked : (w : World) (scope : Set) (x : Walk) (g : Ground) → Begun w bytes scope rows bound n at x false g before from → (these : Set) → Heard may w n before at x these
      → Asking may w n at x g these after from word

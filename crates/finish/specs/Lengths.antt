-- What the functions answer that find how many steps a job can still take behind each of its step signs. Answers are right for the rule that the text spells.
use Rattle.std.specs.Prelude.{◌≡◌, ◌⊎◌, Bool, true, false, List, ℕ, ◌+◌, ◌≤◌, ◌<◌, length, get_or, replicate, Some}
use Rattle.laws.specs.Bit.{on}
use Rattle.meaning.specs.Limits.{fluent_limit, more_limit, text_limit}
use Rattle.meaning.specs.Theory.{World, state_before}
use Rattle.meaning.specs.Rule.{Walk, Test, act, undo, next, prev, seq, alt, star, check, conv, pick, walk_text, of_walk, of_test}
use Rattle.meaning.specs.Leads.{Holds}
use Rattle.meaning.specs.Lengths.{Turning, Measured, Grown}
use Rattle.theory.specs.Subject.{Subject, world_of}
use Rattle.spelling.specs.Scan.{NumberAt}
use Rattle.grammar.specs.Standing.{Stands}
use Rattle.runs.specs.Found.{WalkHere}
use Rattle.finish.specs.Search.{Allows}
use Rattle.finish.specs.Sound.{JobIs, Node}

-- the fluent that is named at a place is not one of these
abbrev pub Lacks : List ℕ → ℕ → ℕ → Type 0
Lacks text at fluents = (i : ℕ) → NumberAt text at (Some i) → (i < fluent_limit) × (on fluents i ≡ false)

-- the test has this truth
abbrev pub Is : Bool → Type 0 → Type 0
Is true truth = truth
Is false truth = truth → ⊥

-- where the answer is no, the test at a place has this truth in no state in which only such fluents are on, and only such are off
pub record MayTold (text : List ℕ) (at : ℕ) (truth : Bool) (ons offs : ℕ) (answer : Bool) : Type 0 where
  pub never : answer ≡ false → (t : Test) → Stands text at (of_test t) → (w : World) (p n : ℕ) → Turning ons offs (state_before w p) → Is truth (Holds w t p n) → ⊥

-- At each star of a walk the table has the lengths with which its rounds have been met, and all that they lead to are among them.
unfoldable pub Closed : ℕ → ℕ → List ℕ → ℕ → Walk → Type 0
Closed ons offs follow at (act a) = Unit {0}
Closed ons offs follow at (undo a) = Unit {0}
Closed ons offs follow at next = Unit {0}
Closed ons offs follow at prev = Unit {0}
Closed ons offs follow at (seq v x) = Closed ons offs follow (at + 1) v × Closed ons offs follow (at + 1 + length (walk_text v)) x
Closed ons offs follow at (alt v x) = Closed ons offs follow (at + 1) v × Closed ons offs follow (at + 1 + length (walk_text v)) x
Closed ons offs follow at (star x) = Measured ons offs follow (at + 1) x (get_or follow at 0) (get_or follow at 0) × Closed ons offs follow (at + 1) x
Closed ons offs follow at (check t) = Unit {0}
Closed ons offs follow at (conv x) = Unit {0}
Closed ons offs follow at (pick v x) = Closed ons offs follow (at + 2) x

-- outside so many places from a place on, the table is as it was
abbrev pub Apart : ℕ → ℕ → List ℕ → List ℕ → Type 0
Apart at many follow larger = (i : ℕ) → (i < at) ⊎ (at + many ≤ i) → get_or larger i 0 ≡ get_or follow i 0

-- the lengths before a walk that is met with these behind it, and what the table has gained by it
pub record Gained (ons offs at : ℕ) (x : Walk) (behind : ℕ) (follow larger : List ℕ) (before : ℕ) : Type 0 where
  pub grown : Grown follow larger
  pub apart : Apart at (length (walk_text x)) follow larger
  pub closed : Closed ons offs larger at x
  pub measured : Measured ons offs larger at x behind before

-- a walk stands at the place, and the table has a byte for each place of the text
pub record BeforeHere (text ends follow : List ℕ) (at : ℕ) : Type 0 where
  pub here : WalkHere text ends at
  pub room : length text ≤ length follow

pub record BeforeTold (text : List ℕ) (at ons offs behind : ℕ) (follow larger : List ℕ) (before : ℕ) : Type 0 where
  pub each : (x : Walk) → Stands text at (of_walk x) → Closed ons offs follow at x → Gained ons offs at x behind follow larger before

-- a table with nothing in it
abbrev pub no_lengths : List ℕ
no_lengths = replicate (text_limit + 1) 0

-- a job over a log, whose table of lengths is still empty
pub record FillHere (actions : ℕ) (masks job ends log follow : List ℕ) : Type 0 where
  pub node : Node actions masks job ends log
  pub short : length job ≤ text_limit
  pub empty : follow ≡ no_lengths

-- the table leaves out no sign that a sequence needs which finishes the job
pub record FollowTold (s : Subject) (job follow : List ℕ) : Type 0 where
  pub each : (x : Walk) → JobIs job x → Allows (world_of s) x follow

-- and so many actions may be left
pub record Guided (s : Subject) (job follow : List ℕ) (left : ℕ) : Type 0 where
  pub few : left ≤ more_limit
  pub told : FollowTold s job follow

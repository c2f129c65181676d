-- What the search looks for, one length at a time: a sequence of exactly so many actions that completes the job from where its log stands. Knows the
-- meaning of "finish"; no code and no bound.
use Rattle.std.specs.Prelude.{◌≡◌, true, false, List, [], ◌∷◌, ◌++◌, ℕ, ◌≤◌, ◌<◌, length}
use Rattle.laws.specs.Bit.{on}
use Rattle.meaning.specs.Limits.{more_limit}
use Rattle.meaning.specs.Theory.{World, Possible, as_job, relog, run}
use Rattle.meaning.specs.Rule.{Walk}
use Rattle.meaning.specs.Leads.{Leads}
use Rattle.meaning.specs.Finish.{Able, Smaller}
use Rattle.meaning.specs.Asks.{AsksAt}
use Rattle.meaning.specs.Lengths.{allows}

-- the state in which the next action would be taken
abbrev pub stands : World → ℕ
stands w = run w.masks w.start w.log

-- the world with one more action in its log
abbrev pub grown : World → ℕ → World
grown w a = relog w (w.log ++ a ∷ [])

-- over this log, with now at its end, the job leads from 0 to the end
abbrev pub Ended : World → Walk → List ℕ → Type 0
Ended w job l = Leads (relog (as_job w) l) job 0 (length l) (length l)

-- `Finishes` without its two bounds on the length
pub record Completes (w : World) (job : Walk) (ending : List ℕ) : Type 0 where
  pub able : Able w.actions w.masks (stands w) ending
  pub done : Ended w job (w.log ++ ending)

-- the first sequence of exactly k actions that completes the job, "smaller action number at the first difference"; that there is none
pub record FirstOf (k : ℕ) (w : World) (job : Walk) (ending : List ℕ) : Type 0 where
  pub long : length ending ≡ k
  pub completes : Completes w job ending
  pub earliest : (other : List ℕ) → length other ≡ k → Completes w job other → Smaller other ending → ⊥

abbrev pub NoneOf : ℕ → World → Walk → Type 0
NoneOf k w job = (ending : List ℕ) → length ending ≡ k → Completes w job ending → ⊥

-- The table of lengths leaves out no sign that is needed: whatever is tried, an action behind which so many more complete the job is asked for by a sign that may have so
-- many behind it.
abbrev pub Allows : World → Walk → List ℕ → Type 0
Allows w job follow =
    (tried : List ℕ) (a : ℕ) (rest : List ℕ) → length rest ≤ more_limit → Completes w job (tried ++ a ∷ rest)
    → AsksAt (allows follow (length rest)) (relog (as_job w) (w.log ++ tried)) 0 job 0 (length (w.log ++ tried)) a

-- What the search asks of the answer "which actions to try next, with so many to follow", a number with bit a for action a: each can be taken, and no action left out
-- could begin a rest of that length that completes the job.
pub record Tries (w : World) (job : Walk) (left asked : ℕ) : Type 0 where
  pub possible : (a : ℕ) → on asked a ≡ true → (a < w.actions) × Possible (w.masks a) (stands w)
  pub leaves : (a : ℕ) → on asked a ≡ false → (rest : List ℕ) → length rest ≡ left → Completes w job (a ∷ rest) → ⊥

-- Document 01, "Finish": "the first action sequence w (shorter before longer, then smaller action number at the first difference)".
use Rattle.std.specs.Prelude.{◌≡◌, ◌⊎◌, List, [], ◌∷◌, ◌++◌, ℕ, ◌+◌, ◌≤◌, ◌<◌, length}
use Rattle.meaning.specs.Limits.{log_limit}
use Rattle.meaning.specs.Theory.{Masks, Possible, World, after, as_job, relog, run}
use Rattle.meaning.specs.Rule.{Walk}
use Rattle.meaning.specs.Leads.{Leads}

-- "every action of w is possible where it stands"; each is one of the theory's actions
abbrev pub Able : ℕ → (ℕ → Masks) → ℕ → List ℕ → Type 0
Able actions masks state [] = Unit {0}
Able actions masks state (a ∷ rest) = (a < actions) × Possible (masks a) state × Able actions masks (after (masks a) state) rest

-- "w has at most *more* actions, log and w together at most 63, every action of w is possible where it stands, and over the log followed by w, with
-- now at its end, the job leads from 0 to the end", with its own tests read as a job's are
pub record Finishes (w : World) (job : Walk) (more : ℕ) (ending : List ℕ) : Type 0 where
  pub short : length ending ≤ more
  pub fits : length w.log + length ending ≤ log_limit
  pub able : Able w.actions w.masks (run w.masks w.start w.log) ending
  pub done :
      Leads (relog (as_job w) (w.log ++ ending)) job 0 (length w.log + length ending) (length w.log + length ending)

-- "smaller action number at the first difference", of two sequences of one length
abbrev pub Smaller : List ℕ → List ℕ → Type 0
Smaller [] ys = ⊥
Smaller (x ∷ xs) [] = ⊥
Smaller (x ∷ xs) (y ∷ ys) = (x < y) ⊎ ((x ≡ y) × Smaller xs ys)

-- "shorter before longer, then .."
abbrev pub Before : List ℕ → List ℕ → Type 0
Before xs ys = (length xs < length ys) ⊎ ((length xs ≡ length ys) × Smaller xs ys)

-- "the first action sequence w .. such that .."
pub record First (w : World) (job : Walk) (more : ℕ) (ending : List ℕ) : Type 0 where
  pub finishes : Finishes w job more ending
  pub earliest : (other : List ℕ) → Finishes w job more other → Before other ending → ⊥

-- "no such sequence"
abbrev pub None : World → Walk → ℕ → Type 0
None w job more = (ending : List ℕ) → Finishes w job more ending → ⊥

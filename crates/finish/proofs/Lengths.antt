-- The mathematics of the search, on lists: how the first sequence of k + 1 actions comes from those of k actions, and the first of all from those of
-- each length. Knows no code and no mask.
use mathlib.Core.Path.{◌≡◌, refl, ap, subst, ◌∙◌}
use mathlib.Core.Logic.{inl, inr, ⊎_elim, ◌↔◌}
use mathlib.Core.List.{List, [], ◌∷◌, append-nil}
use Prim.Native.Nat.{ℕ, suc, ◌+◌, ◌≤◌, ◌<◌}
use native.Mathlib.Omega.{arith}
use lib.ListN.{length, length-append}
use lib.Seq.{append_snoc}
use Rattle.meaning.specs.Limits.{log_limit}
use Rattle.meaning.specs.Theory.{World, Possible, after, run}
use Rattle.meaning.specs.Rule.{Walk}
use Rattle.meaning.specs.Finish.{Finishes, Smaller, First, None}
use Rattle.meaning.proofs.Theory.{run_append}
use Rattle.finish.specs.Search.{stands, grown, Ended, Completes, FirstOf, NoneOf}

-- the state after one more action
pub stands_grown : (w : World) (a : ℕ) → stands (grown w a) ≡ after (w.masks a) (stands w)
unfolding run
stands_grown w a = run_append w.masks w.start w.log (a ∷ [])

-- no action more: the job is finished as the log stands
pub completes_none : (w : World) (job : Walk) → Completes w job [] ↔ Ended w job w.log
completes_none w job = (λ c. rw append-nil at c.done, λ h. record { able = tt; done = rw append-nil h })

-- one action, and the rest from the log that has grown by it
pub completes_more : (w : World) (job : Walk) (a : ℕ) (rest : List ℕ) → Completes w job (a ∷ rest)
    ↔ ((a < w.actions) × Possible (w.masks a) (stands w) × Completes (grown w a) job rest)
completes_more w job a rest = (
  λ c. (c.able.0, c.able.1, record { able = rw stands_grown c.able.2; done = rw append_snoc c.done }),
  λ h. record { able = (h.0, h.1, rw stands_grown at h.2.able); done = rw append_snoc at h.2.done },
)

-- Sequences of no action: the empty one, if the job is finished.
pub first_empty : (w : World) (job : Walk) → Ended w job w.log → FirstOf 0 w job []
first_empty w job h = record { long = refl; completes = (completes_none w job).1 h; earliest = alone }
  where
    alone : (other : List ℕ) → length other ≡ 0 → Completes w job other → Smaller other [] → ⊥
    alone [] e c s = s
    alone (x ∷ xs) e c s = s

pub none_empty : (w : World) (job : Walk) → (Ended w job w.log → ⊥) → NoneOf 0 w job
none_empty w job unfinished [] e c = unfinished ((completes_none w job).0 c)
none_empty w job unfinished (x ∷ xs) e c = absurd (omega arith)

-- Sequences of one action more, by their first action. No rest of k actions after action a completes the job:
abbrev pub NoneAfter : ℕ → World → Walk → ℕ → Type 0
NoneAfter k w job a = (rest : List ℕ) → length rest ≡ k → Completes w job (a ∷ rest) → ⊥

pub none_after : (k : ℕ) (w : World) (job : Walk) (a : ℕ) → NoneOf k (grown w a) job → NoneAfter k w job a
none_after k w job a none rest e c = none rest e ((completes_more w job a rest).0 c).2

-- the first action that has such a rest, and the first of its rests
pub first_more : (k : ℕ) (w : World) (job : Walk) (a : ℕ) (rest : List ℕ) → a < w.actions → Possible (w.masks a) (stands w)
    → ((b : ℕ) → b < a → NoneAfter k w job b) → FirstOf k (grown w a) job rest → FirstOf (suc k) w job (a ∷ rest)
first_more k w job a rest known able less f = record {
  long = ap suc f.long;
  completes = (completes_more w job a rest).1 (known, able, f.completes);
  earliest = earliest;
}
  where
    earliest : (other : List ℕ) → length other ≡ suc k → Completes w job other → Smaller other (a ∷ rest) → ⊥
    earliest [] e c s = s
    earliest (b ∷ other) e c (inl l) = less b l other (omega arith) c
    earliest (b ∷ other) e c (inr s) =
        f.earliest other (omega arith) ((completes_more w job a other).0 (subst (λ (x : ℕ). Completes w job (x ∷ other)) s.0 c)).2 s.1

-- no action has one
pub none_more : (k : ℕ) (w : World) (job : Walk) → ((a : ℕ) → a < w.actions → NoneAfter k w job a) → NoneOf (suc k) w job
none_more k w job none [] e c = absurd (omega arith)
none_more k w job none (a ∷ rest) e c = none a ((completes_more w job a rest).0 c).0 rest (omega arith) c

-- All lengths together. What finishes is what completes the job within the two bounds.
finishes_completes : (w : World) (job : Walk) (more : ℕ) (ending : List ℕ) → Finishes w job more ending → Completes w job ending
finishes_completes w job more ending f = record { able = f.able; done = rw length-append f.done }

completes_finishes : (w : World) (job : Walk) (more : ℕ) (ending : List ℕ) → length ending ≤ more → length w.log + length ending ≤ log_limit
    → Completes w job ending → Finishes w job more ending
completes_finishes w job more ending short fits c = record { short = short; fits = fits; able = c.able; done = rw length-append at c.done }

-- "shorter before longer": the first of k actions, where there is none of fewer
pub first_of_all : (w : World) (job : Walk) (more k : ℕ) (ending : List ℕ) → k ≤ more → length w.log + k ≤ log_limit
    → ((j : ℕ) → j < k → NoneOf j w job) → FirstOf k w job ending → First w job more ending
first_of_all w job more k ending short fits fewer f =
    let long : length ending ≡ k = f.long in
    record {
      finishes = completes_finishes w job more ending (omega arith) (omega arith) f.completes;
      earliest = λ other g. ⊎_elim
          (λ l. fewer (length other) (omega arith) other refl (finishes_completes w job more other g))
          (λ s. f.earliest other (s.0 ∙ long) (finishes_completes w job more other g) s.1);
    }

-- "no such sequence"
pub none_of_all : (w : World) (job : Walk) (more : ℕ) → ((j : ℕ) → j ≤ more → length w.log + j ≤ log_limit → NoneOf j w job) → None w job more
none_of_all w job more none ending f = none (length ending) f.short f.fits ending refl (finishes_completes w job more ending f)

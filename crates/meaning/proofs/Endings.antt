-- Finishing sequences, tried one after another: tests that compute and tell Finishes, First and None. Knows the meaning through its evaluator.
use mathlib.Core.Path.{◌≡◌}
use mathlib.Core.Logic.Iff
use mathlib.Core.Bool.{Bool, true, false, not, ◌&&◌, ◌||◌}
use mathlib.Core.List.{List, [], ◌∷◌, ◌++◌}
use Prim.Native.Nat.{ℕ, zero, suc, ◌+◌, ◌≤◌, ◌<◌}
use native.Mathlib.Nat.{le_of_suc-le-suc}
use native.Mathlib.Omega.{arith}
use lib.Dec.{eqb, leb, ltb}
use lib.ListN.{length}
use Rattle.laws.specs.Bit.{on, gather, all_below}
use Rattle.meaning.specs.Limits.{log_limit}
use Rattle.meaning.specs.Theory.{Masks, Possible, World, acts, after, as_job, relog, run}
use Rattle.meaning.specs.Rule.{Walk}
use Rattle.meaning.specs.Finish.{Able, Finishes, Smaller, Before, First, None}
use Rattle.meaning.proofs.Tells.{Tells, true_tells, false_tells, eq_tells, le_tells, lt_tells, tells_as}
use Rattle.meaning.proofs.Tells.{and_tells, or_tells, if_tells, not_tells, all_tells}
use Rattle.meaning.proofs.Possible.{possible, possible_tells}
use Rattle.meaning.proofs.Evaluate.{leads_grid, leads_draws}

unfoldable pub able : ℕ → (ℕ → Masks) → ℕ → List ℕ → Bool
unfolding possible acts after gather all_below on
able actions masks state [] = true
able actions masks state (a ∷ rest) = ltb a actions && (possible (masks a) state && able actions masks (after (masks a) state) rest)

able_tells : (actions : ℕ) (masks : ℕ → Masks) (state : ℕ) (s : List ℕ) → Tells (able actions masks state s) (Able actions masks state s)
unfolding able
able_tells actions masks state [] = true_tells tt
able_tells actions masks state (a ∷ rest) =
    tells_as
    (and_tells (lt_tells a actions) (and_tells (possible_tells (masks a) state) (able_tells actions masks (after (masks a) state) rest)))
    (λ h. (h.0, h.1.0, h.1.1)) (λ h. (h.0, (h.1, h.2)))

unfoldable pub finishes : World → Walk → ℕ → List ℕ → Bool
unfolding able leads_grid run
finishes w job more s =
    let end = length w.log + length s in
    leb (length s) more
    && (leb end log_limit
    && (able w.actions w.masks (run w.masks w.start w.log) s && leads_grid (relog (as_job w) (w.log ++ s)) job end 0 end))

finishes_tells : (w : World) (job : Walk) (more : ℕ) (s : List ℕ) → Tells (finishes w job more s) (Finishes w job more s)
unfolding finishes
finishes_tells w job more s =
    let end = length w.log + length s in
    tells_as
    (and_tells (le_tells (length s) more)
    (and_tells (le_tells end log_limit)
    (and_tells (able_tells w.actions w.masks (run w.masks w.start w.log) s) (leads_draws (relog (as_job w) (w.log ++ s)) job 0 end end))))
    (λ h. record { short = h.0; fits = h.1.0; able = h.1.1.0; done = h.1.1.1 })
    (λ h. (h.short, (h.fits, (h.able, h.done))))

unfoldable pub smaller : List ℕ → List ℕ → Bool
smaller [] ys = false
smaller (x ∷ xs) [] = false
smaller (x ∷ xs) (y ∷ ys) = ltb x y || (eqb x y && smaller xs ys)

smaller_tells : (xs ys : List ℕ) → Tells (smaller xs ys) (Smaller xs ys)
unfolding smaller
smaller_tells [] ys = false_tells (λ h. h)
smaller_tells (x ∷ xs) [] = false_tells (λ h. h)
smaller_tells (x ∷ xs) (y ∷ ys) = or_tells (lt_tells x y) (and_tells (eq_tells x y) (smaller_tells xs ys))

unfoldable pub before : List ℕ → List ℕ → Bool
unfolding smaller
before xs ys = ltb (length xs) (length ys) || (eqb (length xs) (length ys) && smaller xs ys)

before_tells : (xs ys : List ℕ) → Tells (before xs ys) (Before xs ys)
unfolding before
before_tells xs ys = or_tells (lt_tells (length xs) (length ys)) (and_tells (eq_tells (length xs) (length ys)) (smaller_tells xs ys))

-- a test of every sequence of at most k actions, each possible where it stands
unfoldable pub every : ℕ → ℕ → (ℕ → Masks) → ℕ → (List ℕ → Bool) → Bool
unfolding all_below possible acts after gather on
every zero actions masks state f = f []
every (suc k) actions masks state f =
    f [] && all_below actions (λ a. not (possible (masks a) state) || every k actions masks (after (masks a) state) (λ s. f (a ∷ s)))

module _ (actions : ℕ) (masks : ℕ → Masks) where
  every_next : (k state : ℕ) (f : List ℕ → Bool) → every (suc k) actions masks state f ≡ true
      → (f [] ≡ true) × ((a : ℕ) → a < actions → Possible (masks a) state → every k actions masks (after (masks a) state) (λ s. f (a ∷ s)) ≡ true)
  unfolding every
  every_next k state f = (and_tells Iff.rfl (all_tells (λ a. if_tells (possible_tells (masks a) state) Iff.rfl) actions)).0

  every_true : (k state : ℕ) (f : List ℕ → Bool) → every k actions masks state f ≡ true
      → (s : List ℕ) → length s ≤ k → Able actions masks state s → f s ≡ true
  unfolding every
  every_true zero state f e [] l h = e
  every_true zero state f e (a ∷ s) l h = absurd (omega arith)
  every_true (suc k) state f e [] l h = (every_next k state f e).0
  every_true (suc k) state f e (a ∷ s) l h =
      every_true k (after (masks a) state) (λ r. f (a ∷ r)) ((every_next k state f e).1 a h.0 h.1) s (le_of_suc-le-suc l) h.2

-- First and None

module _ (w : World) (job : Walk) (more : ℕ) where
  unfoldable pub every_ending : (List ℕ → Bool) → Bool
  unfolding every run
  every_ending f = every more w.actions w.masks (run w.masks w.start w.log) f

  ending_true : (f : List ℕ → Bool) → every_ending f ≡ true → (s : List ℕ) → Finishes w job more s → f s ≡ true
  unfolding every_ending
  ending_true f e s h = every_true w.actions w.masks more (run w.masks w.start w.log) f e s h.short h.able

  unfoldable pub nothing : Bool
  unfolding every_ending finishes
  nothing = every_ending (λ s. not (finishes w job more s))

  pub nothing_true : nothing ≡ true → None w job more
  unfolding nothing
  nothing_true e s h = (not_tells (finishes_tells w job more s)).0 (ending_true (λ r. not (finishes w job more r)) e s h) h

  unfoldable pub first : List ℕ → Bool
  unfolding finishes every_ending before
  first s = finishes w job more s && every_ending (λ r. not (before r s && finishes w job more r))

  pub first_true : (s : List ℕ) → first s ≡ true → First w job more s
  unfolding first
  first_true s e =
      let is = (and_tells (finishes_tells w job more s) Iff.rfl).0 e in
      record {
        finishes = is.0;
        earliest = λ r h l.
            (not_tells (and_tells (before_tells r s) (finishes_tells w job more r))).0
            (ending_true (λ r'. not (before r' s && finishes w job more r')) is.1 r h) (l, h);
      }

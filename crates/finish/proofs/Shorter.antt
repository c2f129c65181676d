-- The search over the lengths, from 0 up: "shorter before longer". All the mathematics of its loop; knows no code.
use Rattle.std.specs.Prelude.{Some, None}
use mathlib.Core.Path.{◌≡◌, sym, ap, subst, ◌∙◌}
use mathlib.Core.Bool.{true, false}
use mathlib.Core.List.{List}
use Prim.Native.Nat.{ℕ, ◌+◌, ◌-◌, ◌≤◌, ◌<◌, min}
use native.Mathlib.Decide.{ℕ_discrete}
use native.Mathlib.Omega.{arith}
use lib.ListN.{length, take, drop}
use lib.Seq.{length-take-le}
use Rattle.meaning.specs.Limits.{log_limit, more_limit}
use Rattle.meaning.specs.Theory.{World, state_before}
use Rattle.meaning.proofs.Theory.{state_end}
use Rattle.tables.specs.Tables.{Describes}
use Rattle.meaning.specs.Rule.{Walk}
use Rattle.theory.specs.Subject.{subject_of, world_of}
use Rattle.theory.specs.declared.Setting.{Setting}
use Rattle.finish.specs.Search.{FirstOf, NoneOf}
use Rattle.finish.specs.Sound.{JobIs, Node, Ready, Shown}
use Rattle.finish.specs.Lengths.{FollowTold, Guided}
use Rattle.finish.specs.Found.{LengthTold, FinishTold}
use Rattle.finish.proofs.Lengths.{first_of_all, none_of_all}

module _ (s : Setting) (masks job : List ℕ) where
  abbrev Of : List ℕ → World
  Of log = world_of (subject_of s masks log)

  -- no sequence of fewer than k actions completes the job
  abbrev pub Fewer : List ℕ → ℕ → Type 0
  Fewer log k = (x : Walk) → JobIs job x → (j : ℕ) → j < k → NoneOf j (Of log) x

  pub fewer_none : (trail : List ℕ) (n : ℕ) → LengthTold s masks job trail n 0 trail false → Fewer (take n trail) 1
  fewer_none trail n told x i j h = let e : j ≡ 0 = omega arith in subst (λ (m : ℕ). NoneOf m (Of (take n trail)) x) (sym e) (told.each x i)

  pub fewer_more : (trail now last : List ℕ) (n k : ℕ) → take n now ≡ take n trail → LengthTold s masks job now n k last false
      → Fewer (take n trail) k → Fewer (take n trail) (k + 1)
  fewer_more trail now last n k same told fewer x i j h = elim (ℕ_discrete j k) [
    | yes e ↦ subst (λ (m : ℕ). NoneOf m (Of (take n trail)) x) (sym e)
        (subst (λ (l : List ℕ). NoneOf k (Of l) x) same (told.each x i))
    | no e ↦ fewer x i j (omega arith)
  ]

  -- one of k actions, and none of fewer
  pub at_told : (trail now last : List ℕ) (n more k : ℕ) → n ≤ length trail → k ≤ more → n + k ≤ log_limit → take n now ≡ take n trail
      → Fewer (take n trail) k → LengthTold s masks job now n k last true → FinishTold s masks job trail n more last (Some k)
  at_told trail now last n more k room short fits same fewer told =
      let full : length (take n trail) ≡ n = length-take-le n trail room in
      record {
        fits = (short, fits);
        each = λ x i.
            first_of_all (Of (take n trail)) x more k (take k (drop n last)) short (omega arith) (fewer x i)
            (subst (λ (l : List ℕ). FirstOf k (Of l) x (take k (drop n last))) same (told.each x i));
      }

  -- none of any length within the bounds
  pub nothing_told : (trail last : List ℕ) (n more k : ℕ) → n ≤ length trail → min more (log_limit - n) < k → Fewer (take n trail) k
      → FinishTold s masks job trail n more last None
  nothing_told trail last n more k room past fewer =
      let full : length (take n trail) ≡ n = length-take-le n trail room in
      record {
        fits = tt;
        each = λ x i. none_of_all (Of (take n trail)) x more (λ j short fits. fewer x i j (omega arith));
      }

-- what the search asks, at another length
pub guided_again : (s : Setting) (masks job trail now follow : List ℕ) (n k : ℕ) → k ≤ more_limit → take n now ≡ take n trail
    → FollowTold (subject_of s masks (take n trail)) job follow → Guided (subject_of s masks (take n now)) job follow k
guided_again s masks job trail now follow n k few same told =
    record { few = few; told = subst (λ (l : List ℕ). FollowTold (subject_of s masks l) job follow) (sym same) told }

pub ready_again : (actions : ℕ) (masks job ends trail now : List ℕ) (n k : ℕ) → Ready actions masks job ends trail n 0 → length now ≡ length trail
    → take n now ≡ take n trail → n + k ≤ log_limit → Ready actions masks job ends now n k
ready_again actions masks job ends trail now n k r long same fits =
    record { node = subst (Node actions masks job ends) (sym same) r.node; room = long ∙ r.room; fits = fits }

pub shown_again : (s : Setting) (masks trail now rows : List ℕ) (n state : ℕ) → length (take n trail) ≡ n → take n now ≡ take n trail
    → Describes (world_of (subject_of s masks (take n trail))) rows → state ≡ state_before (world_of (subject_of s masks (take n trail))) n
    → Shown (world_of (subject_of s masks (take n now))) rows state
shown_again s masks trail now rows n state full same described here =
    let w = world_of (subject_of s masks (take n trail)) in
    subst (λ (l : List ℕ). Shown (world_of (subject_of s masks l)) rows state) (sym same)
    (record { described = described; here = here ∙ ap (state_before w) (sym full) ∙ state_end w })

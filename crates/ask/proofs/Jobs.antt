-- A job over a log as its rows describe it: what the evaluator finds from position 0 alone is what `ended` and `asked` promise.
use mathlib.Core.Path.{◌≡◌, sym, subst, ◌∙◌}
use mathlib.Core.Bool.{Bool, true, false, ◌&&◌}
use mathlib.Core.List.{List}
use Prim.Native.Nat.{ℕ}
use native.Mathlib.Omega.{arith}
use borrow.Author.Tests.{eqb-true}
use lib.Dec.{eqb, ltb}
use Rattle.laws.proofs.Truth.{and_iff}
use Rattle.meaning.specs.Limits.{places}
use Rattle.meaning.specs.Leads.{Leads}
use Rattle.meaning.specs.Asks.{AsksAt}
use Rattle.runs.specs.Image.{Set, UpTo}
use Rattle.runs.specs.Values.{unbound}
use Rattle.runs.specs.Found.{WalkFound, AskFound}
use Rattle.ask.specs.Asked.{EndTold, AskTold}

module _ {from : Set} (front : (q : ℕ) → from q ≡ (eqb 0 q && ltb q places)) where
  only : (q : ℕ) → from q ≡ true → 0 ≡ q
  only q h = eqb-true 0 q ((and_iff (eqb 0 q) (ltb q places)).0 (sym (front q) ∙ h)).0

  early : (end : ℕ) → UpTo end from
  early end q h = let e = only q h in omega arith

  -- the job is finished where the set that it reaches from 0 holds the end
  pub ended_right : {job rows : List ℕ} {domain reading end : ℕ} {reached : Set} → WalkFound job 0 false rows (unbound domain 0 reading) end from reached → (answer : Bool) → answer ≡ reached end → EndTold job domain reading rows end answer
  ended_right {end = end} f answer e = record {
    each = λ w tabled x there.
        let image = f.found w tabled (early end) x there in
        rw e (
          λ h. let u = (image.each end).0 h in
              subst (λ (p : ℕ). Leads w x p end end) (sym (only u.0 u.1)) u.2,
          λ h. (image.each end).1 (0, front 0, h),
        );
  }

  -- what it asks for from 0
  pub asked_right : {job rows : List ℕ} {domain reading end : ℕ} {may : ℕ → Bool} {asked : ℕ} → AskFound may job 0 rows (unbound domain 0 reading) end from asked → AskTold may job domain reading rows end asked
  asked_right {end = end} {may = may} f = record {
    each = λ w tabled x there a h.
        let by = f.found w tabled (early end) x there a h in (
          λ e. let u = by.0 e in
              subst (λ (p : ℕ). AsksAt may w 0 x p end a) (sym (only u.0 u.1)) u.2,
          λ k. by.1 (0, front 0, k),
        );
  }

-- Any two outcomes that the desk's contracts allow are equal, number and slot, or number and value; and the desk's verdict is the library's, whatever the library's call answers.
use mathlib.Core.Path.{◌≡◌, refl, sym, ap, ◌∙◌}
use mathlib.Core.Logic.{◌⊎◌, inl, inr, ⊎_elim}
use mathlib.Core.Bool.{Bool}
use mathlib.Core.List.{List, []}
use mathlib.Core.Option.{Option}
use Prim.Native.Nat.{ℕ, ◌-◌, ◌<◌}
use native.Mathlib.Decide.{dec_lt}
use native.Mathlib.Omega.{arith}
use lib.ListN.{length}
use Rattle.std.specs.Prelude.{Option as RustOption, Some, None}
use Rattle.meaning.specs.Refusal.{falls}
use Rattle.meaning.proofs.Refusal.{answered_determined, not_first, not_rest}
use Rattle.theory.specs.Possible.{PossibleAnswered}
use Rattle.exported.specs.Exported.{slot_of}
use Rattle.desk.specs.Log.{step_limit, LowestIs, AllOut}
use Rattle.desk.specs.Answer.{BadCartons, BadLabel, BadSteps, print_rows, lowest_rows, Verdict, PrintAnswered, LowestAnswered, NextIs, NextAnswered}
use Rattle.desk.specs.Labels.{LabelTheory, desk_subject}
use Rattle.desk.proofs.Library.{print-told}

one_verdict : {So : Type 0} {slot slot' : ℕ} → Verdict So slot → Verdict So slot' → slot ≡ slot'
one_verdict (inl x) (inl y) = x.0 ∙ sym y.0
one_verdict (inl x) (inr y) = absurd (y.1 x.1)
one_verdict (inr x) (inl y) = absurd (x.1 y.1)
one_verdict (inr x) (inr y) = x.0 ∙ sym y.0

pub may_print_determined : (cartons : ℕ) (log : List ℕ) (label : ℕ) {number number' slot slot' : ℕ}
    → PrintAnswered cartons log label number slot → PrintAnswered cartons log label number' slot' → (number ≡ number') × (slot ≡ slot')
may_print_determined cartons log label x y = answered_determined x y (λ n p q. (n, p ∙ sym q)) (λ n p q. (n, one_verdict p q))

-- the lowest label that is not out is one, and there is one or none
module _ (cartons : ℕ) (log : List ℕ) where
  not_lower : {a b : ℕ} → LowestIs cartons log a → LowestIs cartons log b → a < b → ⊥
  not_lower {a} x y h = x.missing (y.lowest a x.above h)

  one_label : {a b : ℕ} → LowestIs cartons log a → LowestIs cartons log b → a ≡ b
  one_label {a} {b} x y = elim (dec_lt a b) [
    | yes low ↦ absurd (not_lower x y low)
    | no here ↦ elim (dec_lt b a) [ yes low ↦ absurd (not_lower y x low) | no there ↦ omega arith ]
  ]

  not_all : {a : ℕ} → LowestIs cartons log a → AllOut cartons log → ⊥
  not_all {a} x all = x.missing (all a x.above x.within)

  one_lowest : {a b : ℕ} → LowestIs cartons log a ⊎ ((a ≡ 0) × AllOut cartons log) → LowestIs cartons log b ⊎ ((b ≡ 0) × AllOut cartons log) → a ≡ b
  one_lowest (inl x) (inl y) = one_label x y
  one_lowest (inl x) (inr y) = absurd (not_all x y.1)
  one_lowest (inr x) (inl y) = absurd (not_all y x.1)
  one_lowest (inr x) (inr y) = x.0 ∙ sym y.0

  next_one : (next next' : RustOption ℕ) → NextIs cartons log next → NextIs cartons log next' → next ≡ next'
  next_one (Some a) (Some b) x y = ap Some (one_label x y)
  next_one (Some a) None x y = absurd (not_all x y)
  next_one None (Some b) x y = absurd (not_all y x)
  next_one None None x y = refl

  pub lowest_determined : {number number' slot slot' : ℕ}
      → LowestAnswered cartons log number slot → LowestAnswered cartons log number' slot' → (number ≡ number') × (slot ≡ slot')
  lowest_determined x y = answered_determined x y (λ n p q. (n, p ∙ sym q)) (λ n p q. (n, one_lowest p q))

  -- the same of the label as a value
  pub next_determined : {number number' : ℕ} {next next' : RustOption ℕ}
      → NextAnswered cartons log number next → NextAnswered cartons log number' next' → (number ≡ number') × (next ≡ next')
  next_determined x y = answered_determined x y (λ n p q. (n, p ∙ sym q)) (λ n p q. (n, next_one _ _ p q))

-- 3 comes before 5
pub print_rises : (cartons : ℕ) (log : List ℕ) (label : ℕ) → falls (print_rows cartons log label) ≡ []
print_rises cartons log label = refl

pub lowest_rises : (cartons : ℕ) (log : List ℕ) → falls (lowest_rows cartons log) ≡ []
lowest_rises cartons log = refl

-- "The verdict is proved equal to the possibility of printing k under a theory whose print k needs all lower labels": wherever the desk gives a verdict, the
-- library, asked whether the print is possible at the log's end, refuses nothing and gives the same.
pub verdict_is_possible : (cartons : ℕ) (masks log : List ℕ) (label : ℕ) → LabelTheory cartons masks → {slot number : ℕ} {verdict : Option Bool}
    → PrintAnswered cartons log label 0 slot
    → PossibleAnswered (desk_subject cartons masks log) (label - 1) (length log) number verdict
    → (number ≡ 0) × (slot ≡ slot_of verdict)
verdict_is_possible cartons masks log label labels (inl r) told =
    absurd (⊎_elim (λ h. omega (arith, h.0)) (λ h. ⊎_elim (λ late. omega (arith, late.0)) (λ more. more.1) h.1) r.refused.first)
verdict_is_possible cartons masks log label labels (inr a) told =
    let range : BadCartons cartons ⊎ BadLabel cartons label → ⊥ = not_first a.accepted in
    let steps : BadSteps cartons log → ⊥ = not_first (not_rest a.accepted) in
    let long : ¬ (step_limit < length log) = λ h. steps (inl h) in
    let same = may_print_determined cartons log label (inr a) (print-told cartons masks log (λ h. range (inl h)) labels (omega arith) label (λ h. range (inr h)) told) in
    (sym same.0, same.1)

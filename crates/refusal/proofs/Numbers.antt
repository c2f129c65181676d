-- A number of refusal names one case, and none has the number 0. Knows the enum of refusals alone.
use mathlib.Core.Path.{◌≡◌, refl, sym, ap, ◌∙◌}
use mathlib.Core.List.{List, [], ◌∷◌}
use Prim.Native.Nat.{ℕ, ◌<◌}
use native.Mathlib.Decide.{dec_lt}
use native.Mathlib.Omega.{arith}
use lib.ListN.{length, get_or, get_or-eq_default}
use Rattle.refusal.specs.declared.Refusal.{Refusal}
use Rattle.refusal.specs.declared.Refusal.TheVariants.{SheetTooLong, BadLine, BadNumber, LacksFluent, BadLog, BadRule, LacksName, TooDeep, BackwardJob, BadPosition, NoFinish, ShortOutput, Unbound}
use Rattle.refusal.specs.Number.{number_of}

-- the cases in the order of their numbers; none has the number 0
cases : List Refusal
cases = SheetTooLong ∷ (SheetTooLong ∷ (BadLine ∷ (BadNumber ∷ (LacksFluent ∷ (BadLog ∷ (BadRule ∷ (LacksName ∷ (TooDeep ∷ (BackwardJob ∷ (BadPosition ∷ (NoFinish ∷ (ShortOutput ∷ (Unbound ∷ [])))))))))))))

case_of : (r : Refusal) → get_or cases (number_of r) SheetTooLong ≡ r
unfolding cases
case_of SheetTooLong = refl
case_of BadLine = refl
case_of BadNumber = refl
case_of LacksFluent = refl
case_of BadLog = refl
case_of BadRule = refl
case_of LacksName = refl
case_of TooDeep = refl
case_of BackwardJob = refl
case_of BadPosition = refl
case_of NoFinish = refl
case_of ShortOutput = refl
case_of Unbound = refl

pub one_number : (r s : Refusal) → number_of r ≡ number_of s → r ≡ s
one_number r s e = sym (case_of r) ∙ ap (λ (n : ℕ). get_or cases n SheetTooLong) e ∙ case_of s

pub some_number : (r : Refusal) → number_of r ≡ 0 → ⊥
unfolding cases
some_number r e =
    let first : number_of r ≡ 1 = ap number_of (sym (case_of r) ∙ ap (λ (n : ℕ). get_or cases n SheetTooLong) e) in
    omega arith

-- the numbers are few: a number past the list of cases would be the first case's
pub number_low : (r : Refusal) → number_of r < 16
unfolding cases
number_low r = elim (dec_lt (number_of r) (length cases)) [
  | yes low ↦ omega (arith, low)
  | no high ↦
      let first : number_of r ≡ 1 = ap number_of (sym (case_of r) ∙ get_or-eq_default cases SheetTooLong {n = number_of r} (omega arith)) in
      omega arith
]

-- Any two answers that a contract allows are equal: a word is fixed by its bits.
use mathlib.Core.Path.{◌≡◌, refl, sym, ◌∙◌}
use mathlib.Core.Bool.{Bool, true, false}
use mathlib.Core.List.{List}
use Prim.Native.Nat.{ℕ, ◌^◌, ◌<◌}
use native.Mathlib.Decide.{dec_lt}
use native.Mathlib.Omega.{arith}
use Rattle.laws.specs.Bit.{on}
use Rattle.laws.proofs.On.{same_bits, on_high}
use Rattle.laws.proofs.Truth.{same_truth}
use Rattle.meaning.specs.Limits.{action_limit}
use Rattle.standins.specs.Worth.{Named, Decisive, Worth}

pub named_determined : (text : List ℕ) (one other k word word' : ℕ) → Named text one other k word → Named text one other k word' → word ≡ word'
named_determined text one other k word word' x y =
    same_bits word word' (λ i. same_truth (on word i) (on word' i) (λ e. (y.each i).1 ((x.each i).0 e)) (λ e. (x.each i).1 ((y.each i).0 e)))

pub decisive_determined : (masks : List ℕ) (k word word' : ℕ) → Decisive masks k word → Decisive masks k word' → word ≡ word'
decisive_determined masks k word word' x y =
    same_bits word word' (λ i. same_truth (on word i) (on word' i) (λ e. (y.each i).1 ((x.each i).0 e)) (λ e. (x.each i).1 ((y.each i).0 e)))

-- which actions are worth trying
pub worth_determined : (actions : ℕ) (masks job : List ℕ) (word word' : ℕ) → word < 2 ^ action_limit → word' < 2 ^ action_limit → Worth actions masks job word
    → Worth actions masks job word' → word ≡ word'
worth_determined actions masks job word word' fits fits' x y = same_bits word word' (λ b. elim (dec_lt b action_limit) [
  | yes few ↦ same_off (on word b) (on word' b) (λ e. (y.each b few).1 ((x.each b few).0 e)) (λ e. (x.each b few).1 ((y.each b few).0 e))
  | no many ↦ on_high action_limit fits (omega arith) ∙ sym (on_high action_limit fits' (omega arith))
])
  where
    same_off : (a b : Bool) → (a ≡ false → b ≡ false) → (b ≡ false → a ≡ false) → a ≡ b
    same_off true true f g = refl
    same_off true false f g = g refl
    same_off false true f g = sym (f refl)
    same_off false false f g = refl

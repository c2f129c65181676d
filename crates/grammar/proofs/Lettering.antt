-- Laws of a variable's letter at a place of a text. No code.
use mathlib.Core.Path.{◌≡◌, refl, sym, ap, ◌∙◌}
use mathlib.Core.List.{List, ◌∷◌, head-eq_of_cons-eq}
use Prim.Native.Nat.{ℕ, zero, suc, ◌+◌, ◌-◌, ◌≤◌, ◌<◌}
use native.Mathlib.Omega.{arith}
use borrow.Author.Tests.{eqb-true, eq-eqb}
use lib.Dec.{eqb}
use lib.ListN.{length, drop, get_or}
use Rattle.laws.proofs.Truth.{same_truth}
use Rattle.meaning.specs.Rule.{Variable, var_v, var_w, var_x, var_y, letter, is_variable}
use Rattle.spelling.proofs.TwoDigits.{here}
use Rattle.std.specs.Prelude.{Option, Some, None}
use Rattle.grammar.specs.Letters.{variables, variable_meant, place, Lettered, LetterAt}

-- the letters follow one another
pub letter_is : (v : Variable) → letter v ≡ 118 + place v
letter_is var_v = refl
letter_is var_w = refl
letter_is var_x = refl
letter_is var_y = refl

pub place_low : (v : Variable) → place v < length variables
place_low var_v = omega arith
place_low var_w = omega arith
place_low var_x = omega arith
place_low var_y = omega arith

pub at_place : (v : Variable) → variable_meant (place v) ≡ v
at_place var_v = refl
at_place var_w = refl
at_place var_x = refl
at_place var_y = refl

place_at : (i : ℕ) → i < length variables → place (variable_meant i) ≡ i
place_at zero h = refl
place_at (suc zero) h = refl
place_at (suc (suc zero)) h = refl
place_at (suc (suc (suc zero))) h = refl
place_at (suc (suc (suc (suc i)))) h = absurd (omega arith)

pub one_place : (u v : Variable) → place u ≡ place v → u ≡ v
one_place u v e = sym (at_place u) ∙ ap variable_meant e ∙ at_place v

-- one variable is another where their places are one
pub same_place : (v : Variable) (i : ℕ) → i < length variables → is_variable v (variable_meant i) ≡ eqb i (place v)
same_place v i h = same_truth _ _
    (λ e. eq-eqb i (place v) (omega (arith, eqb-true (letter v) (letter (variable_meant i)) e, letter_is v, letter_is (variable_meant i), place_at i h)))
    (λ e. eq-eqb (letter v) (letter (variable_meant i)) (omega (arith, eqb-true i (place v) e, letter_is v, letter_is (variable_meant i), place_at i h)))

-- What stands at a place.
module _ (bytes : List ℕ) (at : ℕ) (h : at < length bytes) where
  pub letter_found : 118 ≤ get_or bytes at 0 → get_or bytes at 0 ≤ 121 → LetterAt bytes at (Some (get_or bytes at 0 - 118))
  letter_found low high =
      let k = get_or bytes at 0 - 118 in
      let same : place (variable_meant k) ≡ k = place_at k (omega arith) in
      let byte : get_or bytes at 0 ≡ letter (variable_meant k) = omega (arith, same, letter_is (variable_meant k)) in
      (variable_meant k, sym same, here bytes at h ∙ ap (λ (b : ℕ). b ∷ drop (at + 1) bytes) byte)

-- where a variable's letter stands, that one is found
pub letter_told : (bytes : List ℕ) (at : ℕ) (v : Variable) (l : Option ℕ) → Lettered bytes at v → LetterAt bytes at l → l ≡ Some (place v)
letter_told bytes at v (Some k) there (u, e, found) =
    let same : letter u ≡ letter v = head-eq_of_cons-eq (sym found ∙ there) in
    ap Some (e ∙ omega (arith, same, letter_is u, letter_is v))
letter_told bytes at v None there none = absurd (none v (drop (at + 1) bytes) there)

-- one letter stands at a place, or none
pub letter_determined : (bytes : List ℕ) (at : ℕ) (l l' : Option ℕ) → LetterAt bytes at l → LetterAt bytes at l' → l ≡ l'
letter_determined bytes at (Some k) l' (v, e, there) h' = ap Some e ∙ sym (letter_told bytes at v l' there h')
letter_determined bytes at None (Some k) none (v, e, there) = absurd (none v (drop (at + 1) bytes) there)
letter_determined bytes at None None none none' = refl

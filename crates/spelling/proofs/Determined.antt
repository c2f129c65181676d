-- What each reader and writer answers is determined: two outcomes that its contract allows are equal.
use mathlib.Core.Path.{◌≡◌, refl, sym, ap, ◌∙◌}
use mathlib.Core.Logic.{◌↔◌}
use mathlib.Core.Bool.{Bool, true, false}
use mathlib.Core.List.{List}
use Prim.Native.Nat.{ℕ, ◌≤◌, ◌<◌}
use native.Mathlib.Decide.{dec_lt}
use native.Mathlib.Omega.{arith}
use lib.ListN.{take}
use Rattle.std.specs.Prelude.{Option}
use Rattle.std.specs.Prelude.{Some, None}
use Rattle.spelling.specs.Scan.{FirstLf, DigitsOf, NumberAt}
use Rattle.spelling.specs.Wrote.{Wrote}
use Rattle.spelling.proofs.Numeral.{same_number}
use Rattle.spelling.proofs.TwoDigits.{same_digits}

-- `opens_with`
pub test_determined : {P : Type 0} (r s : Bool) → (r ≡ true) ↔ P → (s ≡ true) ↔ P → r ≡ s
test_determined true true f g = refl
test_determined true false f g = sym (g.1 (f.0 refl))
test_determined false true f g = f.1 (g.0 refl)
test_determined false false f g = refl

-- `find_lf`
not_later : (bytes : List ℕ) (from a b : ℕ) → FirstLf bytes from a → FirstLf bytes from b → b < a → ⊥
not_later bytes from a b f g l = f.passed b l g.onward (g.found (omega (arith, f.within)))

pub find_lf_determined : (bytes : List ℕ) (from a b : ℕ) → FirstLf bytes from a → FirstLf bytes from b → a ≡ b
find_lf_determined bytes from a b f g = go (dec_lt a b) (dec_lt b a)
  where
    go : Dec (a < b) → Dec (b < a) → a ≡ b
    go (yes l) _ = absurd (not_later bytes from b a g f l)
    go (no _) (yes l) = absurd (not_later bytes from a b f g l)
    go (no l) (no m) = omega arith

-- `number_at` and `number_in`, for the bases that they can be asked for
pub number_determined :
    (base width : ℕ) (bytes : List ℕ) (r s : Option ℕ) → 0 < base → base ≤ 16 → DigitsOf base width bytes r → DigitsOf base width bytes s → r ≡ s
number_determined base width bytes (Some n) (Some m) pos few f g =
    ap Some (same_number base width n m pos few f.0 g.0 (sym f.1 ∙ g.1))
number_determined base width bytes (Some n) None pos few f g = absurd (g n f.1)
number_determined base width bytes None (Some m) pos few f g = absurd (f m g.1)
number_determined base width bytes None None pos few f g = refl

-- `two_digits`
pub two_digits_determined : (text : List ℕ) (at : ℕ) (r s : Option ℕ) → NumberAt text at r → NumberAt text at s → r ≡ s
two_digits_determined text at (Some n) (Some m) f g =
    ap Some (same_digits n m (ap (take 2) (sym f.1 ∙ g.1)))
two_digits_determined text at (Some n) None f g = absurd (g n _ f.0 f.1)
two_digits_determined text at None (Some m) f g = absurd (f m _ g.0 g.1)
two_digits_determined text at None None f g = refl

-- the writers: the final content of the output, and the place behind what was written
pub writer_determined :
    (before text : List ℕ) (to : ℕ) (a b : List ℕ) (n m : ℕ) → Wrote before to text a n → Wrote before to text b m → (a ≡ b) × (n ≡ m)
writer_determined before text to a b n m f g = (f.stands ∙ sym g.stands, f.onward ∙ sym g.onward)

-- Which bits are on after `&`, `|` and `^`: one law for any operation that goes digit by digit, and its three cases. Knows numbers alone.
use mathlib.Core.Path.{◌≡◌, refl, sym, ap, ap₂, ◌∙◌}
use mathlib.Core.Bool.{Bool, true, false, ◌&&◌, ◌||◌, xor}
use Prim.Native.Nat.{ℕ, zero, suc, ◌+◌, ◌*◌, ◌/◌, ◌%◌, min, max}
use lib.Bits.{bit_and, bit_or, bit_xor, differ, and_step, or_step, xor_step}
use Rattle.laws.specs.Bit.{on}
use Rattle.laws.proofs.On.{digit, on_zero, on_suc, on_low, on_rest}

-- op works on the two lowest digits by f, whose table is g, and on the rest by itself
module _ (op f : ℕ → ℕ → ℕ) (g : Bool → Bool → Bool) (step : (a b : ℕ) → op a b ≡ op (a / 2) (b / 2) * 2 + f (a % 2) (b % 2))
    (table : (x y : Bool) → f (digit x) (digit y) ≡ digit (g x y)) where
  by_digits : (a b : ℕ) → op a b ≡ op (a / 2) (b / 2) * 2 + digit (g (on a 0) (on b 0))
  by_digits a b =
      step a b ∙ ap (λ (d : ℕ). op (a / 2) (b / 2) * 2 + d) (ap₂ f (sym (on_zero a)) (sym (on_zero b)) ∙ table (on a 0) (on b 0))

  pub on_bitwise : (a b i : ℕ) → on (op a b) i ≡ g (on a i) (on b i)
  on_bitwise a b zero = on_low (op (a / 2) (b / 2)) (g (on a 0) (on b 0)) (by_digits a b)
  on_bitwise a b (suc i) =
      on_rest (op (a / 2) (b / 2)) (g (on a 0) (on b 0)) (by_digits a b) i
      ∙ on_bitwise (a / 2) (b / 2) i
      ∙ ap₂ g (sym (on_suc a i)) (sym (on_suc b i))

and_table : (x y : Bool) → min (digit x) (digit y) ≡ digit (x && y)
and_table true true = refl
and_table true false = refl
and_table false true = refl
and_table false false = refl

or_table : (x y : Bool) → max (digit x) (digit y) ≡ digit (x || y)
or_table true true = refl
or_table true false = refl
or_table false true = refl
or_table false false = refl

xor_table : (x y : Bool) → differ (digit x) (digit y) ≡ digit (xor x y)
unfolding xor
xor_table true true = refl
xor_table true false = refl
xor_table false true = refl
xor_table false false = refl

pub on_and : (a b i : ℕ) → on (bit_and a b) i ≡ (on a i && on b i)
on_and = on_bitwise bit_and min ◌&&◌ and_step and_table

pub on_or : (a b i : ℕ) → on (bit_or a b) i ≡ (on a i || on b i)
on_or = on_bitwise bit_or max ◌||◌ or_step or_table

pub on_xor : (a b i : ℕ) → on (bit_xor a b) i ≡ xor (on a i) (on b i)
on_xor = on_bitwise bit_xor differ xor xor_step xor_table

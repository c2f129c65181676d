-- Laws of two digits at a place of a text: the two bytes there decide which number it is.
use mathlib.Core.Path.{◌≡◌}
use mathlib.Core.List.{List, ◌∷◌, head-eq_of_cons-eq, tail-eq_of_cons-eq}
use Prim.Native.Nat.{ℕ, ◌+◌, ◌/◌, ◌%◌, ◌^◌, ◌<◌}
use native.Mathlib.Omega.{arith}
use native.Mathlib.Numerals.{add-one}
use lib.ListN.{length, drop, get_or}
use lib.Seq.{drop-cons}
use Rattle.meaning.specs.Rule.{digits}
use Rattle.spelling.specs.Numeral.{numeral}
use Rattle.spelling.proofs.Numeral.{symbol_low}

-- the byte at a place, and what follows it
pub here : (text : List ℕ) (at : ℕ) → at < length text → drop at text ≡ get_or text at 0 ∷ drop (at + 1) text
here text at h = rw add-one (drop-cons text at 0 h)

-- digits are those of one number
pub same_digits : (n m : ℕ) → digits n ≡ digits m → n ≡ m
same_digits n m e =
    let tens : 48 + n / 10 ≡ 48 + m / 10 = head-eq_of_cons-eq e in
    let ones : 48 + n % 10 ≡ 48 + m % 10 = head-eq_of_cons-eq (tail-eq_of_cons-eq e) in
    omega arith

-- two digits are a numeral of that width
pub numeral_digits : (n : ℕ) → n < 10 ^ 2 → numeral 10 2 n ≡ digits n
unfolding numeral
numeral_digits n h =
    let few : n / 10 % 10 ≡ n / 10 = omega arith in
    rw (symbol_low (n / 10 % 10) (omega arith), symbol_low (n % 10) (omega arith), few)

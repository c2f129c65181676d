-- Laws of how numbers are written out: the last digit, and how many digits a plain decimal has.
use mathlib.Core.Path.{◌≡◌, refl, sym, ◌∙◌}
use mathlib.Core.Bool.{false≢true}
use mathlib.Core.List.{[], ◌∷◌, ◌++◌}
use Prim.Native.Nat.{ℕ, zero, suc, ◌-◌, ◌/◌, ◌%◌, ◌^◌, ◌<◌, ◌≤◌}
use native.Mathlib.Nat.{not-suc-le-zero}
use native.Mathlib.Numerals.{sub-one}
use native.Mathlib.Decide.{dec_le}
use native.Mathlib.Omega.{arith}
use lib.Dec.{ltb}
use lib.ListN.{length}
use borrow.Author.Tests.{lt-ltb, le-ltb}
use Rattle.laws.specs.Bit.{first_below}
use Rattle.laws.proofs.First.{first_at, first_least}
use Rattle.spelling.specs.Numeral.{symbol, numeral}
use Rattle.spelling.proofs.Numeral.{length_numeral}
use Rattle.spelling.specs.Decimal.{further_digits, decimal}

pub no_digits : (base width n : ℕ) → width ≡ 0 → [] ≡ numeral base width n
unfolding numeral
no_digits base zero n e = refl
no_digits base (suc width) n e = absurd (omega arith)

pub last_digit : (base width n : ℕ) → (width ≡ 0 → ⊥) → numeral base (width - 1) (n / base) ++ (symbol (n % base) ∷ []) ≡ numeral base width n
unfolding numeral
last_digit base zero n h = absurd (h refl)
last_digit base (suc width) n h = rw sub-one

-- which number of digits is enough, and no fewer
further : (n k : ℕ) → k < n → n < 10 ^ suc k → ((i : ℕ) → i < k → 10 ^ suc i ≤ n) → further_digits n ≡ k
unfolding further_digits
further n k l below above =
    first_at n (λ i. ltb n (10 ^ suc i)) l (lt-ltb n (10 ^ suc k) below) (λ i h. le-ltb n (10 ^ suc i) (above i h))

pub one_digit : (n : ℕ) → n < 10 → numeral 10 1 n ≡ decimal n
unfolding decimal further_digits first_below
one_digit zero h = refl
one_digit (suc n) h = rw (further (suc n) 0 (omega arith) h (λ i l. absurd (not-suc-le-zero l)))

pub two_digits : (n : ℕ) → 10 ≤ n → n < 100 → numeral 10 2 n ≡ decimal n
unfolding decimal
two_digits n l h = rw (further n 1 (omega arith) h above)
  where
    above : (i : ℕ) → i < 1 → 10 ^ suc i ≤ n
    above zero g = l
    above (suc i) g = absurd (omega arith)

pub three_digits : (n : ℕ) → 100 ≤ n → n < 1000 → numeral 10 3 n ≡ decimal n
unfolding decimal
three_digits n l h = rw (further n 2 (omega arith) h above)
  where
    above : (i : ℕ) → i < 2 → 10 ^ suc i ≤ n
    above zero g = omega arith
    above (suc zero) g = l
    above (suc (suc i)) g = absurd (omega arith)

-- what a plain decimal below a thousand takes at most
pub length_decimal : (n : ℕ) → n < 1000 → length (decimal n) ≤ 3
unfolding decimal further_digits
length_decimal n h = rw length_numeral (go (dec_le (first_below n (λ k. ltb n (10 ^ suc k))) 2))
  where
    go : Dec (first_below n (λ k. ltb n (10 ^ suc k)) ≤ 2) → suc (first_below n (λ k. ltb n (10 ^ suc k))) ≤ 3
    go (yes l) = omega arith
    go (no l) = absurd (false≢true (sym (first_least n (λ k. ltb n (10 ^ suc k)) 2 (omega arith)) ∙ lt-ltb n 1000 h))

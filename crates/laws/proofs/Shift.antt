-- Which bits are on in a power of two, in the low digits of a number, after `<<` and after `!`. (`>>` is `on_shr`, in On.) A goal has `a << k` in a word
-- of w bits as `a * 2 ^ k % 2 ^ w`, and `!a` as `2 ^ w - 1 - a`. Knows numbers alone.
use mathlib.Core.Path.{◌≡◌, refl, sym, ap, ◌∙◌}
use mathlib.Core.Bool.{Bool, true, false, not, ◌&&◌, and_assoc, and-true}
use Prim.Native.Nat.{ℕ, zero, suc, ◌+◌, ◌-◌, ◌*◌, ◌/◌, ◌%◌, ◌^◌, ◌<◌}
use native.Mathlib.Nat.{mod-one, mul-one, one-mul, mod-eq_of_lt, pow-suc, sub-zero, suc-sub-suc}
use native.Mathlib.Numerals.{add-one}
use native.Mathlib.Omega.{arith}
use lib.Dec.{leb, ltb, eqb, leb-zero, leb-suc-zero, leb-suc-suc, eqb-zero-suc, eqb-suc-zero, eqb-suc-suc}
use lib.Pow.{pow_pos, pow-lt, mod-pow-add}
use Rattle.laws.specs.Bit.{on}
use Rattle.laws.proofs.On.{digit, on_zero, on_suc, on_low, on_rest, on_none}

not_digit : (b : Bool) → digit (not b) ≡ 1 - digit b
not_digit true = refl
not_digit false = refl

-- the w lowest digits of a number
mod_digits : (n w : ℕ) → n % 2 ^ suc w ≡ n / 2 % 2 ^ w * 2 + digit (on n 0)
mod_digits n w = rw (on_zero, ← add-one w) (mod-pow-add n w 1)

pub on_mod : (n w i : ℕ) → on (n % 2 ^ w) i ≡ (ltb i w && on n i)
on_mod n zero i = rw (mod-one, leb-suc-zero, on_none)
on_mod n (suc w) zero = rw (leb-suc-suc, leb-zero) (on_low (n / 2 % 2 ^ w) (on n 0) (mod_digits n w))
on_mod n (suc w) (suc i) = rw (leb-suc-suc, on_suc n i) (on_rest (n / 2 % 2 ^ w) (on n 0) (mod_digits n w) i ∙ on_mod (n / 2) w i)

-- a number with k digits 0 put below it
pub on_mul : (a k i : ℕ) → on (a * 2 ^ k) i ≡ (leb k i && on a (i - k))
on_mul a zero i = rw (mul-one, leb-zero, sub-zero)
on_mul a (suc k) zero = rw leb-suc-zero (on_low (a * 2 ^ k) false (rw pow-suc (omega arith)))
on_mul a (suc k) (suc i) = rw (leb-suc-suc, suc-sub-suc) (on_rest (a * 2 ^ k) false (rw pow-suc (omega arith)) i ∙ on_mul a k i)

-- `a << k`
pub on_shl : (a k w i : ℕ) → on (a * 2 ^ k % 2 ^ w) i ≡ (ltb i w && leb k i && on a (i - k))
on_shl a k w i = rw (on_mod, on_mul) (sym (and_assoc (ltb i w) (leb k i) (on a (i - k))))

-- one bit
pub on_pow : (k i : ℕ) → on (2 ^ k) i ≡ eqb i k
on_pow zero zero = on_low 0 true refl
on_pow zero (suc i) = on_rest 0 true refl i ∙ on_none i ∙ sym (eqb-suc-zero i)
on_pow (suc k) zero = rw eqb-zero-suc (on_low (2 ^ k) false (omega arith))
on_pow (suc k) (suc i) = rw eqb-suc-suc (on_rest (2 ^ k) false (omega arith) i ∙ on_pow k i)

-- `1 << k`
pub on_one_shl : (k w i : ℕ) → k < w → on (1 * 2 ^ k % 2 ^ w) i ≡ eqb i k
on_one_shl k w i h = rw (one-mul, mod-eq_of_lt (pow-lt h)) (on_pow k i)

-- `!a`, of an a of k bits
not_digits : (k a : ℕ) → a < 2 ^ suc k → (2 ^ suc k - 1) - a ≡ ((2 ^ k - 1) - a / 2) * 2 + digit (not (on a 0))
not_digits k a h = omega (arith, on_zero a, not_digit (on a 0))

pub on_not : (k : ℕ) {a : ℕ} → a < 2 ^ k → (i : ℕ) → on ((2 ^ k - 1) - a) i ≡ (ltb i k && not (on a i))
on_not zero {a} h i = let none : (2 ^ 0 - 1) - a ≡ 0 = omega arith in rw (none, on_none, leb-suc-zero)
on_not (suc k) {a} h zero = rw (leb-suc-suc, leb-zero) (on_low ((2 ^ k - 1) - a / 2) (not (on a 0)) (not_digits k a h))
on_not (suc k) {a} h (suc i) =
    rw (leb-suc-suc, on_suc a i) (on_rest ((2 ^ k - 1) - a / 2) (not (on a 0)) (not_digits k a h) i ∙ on_not k (omega arith) i)

-- the k lowest bits, and no other
pub on_ones : (k i : ℕ) → on (2 ^ k - 1) i ≡ ltb i k
on_ones k i = ap (λ (n : ℕ). on n i) (sym (sub-zero _)) ∙ on_not k (pow_pos k) i ∙ rw (on_none, and-true)

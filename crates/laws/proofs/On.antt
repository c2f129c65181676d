-- A number by its binary digits: the lowest one and the rest, two numbers with the same bits are equal, and how many bits a number needs. Every other
-- law of bits rests on this file, and none but this opens `on`. Knows numbers alone.
use mathlib.Core.Path.{◌≡◌, refl, sym, ap, ap₂, ◌∙◌}
use mathlib.Core.Bool.{Bool, true, false, cond, false≢true}
use Prim.Native.Nat.{ℕ, zero, suc, ◌+◌, ◌*◌, ◌/◌, ◌%◌, ◌^◌, ◌≤◌, ◌<◌}
use native.Mathlib.Nat.{add_comm, div-eq_of_lt, div-lt_iff_lt-mul, lt_of_lt_of_le, lt_of_not-le, zero-div}
use native.Mathlib.Numerals.{add-one}
use native.Mathlib.Omega.{arith}
use lib.Dec.{eqb}
use lib.Arith.{half_le}
use lib.Pow.{pow_pos, pow_mono, shr-shr}
use Rattle.laws.specs.Bit.{on}

-- a bit as a number
abbrev pub digit : Bool → ℕ
digit b = cond b 1 0

is_digit : (n : ℕ) → n < 2 → n ≡ digit (eqb n 1)
is_digit zero h = refl
is_digit (suc zero) h = refl
is_digit (suc (suc n)) h = absurd (omega arith)

digit_is : (b : Bool) → eqb (digit b) 1 ≡ b
digit_is true = refl
digit_is false = refl

pub digit_le : (b : Bool) → digit b ≤ 1
digit_le true = omega arith
digit_le false = omega arith

-- a number without its k lowest digits: `n >> k`
pub on_shr : (n k i : ℕ) → on (n / 2 ^ k) i ≡ on n (i + k)
unfolding on
on_shr n k i = rw (shr-shr, add_comm k i)

pub on_suc : (n i : ℕ) → on n (suc i) ≡ on (n / 2) i
on_suc n i = sym (on_shr n 1 i ∙ ap (on n) (add-one i))

-- a number that is written by its lowest digit and the rest
pub on_low : (q : ℕ) (b : Bool) {n : ℕ} → n ≡ q * 2 + digit b → on n 0 ≡ b
unfolding on
on_low q b {n} e = let low : n / 2 ^ 0 % 2 ≡ digit b = omega (arith, digit_le b) in rw low (digit_is b)

pub on_rest : (q : ℕ) (b : Bool) {n : ℕ} → n ≡ q * 2 + digit b → (i : ℕ) → on n (suc i) ≡ on q i
on_rest q b {n} e i = on_suc n i ∙ ap (λ (x : ℕ). on x i) (omega (arith, digit_le b))

-- every number is written so
pub on_zero : (n : ℕ) → digit (on n 0) ≡ n % 2
unfolding on
on_zero n = sym (is_digit (n / 2 ^ 0 % 2) (omega arith)) ∙ omega arith

pub halves : (n : ℕ) → n ≡ n / 2 * 2 + digit (on n 0)
halves n = omega (arith, on_zero n)

-- nothing is on in 0
pub on_none : (i : ℕ) → on 0 i ≡ false
unfolding on
on_none i = rw zero-div

-- two numbers with the same bits are equal
pub same_bits : (a b : ℕ) → ((i : ℕ) → on a i ≡ on b i) → a ≡ b
same_bits a b h = go (a + b) a b (omega arith) (omega arith) h
  where
    go : (most a b : ℕ) → a ≤ most → b ≤ most → ((i : ℕ) → on a i ≡ on b i) → a ≡ b
    go zero a b ha hb h = omega arith
    go (suc most) a b ha hb h =
        halves a ∙ ap₂ (λ (q : ℕ) (c : Bool). q * 2 + digit c)
        (go most (a / 2) (b / 2) (half_le ha) (half_le hb) (λ i. sym (on_suc a i) ∙ h (suc i) ∙ on_suc b i)) (h 0)
        ∙ sym (halves b)

-- a number of k bits has none on from k up, and a number that has none on there is of k bits
pub on_high : (k : ℕ) {n i : ℕ} → n < 2 ^ k → k ≤ i → on n i ≡ false
unfolding on
on_high k h l = rw (div-eq_of_lt (lt_of_lt_of_le h (pow_mono l)))

pub on_below : (k : ℕ) {n i : ℕ} → n < 2 ^ k → on n i ≡ true → i < k
on_below k h e = lt_of_not-le (λ l. false≢true (sym (on_high k h l) ∙ e))

pub low_enough : (k n : ℕ) → ((i : ℕ) → k ≤ i → on n i ≡ false) → n < 2 ^ k
low_enough k n h =
    let none : n / 2 ^ k ≡ 0 = same_bits (n / 2 ^ k) 0 (λ i. on_shr n k i ∙ h (i + k) (omega arith) ∙ sym (on_none i)) in
    omega (arith, (div-lt_iff_lt-mul {x = n} {y = 1} (pow_pos k)).0 (omega arith))

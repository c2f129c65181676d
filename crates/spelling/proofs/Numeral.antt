-- Laws of how numbers are written: as many digits as the width, each the symbol of a digit, and one number for each run of digits.
use mathlib.Core.Path.{◌≡◌, refl, sym, ap, ◌∙◌}
use mathlib.Core.List.{List, [], ◌∷◌, ◌++◌}
use Prim.Native.Nat.{ℕ, zero, suc, ◌+◌, ◌*◌, ◌/◌, ◌%◌, ◌^◌, ◌≤◌, ◌<◌}
use native.Mathlib.Nat.{mod-lt, div-lt_iff_lt-mul, div-add-mod', pow-zero, pow-suc}
use native.Mathlib.Decide.{dec_lt}
use native.Mathlib.Omega.{arith}
use lib.Arith.{digits_div, digits_mod}
use lib.ListN.{length, get_or, take, length-append}
use lib.Seq.{get_or_at, take_at}
use borrow.Author.Tests.{lt-ltb, le-ltb}
use Rattle.spelling.specs.Numeral.{symbol, numeral}

-- the two halves of the digits: those below ten and the letters
pub symbol_low : (d : ℕ) → d < 10 → symbol d ≡ 48 + d
symbol_low d l = rw (lt-ltb d 10 l)

pub symbol_high : (d : ℕ) → 10 ≤ d → symbol d ≡ 87 + d
symbol_high d l = rw (le-ltb d 10 l)

-- one more digit
pub numeral_more : (base width n d : ℕ) → d < base → numeral base (suc width) (n * base + d) ≡ numeral base width n ++ (symbol d ∷ [])
unfolding numeral
numeral_more base width n d l = rw (digits_div n l, digits_mod n l)

pub length_numeral : (base width n : ℕ) → length (numeral base width n) ≡ width
unfolding numeral
length_numeral base zero n = refl
length_numeral base (suc width) n = simp (length-append, length_numeral base width (n / base)) (omega arith)

-- what holds of each element and of one more holds of each where that one stands at the end
each_and_last :
    (P : ℕ → Type 0) (xs : List ℕ) (a i : ℕ) → i < suc (length xs) → (i < length xs → P (get_or xs i 0)) → P a → P (get_or (xs ++ (a ∷ [])) i 0)
each_and_last P [] a zero l each last = last
each_and_last P [] a (suc i) l each last = absurd (omega arith)
each_and_last P (x ∷ xs) a zero l each last = each (omega arith)
each_and_last P (x ∷ xs) a (suc i) l each last = each_and_last P xs a i (omega arith) (λ h. each (omega arith)) last

-- each digit is the symbol of a number below the base
pub record Digit (base byte : ℕ) : Type 0 where
  pub value : ℕ
  pub below : value < base
  pub shown : byte ≡ symbol value

pub digit_at : (base width n i : ℕ) → 0 < base → i < width → Digit base (get_or (numeral base width n) i 0)
unfolding numeral
digit_at base zero n i pos l = absurd (omega arith)
digit_at base (suc width) n i pos l =
    let long = length_numeral base width (n / base) in
    each_and_last
    (Digit base)
    (numeral base width (n / base))
    (symbol (n % base))
    i
    (omega (arith, long))
    (λ h. digit_at base width (n / base) i pos (omega (arith, long)))
    (record { value = n % base; below = mod-lt n pos; shown = refl })

-- a digit has one symbol
pub same_digit : (d e : ℕ) → d < 16 → e < 16 → symbol d ≡ symbol e → d ≡ e
same_digit d e hd he s = go (dec_lt d 10) (dec_lt e 10)
  where
    go : Dec (d < 10) → Dec (e < 10) → d ≡ e
    go (yes p) (yes q) = omega (arith, sym (symbol_low d p) ∙ s ∙ symbol_low e q)
    go (yes p) (no q) = omega (arith, sym (symbol_low d p) ∙ s ∙ symbol_high e (omega arith))
    go (no p) (yes q) = omega (arith, sym (symbol_high d (omega arith)) ∙ s ∙ symbol_low e q)
    go (no p) (no q) = omega (arith, sym (symbol_high d (omega arith)) ∙ s ∙ symbol_high e (omega arith))

-- digits in a row are one number
pub same_number :
    (base width n m : ℕ) → 0 < base → base ≤ 16 → n < base ^ width → m < base ^ width → numeral base width n ≡ numeral base width m → n ≡ m
unfolding numeral
same_number base zero n m pos few hn hm e = omega (arith, pow-zero base)
same_number base (suc width) n m pos few hn hm e =
    let front = same_number base width (n / base) (m / base) pos few (shorter n hn) (shorter m hm) (sym (fronts n) ∙ ap (take width) e ∙ fronts m) in
    let last = same_digit (n % base) (m % base) (small n) (small m) (sym (lasts n) ∙ ap (λ l. get_or l width 0) e ∙ lasts m) in
    sym (div-add-mod' n base) ∙ (cc) ∙ div-add-mod' m base
  where
    shorter : (k : ℕ) → k < base ^ suc width → k / base < base ^ width
    shorter k h = (div-lt_iff_lt-mul pos).1 (rw pow-suc at h)

    small : (k : ℕ) → k % base < 16
    small k = omega (arith, mod-lt k pos)

    fronts : (k : ℕ) → take width (numeral base width (k / base) ++ (symbol (k % base) ∷ [])) ≡ numeral base width (k / base)
    fronts k = take_at (numeral base width (k / base)) (symbol (k % base) ∷ []) width (length_numeral base width (k / base))

    lasts : (k : ℕ) → get_or (numeral base width (k / base) ++ (symbol (k % base) ∷ [])) width 0 ≡ symbol (k % base)
    lasts k = get_or_at (numeral base width (k / base)) (symbol (k % base)) [] 0 width (length_numeral base width (k / base))

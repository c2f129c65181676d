-- Laws of looking at bytes: which digit a byte is, which number a run of digits is, whether a key stands at a place.
use mathlib.Core.Path.{◌≡◌, sym, ap, ◌∙◌}
use mathlib.Core.Logic.{◌≢◌, ◌↔◌}
use mathlib.Core.Bool.{true, false, false≢true}
use mathlib.Core.List.{List, ◌++◌}
use Prim.Native.Nat.{ℕ, ◌+◌, ◌-◌, ◌*◌, ◌^◌, ◌≤◌, ◌<◌}
use native.Mathlib.Nat.{pow-suc, pow-le-pow_right}
use native.Mathlib.Numerals.{add-one, add-one-le}
use native.Mathlib.Omega.{arith}
use lib.Arith.{digits_lt}
use lib.ListN.{length, get_or, take, drop, length-append, length-drop}
use lib.Seq.{take-suc, get_or-drop}
use Rattle.std.specs.List.{AllWithin}
use Rattle.spelling.specs.Numeral.{lf, symbol, numeral}
use Rattle.spelling.specs.Scan.{FirstLf}
use Rattle.spelling.proofs.Numeral.{numeral_more, digit_at}

-- One more digit of a number, at bytes whose first digits are read: what is read so far, and that it fits.
pub number_more :
    (bytes : List ℕ) (base i n d : ℕ) → i < length bytes → d < base → get_or bytes i 0 ≡ symbol d → take i bytes ≡ numeral base i n
    → take (i + 1) bytes ≡ numeral base (i + 1) (n * base + d)
number_more bytes base i n d l small shown read = rw (add-one, take-suc bytes i 0 l, numeral_more base i n d small, read, shown)

pub below_number : (base i n d : ℕ) → d < base → n < base ^ i → n * base + d < base ^ (i + 1)
below_number base i n d small l = rw (add-one, pow-suc) (digits_lt l small)

pub number_fits :
    (base width i n d : ℕ) → 0 < base → d < base → i < width → base ^ width ≤ 2 ^ 32 → n < base ^ i → n * base + d < 2 ^ 32
number_fits base width i n d pos small l room h =
    let below = below_number base i n d small h in
    let grows = pow-le-pow_right pos (add-one-le l) in
    omega (arith, below, grows)

-- one byte that is no digit of the base, and the run is no number
pub number_none :
    (bytes : List ℕ) (base width i : ℕ) → 0 < base → i < width → ((d : ℕ) → d < base → get_or bytes i 0 ≡ symbol d → ⊥)
    → (n : ℕ) → bytes ≡ numeral base width n → ⊥
number_none bytes base width i pos l none n e =
    let at = digit_at base width n i pos l in
    none at.value at.below (ap (λ (l : List ℕ). get_or l i 0) e ∙ at.shown)

-- The first LF of what is left from a place on, and that there is none.
not_before : (bytes : List ℕ) (from i k : ℕ) → AllWithin (λ b. b ≢ lf) (drop from bytes) 0 i → from ≤ k → k < from + i → get_or bytes k 0 ≡ lf → ⊥
not_before bytes from i k none m l e =
    let there : from + (k - from) ≡ k = omega arith in
    none (k - from) 0 (omega arith) (omega arith) (rw (get_or-drop, there) e)

pub lf_found : (bytes : List ℕ) (from i : ℕ) → i < length (drop from bytes) → get_or (drop from bytes) i 0 ≡ lf
    → AllWithin (λ b. b ≢ lf) (drop from bytes) 0 i → FirstLf bytes from (from + i)
lf_found bytes from i l found none = record {
  onward = omega arith;
  within = omega (arith, length-drop from bytes);
  passed = λ k h m e. not_before bytes from i k none m h e;
  found = λ h. sym (get_or-drop from bytes i 0) ∙ found;
}

pub lf_nowhere : (bytes : List ℕ) (from : ℕ) → from ≤ length bytes → AllWithin (λ b. b ≢ lf) (drop from bytes) 0 (length (drop from bytes))
    → FirstLf bytes from (length bytes)
lf_nowhere bytes from onward none = record {
  onward = onward;
  within = omega arith;
  passed = λ k h m e. not_before bytes from (length (drop from bytes)) k none m (omega (arith, length-drop from bytes)) e;
  found = λ h. absurd (omega arith);
}

-- what a test answers, where what it asks is known
pub said_no : {P : Type 0} → (P → ⊥) → (false ≡ true) ↔ P
said_no never = (λ e. absurd (false≢true e), λ p. absurd (never p))

-- what a key that stands at a place tells
pub opens_long : (bytes key rest : List ℕ) (at : ℕ) → drop at bytes ≡ key ++ rest → length key ≤ length bytes - at
opens_long bytes key rest at e = omega (arith, simp (length-drop, length-append) at (ap length e))

-- What each operation on the word does to the positions that the set holds: for this crate's methods alone. No other file opens `holds`, but for the first
-- laws of Held.
use mathlib.Core.Path.{◌≡◌, refl, sym, ap, ◌∙◌}
use mathlib.Core.Logic.{◌↔◌}
use mathlib.Core.Bool.{Bool, true, false, not, ◌&&◌, ◌||◌, and_comm, and-false, and_self, and-or_distrib_left}
use Prim.Native.Nat.{ℕ, ◌+◌, ◌-◌, ◌*◌, ◌/◌, ◌%◌, ◌^◌, ◌≤◌, ◌<◌}
use native.Mathlib.Nat.{one-mul, mod-eq_of_lt, mod-lt, lt_of_le_of_lt, div-le_self}
use native.Mathlib.Numerals.{add-one}
use native.Mathlib.Omega.{arith}
use lib.Dec.{eqb, leb, ltb, leb-suc-suc}
use lib.Bits.{bit_and, bit_or}
use lib.Count.{ones, ones-le, count_trailing_zeros, trailing_le}
use lib.Pow.{pow_pos, pow-lt}
use mir.Syntax.{w64}
use mir.Val.{Fits}
use borrow.Author.Tests.{ltb-true, lt-ltb, le-ltb, le-leb, eqb-true, eq-eqb}
use Rattle.laws.specs.Bit.{on}
use Rattle.laws.proofs.Truth.{same_truth, no_truth, and_iff, and_idle}
use Rattle.laws.proofs.On.{on_none, on_below, on_shr, same_bits}
use Rattle.laws.proofs.Bitwise.{on_and, on_or}
use Rattle.laws.proofs.Shift.{on_shl, on_one_shl, on_not, on_ones}
use Rattle.laws.proofs.Count.{count_ones, count_cong}
use Rattle.laws.proofs.First.{first_trailing, first_cong}
use Rattle.meaning.specs.Limits.{log_limit, places}
use Rattle.meaning.specs.Reach.{count_of, earliest_of, SetWord}
use Rattle.positions.specs.declared.PositionSet.{PositionSet}
use Rattle.positions.specs.Positions.{holds, Empty, Proper}

abbrev pub of_number : ℕ → PositionSet
of_number w = record { word = w }

-- in a word that a machine has, the positions held are the bits that are on
pub held_bit : (s : PositionSet) → Proper s → (q : ℕ) → holds s q ≡ on s.word q
unfolding holds
held_bit s h q = and_idle (ltb q places) (on s.word q) (λ e. lt-ltb q places (on_below places h.fits e))

-- `(a >> p) % 2 == 1`, and past the last place
pub has_place : (s : PositionSet) (p : ℕ) → p < places → eqb (s.word / 2 ^ p % 2) 1 ≡ holds s p
unfolding holds on
has_place s p h = rw (lt-ltb p places h)

pub has_no_place : (s : PositionSet) (p : ℕ) → places ≤ p → false ≡ holds s p
unfolding holds
has_no_place s p h = rw (le-ltb p places h)

-- `1 << p`
eqb_comm : (p q : ℕ) → eqb q p ≡ eqb p q
eqb_comm p q = same_truth _ _ (λ e. eq-eqb p q (omega (arith, eqb-true q p e))) (λ e. eq-eqb q p (omega (arith, eqb-true p q e)))

pub at_place : (p : ℕ) → p < places → (q : ℕ) → holds (of_number (1 * 2 ^ p % 2 ^ places)) q ≡ (eqb p q && ltb q places)
unfolding holds
at_place p h q = rw (on_one_shl p places q h, eqb_comm p q) (and_comm (ltb q places) (eqb p q))

pub at_no_place : (p : ℕ) → places ≤ p → (q : ℕ) → holds (of_number 0) q ≡ (eqb p q && ltb q places)
unfolding holds
at_no_place p h q =
    let past : (eqb p q && ltb q places) ≡ true → ⊥ = λ e.
    let here : p ≡ q = eqb-true p q ((and_iff (eqb p q) (ltb q places)).0 e).0 in
    let low : q < places = ltb-true q places ((and_iff (eqb p q) (ltb q places)).0 e).1 in
    omega arith in
    rw on_none (and-false (ltb q places) ∙ sym (no_truth (eqb p q && ltb q places) past))

-- `(1 << (n + 1)) - 1`, and all bits
pub next_power : (n : ℕ) → n < log_limit → 1 * 2 ^ (n + 1) % 2 ^ places ≡ 2 ^ (n + 1)
next_power n h = rw (one-mul, mod-eq_of_lt (pow-lt {i = n + 1} {j = places} (omega arith)))

pub up_to_place : (n : ℕ) → n < log_limit → (q : ℕ) → holds (of_number (1 * 2 ^ (n + 1) % 2 ^ places - 1)) q ≡ (leb q n && ltb q places)
unfolding holds
up_to_place n h q = rw (next_power n h, on_ones, add-one n, leb-suc-suc q n) (and_comm (ltb q places) (leb q n))

pub up_to_all : (n : ℕ) → log_limit ≤ n → (q : ℕ) → holds (of_number (2 ^ places - 1)) q ≡ (leb q n && ltb q places)
unfolding holds
up_to_all n h q =
    rw (on_ones places q)
    (and_self (ltb q places) ∙ sym (and_idle (leb q n) (ltb q places) (λ e. le-leb q n (omega (arith, ltb-true q places e)))))

-- `a | b`, `a & b`, `a & !b`
pub join_word : (s t : PositionSet) (q : ℕ) → holds (of_number (bit_or s.word t.word)) q ≡ (holds s q || holds t q)
unfolding holds
join_word s t q = rw on_or (and-or_distrib_left (ltb q places) (on s.word q) (on t.word q))

meet_each : (x a b : Bool) → (x && (a && b)) ≡ (x && a && (x && b))
meet_each true a b = refl
meet_each false a b = refl

pub meet_word : (s t : PositionSet) (q : ℕ) → holds (of_number (bit_and s.word t.word)) q ≡ (holds s q && holds t q)
unfolding holds
meet_word s t q = rw on_and (meet_each (ltb q places) (on s.word q) (on t.word q))

without_each : (x a b : Bool) → (x && (a && (x && not b))) ≡ (x && a && not (x && b))
without_each true a b = refl
without_each false a b = refl

pub without_word : (s t : PositionSet) → Proper t → (q : ℕ) →
    holds (of_number (bit_and s.word (2 ^ places - 1 - t.word))) q ≡ (holds s q && not (holds t q))
unfolding holds
without_word s t h q = rw (on_and, on_not places h.fits q) (without_each (ltb q places) (on s.word q) (on t.word q))

-- `a << 1`, `a >> 1`
pub up_word : (s : PositionSet) → Proper s → (q : ℕ) →
    holds (of_number (s.word * 2 ^ 1 % 2 ^ places)) q ≡ (ltb q places && leb 1 q && holds s (q - 1))
up_word s h q =
    held_bit (of_number (s.word * 2 ^ 1 % 2 ^ places)) (record { fits = mod-lt (s.word * 2 ^ 1) (pow_pos places) }) q
    ∙ on_shl s.word 1 places q
    ∙ ap (λ (b : Bool). ltb q places && leb 1 q && b) (sym (held_bit s h (q - 1)))

pub down_word : (s : PositionSet) → Proper s → (q : ℕ) → holds (of_number (s.word / 2 ^ 1)) q ≡ holds s (q + 1)
down_word s h q =
    held_bit (of_number (s.word / 2 ^ 1)) (record { fits = lt_of_le_of_lt (div-le_self s.word (2 ^ 1)) h.fits }) q
    ∙ on_shr s.word 1 q
    ∙ sym (held_bit s h (q + 1))

-- `a == 0`
pub empty_word : (s : PositionSet) → Proper s → (eqb s.word 0 ≡ true) ↔ Empty s
empty_word s h = (
  λ e q. held_bit s h q ∙ ap (λ (w : ℕ). on w q) (eqb-true s.word 0 e) ∙ on_none q,
  λ none. eq-eqb s.word 0 (same_bits s.word 0 (λ q. sym (held_bit s h q) ∙ none q ∙ sym (on_none q))),
)

-- the set as a number
pub set_word : (s : PositionSet) → Proper s → SetWord (holds s) s.word
set_word s h = record { width = h.fits; bits = λ q. sym (held_bit s h q) }

-- `count_ones` and `trailing_zeros`
pub count_word : (s : PositionSet) → Proper s → ones s.word ≡ count_of (holds s)
count_word s h = sym (count_ones places h.fits) ∙ count_cong places (λ q l. sym (held_bit s h q))

pub earliest_word : (s : PositionSet) → Proper s → count_trailing_zeros places s.word ≡ earliest_of (holds s)
earliest_word s h = sym (first_trailing places s.word) ∙ first_cong places (λ q l. sym (held_bit s h q))

-- either is a number that a machine has
pub ones_fit : (w : ℕ) → w < 2 ^ places → Fits w64 (ones w)
ones_fit w h = omega (arith, ones-le places w h)

pub zeros_fit : (w : ℕ) → Fits w64 (count_trailing_zeros places w)
zeros_fit w = omega (arith, trailing_le places w)

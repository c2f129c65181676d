-- The first of the numbers below k that passes a test: it passes, no earlier one does, it is k exactly where none below k passes, and of a number's bits it
-- is what `trailing_zeros` gives; so a loop may turn off the lowest bit until none is left. Knows numbers alone.
use mathlib.Core.Path.{◌≡◌, refl, sym, ap, ap₂, ◌∙◌}
use mathlib.Core.Logic.{◌↔◌, ⊎_elim}
use mathlib.Core.Bool.{Bool, true, false, cond, xor, false≢true}
use Prim.Native.Nat.{ℕ, zero, suc, ◌*◌, ◌/◌, ◌%◌, ◌^◌, ◌≤◌, ◌<◌, suc-le-suc}
use native.Mathlib.Nat.{eq-or-lt_of_le, le_antisymm, le_of_suc-le-suc, lt_of_le_of_lt, lt_of_not-le, not-suc-le-zero}
use native.Mathlib.Omega.{arith}
use borrow.Author.Tests.{eqb-true, eq-eqb, ltb-true, ltb-false}
use lib.Bits.{bit_xor}
use lib.Count.{count_trailing_zeros, under}
use lib.Dec.{eqb, ltb}
use Rattle.laws.specs.Bit.{on, first_below}
use Rattle.laws.proofs.On.{digit, on_zero, on_suc, on_none, on_below, same_bits}
use Rattle.laws.proofs.Bitwise.{on_xor}
use Rattle.laws.proofs.Shift.{on_one_shl}
use Rattle.laws.proofs.Truth.{same_truth, no_truth, off_on}

pub first_cong : (k : ℕ) {f g : ℕ → Bool} → ((i : ℕ) → i < k → f i ≡ g i) → first_below k f ≡ first_below k g
unfolding first_below
first_cong zero h = refl
first_cong (suc k) h = ap₂ (λ (b : Bool) (n : ℕ). cond b 0 (suc n)) (h 0 (omega arith)) (first_cong k (λ i l. h (suc i) (omega arith)))

either_le : (b : Bool) {n k : ℕ} → n ≤ k → cond b 0 (suc n) ≤ suc k
either_le true h = omega arith
either_le false h = suc-le-suc h

pub first_le : (k : ℕ) (f : ℕ → Bool) → first_below k f ≤ k
unfolding first_below
first_le zero f = omega arith
first_le (suc k) f = either_le (f 0) (first_le k (λ i. f (suc i)))

pub first_found : (k : ℕ) (f : ℕ → Bool) → first_below k f < k → f (first_below k f) ≡ true
unfolding first_below
first_found zero f h = absurd (omega arith)
first_found (suc k) f h = go (first_found k (λ i. f (suc i))) (f 0) refl h
  where
    rest : ℕ
    rest = first_below k (λ i. f (suc i))

    go : (rest < k → f (suc rest) ≡ true) → (b : Bool) → f 0 ≡ b → cond b 0 (suc rest) < suc k → f (cond b 0 (suc rest)) ≡ true
    go later true e l = e
    go later false e l = later (le_of_suc-le-suc l)

pub first_least : (k : ℕ) (f : ℕ → Bool) (i : ℕ) → i < first_below k f → f i ≡ false
unfolding first_below
first_least zero f i h = absurd (omega arith)
first_least (suc k) f i h = go (first_least k (λ j. f (suc j))) (f 0) refl i h
  where
    rest : ℕ
    rest = first_below k (λ j. f (suc j))

    go : ((j : ℕ) → j < rest → f (suc j) ≡ false) → (b : Bool) → f 0 ≡ b → (j : ℕ) → j < cond b 0 (suc rest) → f j ≡ false
    go later true e j l = absurd (not-suc-le-zero l)
    go later false e zero l = e
    go later false e (suc j) l = later j (le_of_suc-le-suc l)

-- which of the numbers below k it is
pub first_at : (k : ℕ) (f : ℕ → Bool) {j : ℕ} → j < k → f j ≡ true → ((i : ℕ) → i < j → f i ≡ false) → first_below k f ≡ j
first_at k f {j} l p q =
    let late : first_below k f < j → ⊥ = λ h. false≢true (sym (q (first_below k f) h) ∙ first_found k f (omega arith)) in
    let early : j < first_below k f → ⊥ = λ h. false≢true (sym (first_least k f j h) ∙ p) in
    omega arith

-- none of them
pub first_none : (k : ℕ) (f : ℕ → Bool) → (first_below k f ≡ k) ↔ ((i : ℕ) → i < k → f i ≡ false)
first_none k f = (
  λ e i l. first_least k f i (omega arith),
  λ none.
      let nowhere : first_below k f < k → ⊥ = λ h. false≢true (sym (none (first_below k f) h) ∙ first_found k f h) in
      omega (arith, first_le k f),
)

-- so where not every one fails, this is one that passes
pub first_some : (k : ℕ) (f : ℕ → Bool) → (((i : ℕ) → i < k → f i ≡ false) → ⊥) → (i : ℕ) × (i < k) × (f i ≡ true)
first_some k f h =
    let there : first_below k f < k = lt_of_not-le (λ l. h ((first_none k f).0 (le_antisymm (first_le k f) l))) in
    (first_below k f, there, first_found k f there)

-- A test that fails from k on: which is the first below a larger bound is found below k.

-- the first that passes below k, and `past` if none does
unfoldable pub first_up_to : ℕ → ℕ → (ℕ → Bool) → ℕ
first_up_to k past f = let first = first_below k f in cond (ltb first k) first past

pub first_cut : (k j : ℕ) (f : ℕ → Bool) → ((i : ℕ) → k ≤ i → f i ≡ false) → k ≤ j → first_below j f ≡ first_up_to k j f
unfolding first_up_to
first_cut k j f off l = go (ltb (first_below k f) k) refl
  where
    go : (b : Bool) → ltb (first_below k f) k ≡ b → first_below j f ≡ cond b (first_below k f) j
    go true e =
        let h = ltb-true (first_below k f) k e in
        first_at j f (omega arith) (first_found k f h) (first_least k f)
    go false e =
        let none = (first_none k f).0 (omega (arith, first_le k f, ltb-false (first_below k f) k e)) in
        (first_none j f).1 (λ i h. no_truth (f i) (λ t. off_on (none i (lt_of_not-le (λ m. off_on (off i m) t))) t))

-- `trailing_zeros` in a word of k bits
under_digit : (b : Bool) (t : ℕ) → cond b 0 (suc t) ≡ under (digit b) t
under_digit true t = refl
under_digit false t = refl

pub first_trailing : (k a : ℕ) → first_below k (on a) ≡ count_trailing_zeros k a
unfolding first_below count_trailing_zeros
first_trailing zero a = refl
first_trailing (suc k) a =
    ap (λ (n : ℕ). cond (on a 0) 0 (suc n)) (first_cong k (λ i l. on_suc a i) ∙ first_trailing k (a / 2))
    ∙ under_digit (on a 0) (count_trailing_zeros k (a / 2))
    ∙ ap (λ (d : ℕ). under d (count_trailing_zeros k (a / 2))) (on_zero a)

-- a word that is not 0 has a lowest bit
pub lowest_within : (k : ℕ) {n : ℕ} → n < 2 ^ k → (n ≡ 0 → ⊥) → count_trailing_zeros k n < k
lowest_within k {n} word some =
    rw (← first_trailing k n)
    (lt_of_not-le (λ far.
    let none = (first_none k (on n)).0 (le_antisymm (first_le k (on n)) far) in
    some (same_bits n 0 (λ i. no_truth (on n i) (λ e. off_on (none i (on_below k word e)) e) ∙ sym (on_none i)))))

-- `n ^ (1 << i)`, where i is the lowest: the next lowest comes later
xor_self : (a b : Bool) → a ≡ b → xor a b ≡ false
unfolding xor
xor_self true b e = rw (← e)
xor_self false b e = rw (← e)

pub lowest_later : (k n : ℕ) → count_trailing_zeros k n < k → count_trailing_zeros k n < count_trailing_zeros k (bit_xor n (1 * 2 ^ count_trailing_zeros k n % 2 ^ k))
lowest_later k n = rw (← first_trailing k n, ← first_trailing k (bit_xor n (1 * 2 ^ first_below k (on n) % 2 ^ k))) later
  where
    low : ℕ
    low = first_below k (on n)

    rest : ℕ
    rest = bit_xor n (1 * 2 ^ low % 2 ^ k)

    alone : low < k → (j : ℕ) → j ≤ low → on n j ≡ eqb j low
    alone there j l =
        same_truth (on n j) (eqb j low)
        (λ e. ⊎_elim (eq-eqb j low) (λ early. absurd (off_on (first_least k (on n) j early) e)) (eq-or-lt_of_le l))
        (λ e. ap (on n) (eqb-true j low e) ∙ first_found k (on n) there)

    off : low < k → (j : ℕ) → j ≤ low → on rest j ≡ false
    off there j l = on_xor n (1 * 2 ^ low % 2 ^ k) j ∙ xor_self (on n j) (on (1 * 2 ^ low % 2 ^ k) j) (alone there j l ∙ sym (on_one_shl low k j there))

    later : low < k → low < first_below k (on rest)
    later there = lt_of_not-le (λ early. off_on (off there (first_below k (on rest)) early) (first_found k (on rest) (lt_of_le_of_lt early there)))

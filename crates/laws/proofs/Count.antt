-- How many of the numbers below k pass a test: the count depends on the answers alone, grows with them, and of a number's bits is what `count_ones` gives.
-- Knows numbers alone.
use mathlib.Core.Path.{◌≡◌, refl, sym, ap, ap₂, ◌∙◌}
use mathlib.Core.Logic.{⊎_elim}
use mathlib.Core.Bool.{Bool, true, false}
use Prim.Native.Nat.{ℕ, zero, suc, ◌+◌, ◌-◌, ◌^◌, ◌≤◌, ◌<◌}
use native.Mathlib.Nat.{eq-or-lt_of_le, le_of_suc-le-suc}
use native.Mathlib.Omega.{arith}
use lib.Arith.{le-zero, lt-one}
use lib.Count.{ones, ones_step}
use Rattle.laws.specs.Bit.{on, count_below}
use Rattle.laws.proofs.On.{digit, digit_le, on_zero, on_suc}

pub count_le : (k : ℕ) (f : ℕ → Bool) → count_below k f ≤ k
unfolding count_below
count_le zero f = omega arith
count_le (suc k) f = omega (arith, count_le k f, digit_le (f k))

-- tests that agree below k have one count
pub count_cong : (k : ℕ) {f g : ℕ → Bool} → ((i : ℕ) → i < k → f i ≡ g i) → count_below k f ≡ count_below k g
unfolding count_below
count_cong zero h = refl
count_cong (suc k) h = ap₂ (λ (n : ℕ) (b : Bool). n + digit b) (count_cong k (λ i l. h i (omega arith))) (h k (omega arith))

-- g passes whatever f passes, below k
abbrev pub Within : ℕ → (ℕ → Bool) → (ℕ → Bool) → Type 0
Within k f g = (i : ℕ) → i < k → f i ≡ true → g i ≡ true

digit_mono : (b c : Bool) → (b ≡ true → c ≡ true) → digit b ≤ digit c
digit_mono true c h = rw (h refl) (omega arith)
digit_mono false c h = omega arith

pub count_mono : (k : ℕ) (f g : ℕ → Bool) → Within k f g → count_below k f ≤ count_below k g
unfolding count_below
count_mono zero f g h = omega arith
count_mono (suc k) f g h = omega (arith, count_mono k f g (λ i l. h i (omega arith)), digit_mono (f k) (g k) (h k (omega arith)))

-- one more passes, and the count is greater
pub count_grows : (k : ℕ) (f g : ℕ → Bool) → Within k f g → (j : ℕ) → j < k → f j ≡ false → g j ≡ true → count_below k f < count_below k g
unfolding count_below
count_grows zero f g h j l p q = absurd (omega arith)
count_grows (suc k) f g h j l p q =
    let below : Within k f g = λ i m. h i (omega arith) in
    let last : digit (f k) ≤ digit (g k) = digit_mono (f k) (g k) (h k (omega arith)) in
    ⊎_elim
    (λ e.
    let off : digit (f k) ≡ 0 = ap digit (ap f (sym e) ∙ p) in
    let add : digit (g k) ≡ 1 = ap digit (ap g (sym e) ∙ q) in
    omega (arith, count_mono k f g below))
    (λ m. omega (arith, count_grows k f g below j m p q))
    (eq-or-lt_of_le (le_of_suc-le-suc l))

-- so that what is left falls: the measure of a loop that takes in more and more
pub count_falls : (k : ℕ) (f g : ℕ → Bool) → Within k f g → (j : ℕ) → j < k → f j ≡ false → g j ≡ true → k - count_below k g < k - count_below k f
count_falls k f g h j l p q = omega (arith, count_grows k f g h j l p q, count_le k g)

-- the lowest number apart
count_step : (k : ℕ) (f : ℕ → Bool) → count_below (suc k) f ≡ digit (f 0) + count_below k (λ i. f (suc i))
unfolding count_below
count_step zero f = omega arith
count_step (suc k) f = omega (arith, count_step k f)

-- `count_ones` of a number of k bits
pub count_ones : (k : ℕ) {a : ℕ} → a < 2 ^ k → count_below k (on a) ≡ ones a
unfolding count_below ones
count_ones zero h = sym (ap ones (lt-one h))
count_ones (suc k) {a} h =
    count_step k (on a)
    ∙ ap₂ (λ (m n : ℕ). m + n) (on_zero a) (count_cong k (λ i l. on_suc a i) ∙ count_ones k (omega arith))
    ∙ sym (ones_step a)

-- a test that fails from k on: what passes below a larger bound is found below k
pub count_cut : (k j : ℕ) (f : ℕ → Bool) → ((i : ℕ) → k ≤ i → f i ≡ false) → k ≤ j → count_below j f ≡ count_below k f
unfolding count_below
count_cut k zero f off l = ap (λ (i : ℕ). count_below i f) (sym (le-zero l))
count_cut k (suc j) f off l =
    ⊎_elim (λ e. ap (λ (i : ℕ). count_below i f) (sym e)) (λ h. last (le_of_suc-le-suc h) (count_cut k j f off (le_of_suc-le-suc h)))
    (eq-or-lt_of_le l)
  where
    last : k ≤ j → count_below j f ≡ count_below k f → count_below (suc j) f ≡ count_below k f
    last h e = rw (off j h) (omega arith)

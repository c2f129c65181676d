-- The number made of a test's answers: which bits are on in it, its bound, and that a number is made of its own bits. Knows numbers alone.
use mathlib.Core.Path.{◌≡◌, refl, sym, ap₂, ◌∙◌}
use mathlib.Core.Bool.{Bool, true, false, cond, ◌&&◌}
use Prim.Native.Nat.{ℕ, zero, suc, ◌+◌, ◌*◌, ◌%◌, ◌^◌, ◌<◌}
use native.Mathlib.Nat.{mod-eq_of_lt, pow-suc}
use native.Mathlib.Omega.{arith}
use lib.Dec.{ltb, leb-zero, leb-suc-zero, leb-suc-suc}
use borrow.Author.Tests.{le-ltb}
use Rattle.laws.specs.Bit.{on, gather}
use Rattle.laws.proofs.On.{digit, on_low, on_rest, on_none, same_bits, low_enough}
use Rattle.laws.proofs.Shift.{on_mod}

twice : (b : Bool) (k : ℕ) → cond b (2 ^ suc k) 0 ≡ cond b (2 ^ k) 0 * 2
twice true k = pow-suc 2 k
twice false k = refl

-- the lowest digit, and the rest
gather_step : (k : ℕ) (f : ℕ → Bool) → gather (suc k) f ≡ gather k (λ i. f (suc i)) * 2 + digit (f 0)
unfolding gather
gather_step zero f = omega arith
gather_step (suc k) f = omega (arith, gather_step k f, twice (f (suc k)) k)

pub on_gather : (k : ℕ) (f : ℕ → Bool) (i : ℕ) → on (gather k f) i ≡ (ltb i k && f i)
unfolding gather
on_gather zero f i = rw (on_none, leb-suc-zero)
on_gather (suc k) f zero = rw (leb-suc-suc, leb-zero) (on_low (gather k (λ i. f (suc i))) (f 0) (gather_step k f))
on_gather (suc k) f (suc i) =
    rw leb-suc-suc (on_rest (gather k (λ j. f (suc j))) (f 0) (gather_step k f) i ∙ on_gather k (λ j. f (suc j)) i)

pub gather_lt : (k : ℕ) (f : ℕ → Bool) → gather k f < 2 ^ k
gather_lt k f = low_enough k (gather k f) (λ i l. rw (on_gather, le-ltb i k l))

-- tests that agree below k make one number
pub gather_cong : (k : ℕ) {f g : ℕ → Bool} → ((i : ℕ) → i < k → f i ≡ g i) → gather k f ≡ gather k g
unfolding gather
gather_cong zero h = refl
gather_cong (suc k) h = ap₂ (λ (n : ℕ) (b : Bool). n + cond b (2 ^ k) 0) (gather_cong k (λ i l. h i (omega arith))) (h k (omega arith))

-- the bits of a number make its low digits, and the number where it is of k bits
pub gather_on : (k a : ℕ) → gather k (on a) ≡ a % 2 ^ k
gather_on k a = same_bits (gather k (on a)) (a % 2 ^ k) (λ i. on_gather k (on a) i ∙ sym (on_mod a k i))

pub gather_bits : (k : ℕ) {a : ℕ} → a < 2 ^ k → gather k (on a) ≡ a
gather_bits k {a} h = gather_on k a ∙ mod-eq_of_lt h

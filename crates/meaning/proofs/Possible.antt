-- Whether an action is possible in a state, as a test that computes: it looks at every fluent that a mask can name. Knows masks and states.
use mathlib.Core.Path.{◌≡◌}
use mathlib.Core.Logic.Iff
use mathlib.Core.Bool.{Bool, true, not, ◌&&◌, ◌||◌}
use Prim.Native.Nat.{ℕ, zero, suc, ◌/◌, ◌^◌, ◌<◌}
use native.Mathlib.Nat.{lt_of_not-le, pow-suc}
use native.Mathlib.Omega.{arith}
use Rattle.laws.specs.Bit.{on, all_below}
use Rattle.laws.proofs.On.{on_high}
use Rattle.laws.proofs.Truth.{off_on}
use Rattle.meaning.specs.Limits.{fluent_limit}
use Rattle.meaning.specs.Theory.{Masks, Possible}
use Rattle.meaning.proofs.Tells.{Tells, and_tells, if_tells, false_told, tells_as, all_tells}

-- how many bits hold a number: its own if it has at most k, and else as many as the number says
unfoldable pub room : ℕ → ℕ → ℕ
room zero n = n
room (suc k) zero = zero
room (suc k) (suc n) = suc (room k (suc n / 2))

small : (n : ℕ) → n < 2 ^ n
small zero = omega arith
small (suc n) = omega (arith, small n)

below_room : (k n : ℕ) → n < 2 ^ room k n
unfolding room
below_room zero n = small n
below_room (suc k) zero = omega arith
below_room (suc k) (suc n) = rw (pow-suc 2 (room k (suc n / 2))) (omega (arith, below_room k (suc n / 2)))

-- a test of every fluent that a mask names
unfoldable pub named : ℕ → (ℕ → Bool) → Bool
unfolding room all_below on
named mask f = all_below (room fluent_limit mask) (λ i. not (on mask i) || f i)

named_tells : (mask : ℕ) (f : ℕ → Bool) {X : ℕ → Type 0} → ((i : ℕ) → Tells (f i) (X i))
    → Tells (named mask f) ((i : ℕ) → on mask i ≡ true → X i)
unfolding named
named_tells mask f each =
    tells_as (all_tells (λ i. if_tells Iff.rfl (each i)) (room fluent_limit mask))
    (λ h i e. h i (lt_of_not-le (λ l. off_on (on_high (room fluent_limit mask) (below_room fluent_limit mask) l) e)) e)
    (λ h i l. h i)

unfoldable pub possible : Masks → ℕ → Bool
unfolding named on
possible m state = named m.need (on state) && named m.ban (λ i. not (on state i))

pub possible_tells : (m : Masks) (state : ℕ) → Tells (possible m state) (Possible m state)
unfolding possible
possible_tells m state =
    tells_as
    (and_tells (named_tells m.need (on state) (λ i. Iff.rfl))
    (named_tells m.ban (λ i. not (on state i)) (λ i. false_told (on state i))))
    (λ h. record { needed = h.0; banned = h.1 })
    (λ h. (h.needed, h.banned))

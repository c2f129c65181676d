-- What an action does to one fluent: a clause's test says what its sentence says, the bits of the state after a step, and that one unconditional clause with an empty
-- one does what four masks do in document 01, over any log.
use mathlib.Core.Path.{◌≡◌, refl, ap, ◌∙◌}
use mathlib.Core.Logic.Iff
use mathlib.Core.Bool.{true, not, ◌&&◌, ◌||◌, and-true, or-false}
use mathlib.Core.List.{List, [], ◌∷◌}
use Prim.Native.Nat.{ℕ, ◌<◌}
use borrow.Author.Tests.{lt-ltb}
use Rattle.laws.specs.Bit.{on}
use Rattle.laws.proofs.On.{on_none}
use Rattle.laws.proofs.Gather.{on_gather, gather_cong}
use Rattle.laws.proofs.Truth.{off_on}
use Rattle.meaning.specs.Limits.{fluent_limit}
use Rattle.meaning.specs.Theory.{Clause, Masks, clause_of, Acts, acts, puts, drops, after, run}
use Rattle.meaning.specs.Four.{plain_masks, after_plain, run_plain}
use Rattle.meaning.proofs.Tells.{Tells, and_tells, if_tells, false_told, tells_as, all_tells}

-- "its when bits are on and its unless bits off"
pub acts_tells : (c : Clause) (state : ℕ) → Tells (acts c state) (Acts c state)
unfolding acts
acts_tells c state =
    tells_as (all_tells (λ i. and_tells (if_tells Iff.rfl Iff.rfl) (if_tells Iff.rfl (false_told (on state i)))) fluent_limit)
    (λ h. record { met = λ i l. (h i l).0; clear = λ i l. (h i l).1 })
    (λ h i l. (h.met i l, h.clear i l))

-- "A fluent is then on if .."
pub after_bit : (m : Masks) (state i : ℕ) → i < fluent_limit → on (after m state) i ≡ (puts m state i || (on state i && not (drops m state i)))
unfolding after
after_bit m state i h = rw (on_gather fluent_limit (λ j. puts m state j || (on state j && not (drops m state j))) i, lt-ltb i fluent_limit h)

-- a clause with no when and no unless always acts
pub always_acts : (put drop state : ℕ) → acts (clause_of 0 0 put drop) state ≡ true
always_acts put drop state =
    (acts_tells (clause_of 0 0 put drop) state).1
    (record { met = λ i l e. absurd (off_on (on_none i) e); clear = λ i l e. absurd (off_on (on_none i) e) })

-- "on when put names it, or it was on and drop does not name it"
plain_effect : (need ban put drop state i : ℕ)
    → (puts (plain_masks need ban put drop) state i || (on state i && not (drops (plain_masks need ban put drop) state i))) ≡ (on put i || (on state i && not (on drop i)))
plain_effect need ban put drop state i = simp (always_acts, on_none, and-true, or-false)

pub plain_bit : (need ban put drop state i : ℕ) → i < fluent_limit
    → on (after (plain_masks need ban put drop) state) i ≡ (on put i || (on state i && not (on drop i)))
plain_bit need ban put drop state i h = after_bit (plain_masks need ban put drop) state i h ∙ plain_effect need ban put drop state i

-- "Older sheets read as one unconditional clause and an empty one, same states": after one step, and after any
pub plain_after : (need ban put drop state : ℕ) → after (plain_masks need ban put drop) state ≡ after_plain put drop state
unfolding after after_plain
plain_after need ban put drop state = gather_cong fluent_limit (λ i l. plain_effect need ban put drop state i)

pub plain_run : (masks : ℕ → Masks) (need ban put drop : ℕ → ℕ) → ((a : ℕ) → masks a ≡ plain_masks (need a) (ban a) (put a) (drop a)) → (state : ℕ) (steps : List ℕ)
    → run masks state steps ≡ run_plain put drop state steps
unfolding run run_plain
plain_run masks need ban put drop plain state [] = refl
plain_run masks need ban put drop plain state (a ∷ steps) =
    ap (λ s. run masks s steps) (ap (λ m. after m state) (plain a) ∙ plain_after (need a) (ban a) (put a) (drop a) state)
    ∙ plain_run masks need ban put drop plain (after_plain (put a) (drop a) state) steps

-- Laws of position sets for whoever uses them: where positions lie, when two sets are one, a set's count and earliest position, and what falls in a loop that
-- makes a set larger. None of them shows the word.
use mathlib.Core.Path.{◌≡◌, sym, ap, ◌∙◌}
use mathlib.Core.Logic.{◌↔◌, inl, inr}
use mathlib.Core.Bool.{Bool, true, false, not, ◌&&◌, ◌||◌, and-false}
use Prim.Native.Nat.{ℕ, ◌-◌, ◌≤◌, ◌<◌}
use native.Mathlib.Omega.{arith}
use lib.Dec.{ltb}
use borrow.Author.Tests.{ltb-true, not-true}
use Rattle.laws.specs.Bit.{on}
use Rattle.laws.proofs.Truth.{no_truth, off_on, and_iff, or_iff, implies_iff}
use Rattle.laws.proofs.On.{on_none, same_bits}
use Rattle.laws.proofs.Count.{count_le, count_grows}
use Rattle.laws.proofs.First.{first_le, first_found, first_none, first_some}
use Rattle.meaning.specs.Limits.{places}
use Rattle.meaning.specs.Reach.{count_of, earliest_of}
use Rattle.positions.specs.declared.PositionSet.{PositionSet}
use Rattle.positions.specs.Positions.{holds, nothing, Empty, Inside, Proper}
use Rattle.positions.proofs.Word.{of_number, held_bit}

-- a position that is held is one of the places
pub held_place : (s : PositionSet) {q : ℕ} → holds s q ≡ true → q < places
unfolding holds
held_place s {q} e = ltb-true q places ((and_iff (ltb q places) (on s.word q)).0 e).0

pub nothing_held : Empty nothing
unfolding holds
nothing_held q = rw on_none (and-false (ltb q places))

-- two sets with the same positions are equal. Every value of a program is proper: `record { fits = omega arith }` proves it of a parameter or a result.
pub same_set : (s t : PositionSet) → Proper s → Proper t → ((q : ℕ) → holds s q ≡ holds t q) → s ≡ t
same_set s t ps pt h = ap of_number (same_bits s.word t.word (λ q. sym (held_bit s ps q) ∙ h q ∙ held_bit t pt q))

-- the count, and the earliest position
pub count_most : (s : PositionSet) → count_of (holds s) ≤ places
count_most s = count_le places (holds s)

pub earliest_most : (s : PositionSet) → earliest_of (holds s) ≤ places
earliest_most s = first_le places (holds s)

pub earliest_found : (s : PositionSet) → earliest_of (holds s) < places → holds s (earliest_of (holds s)) ≡ true
earliest_found s h = first_found places (holds s) h

pub earliest_none : (s : PositionSet) → (earliest_of (holds s) ≡ places) ↔ Empty s
earliest_none s = (
  λ e q. no_truth (holds s q) (λ t. off_on ((first_none places (holds s)).0 e q (held_place s t)) t),
  λ none. (first_none places (holds s)).1 (λ q l. none q),
)

-- a set that is not empty holds a position, and one that is not inside another holds a position that the other does not
pub some_held : (s : PositionSet) → (Empty s → ⊥) → (q : ℕ) × (holds s q ≡ true)
some_held s h =
    let found = first_some places (holds s) (λ none. h (λ q. no_truth (holds s q) (λ t. off_on (none q (held_place s t)) t))) in
    (found.0, found.2)

pub outside : (s t : PositionSet) → (Inside s t → ⊥) → (q : ℕ) × (holds s q ≡ true) × (holds t q ≡ false)
outside s t h =
    let apart : ℕ → Bool = λ q. holds s q && not (holds t q) in
    let found = first_some places apart (λ none. h (λ q e. (implies_iff (holds s q) (holds t q)).0 (none q (held_place s e)) e)) in
    let both = (and_iff (holds s found.0) (not (holds t found.0))).0 found.2 in
    (found.0, both.0, not-true (holds t found.0) both.1)

-- what is left of s without t is empty exactly where s is inside t
pub inside_empty : (s t rest : PositionSet) → ((q : ℕ) → holds rest q ≡ (holds s q && not (holds t q))) → Empty rest ↔ Inside s t
inside_empty s t rest h = (
  λ none q. (implies_iff (holds s q) (holds t q)).0 (sym (h q) ∙ none q),
  λ inside q. h q ∙ (implies_iff (holds s q) (holds t q)).1 (inside q),
)

-- a set that takes in a further position counts more, and leaves fewer places: the measure of a loop that closes a set
pub grows : (s t : PositionSet) → Inside s t → (Inside t s → ⊥) → count_of (holds s) < count_of (holds t)
grows s t h k =
    let new = outside t s k in
    count_grows places (holds s) (holds t) (λ q l e. h q e) new.0 (held_place t new.1) new.2 new.1

pub falls : (s t : PositionSet) → Inside s t → (Inside t s → ⊥) → places - count_of (holds t) < places - count_of (holds s)
falls s t h k = omega (arith, grows s t h k, count_most t)

-- such a loop joins what is not yet inside
pub join_falls : (s more t : PositionSet) → ((q : ℕ) → holds t q ≡ (holds s q || holds more q)) → (Inside more s → ⊥) →
    places - count_of (holds t) < places - count_of (holds s)
join_falls s more t h k =
    falls s t (λ q e. h q ∙ (or_iff (holds s q) (holds more q)).1 (inl e)) (λ back. k (λ q e. back q (h q ∙ (or_iff (holds s q) (holds more q)).1 (inr e))))

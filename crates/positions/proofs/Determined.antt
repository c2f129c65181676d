-- Each method's contract leaves one outcome: any two values of the result's type that it allows are equal.
use mathlib.Core.Path.{◌≡◌, sym, ◌∙◌}
use mathlib.Core.Logic.{◌↔◌}
use mathlib.Core.Bool.{Bool, true}
use Prim.Native.Nat.{ℕ}
use Rattle.laws.specs.Bit.{on}
use Rattle.laws.proofs.Truth.{same_truth}
use Rattle.meaning.specs.Reach.{SetWord}
use Rattle.meaning.proofs.Reach.{word_unique}
use Rattle.positions.specs.declared.PositionSet.{PositionSet}
use Rattle.positions.specs.Positions.{holds, Proper}
use Rattle.positions.proofs.Held.{same_set}

-- at, up_to, join, meet, without, up, down: the contract says of each q whether it is held
pub one_set : (f : ℕ → Bool) (r s : PositionSet) → Proper r → Proper s → ((q : ℕ) → holds r q ≡ f q) → ((q : ℕ) → holds s q ≡ f q) → r ≡ s
one_set f r s pr ps h k = same_set r s pr ps (λ q. h q ∙ sym (k q))

-- of_word: the contract says that the word is the set's; word: and that a set has one (`word_unique` of the meaning)
pub one_set_of : (word : ℕ) (r s : PositionSet) → Proper r → Proper s → SetWord (holds r) word → SetWord (holds s) word → r ≡ s
one_set_of word r s pr ps h k = one_set (on word) r s pr ps (λ q. sym (h.bits q)) (λ q. sym (k.bits q))

pub one_word : (s : PositionSet) (a b : ℕ) → SetWord (holds s) a → SetWord (holds s) b → a ≡ b
one_word s a b h k = word_unique h k

-- is_empty, within: the contract says exactly when the answer is true
pub one_answer : (fact : Type 0) (r s : Bool) → (r ≡ true) ↔ fact → (s ≡ true) ↔ fact → r ≡ s
one_answer fact r s h k = same_truth r s (λ e. k.1 (h.0 e)) (λ e. h.1 (k.0 e))

-- has, count, earliest: the contract is an equation
pub one_value : {A : Type 0} {x r s : A} → r ≡ x → s ≡ x → r ≡ s
one_value h k = h ∙ sym k

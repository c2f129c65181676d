-- Any two outcomes that a contract allows are equal: the answers of the two calls, what a check finds, and the union of masks.
use mathlib.Core.Path.{◌≡◌, refl, sym, ap, ◌∙◌}
use mathlib.Core.Option.{some-injective}
use mathlib.Core.Bool.{Bool}
use mathlib.Core.List.{List, []}
use Prim.Native.Nat.{ℕ}
use Rattle.std.specs.Prelude.{Result}
use Rattle.std.specs.Prelude.{Ok, Err}
use Rattle.laws.specs.Bit.{on}
use Rattle.laws.proofs.On.{same_bits}
use Rattle.laws.proofs.Truth.{same_truth}
use Rattle.refusal.specs.declared.Refusal.{Refusal}
use Rattle.refusal.specs.Given.{number_given, value_given}
use Rattle.refusal.proofs.Numbers.{one_number, some_number}
use Rattle.refusal.proofs.Given.{same_given}
use Rattle.meaning.specs.Refusal.{Row, falls, no_state}
use Rattle.meaning.proofs.Refusal.{refused_unique, refused_not_accepted, answered_determined, one_verdict}
use Rattle.theory.specs.Subject.{Subject}
use Rattle.theory.specs.Rows.{state_rows}
use Rattle.theory.specs.Answer.{StateAnswered}
use Rattle.theory.specs.Possible.{verdict_given, possible_rows, PossibleAnswered}
use Rattle.theory.specs.Check.{Settled}
use Rattle.theory.specs.Union.{Union}

pub state_determined :
    (s : Subject) (position : ℕ) (a b : Result ℕ Refusal)
    → StateAnswered s position (number_given a) (value_given no_state a)
    → StateAnswered s position (number_given b) (value_given no_state b)
    → a ≡ b
state_determined s position a b x y =
    answered_determined x y (λ n r q. same_given no_state a b n (r ∙ sym q)) (λ n r q. same_given no_state a b n (r ∙ sym q))

-- its numbers rise
pub state_rises : (s : Subject) (position : ℕ) → falls (state_rows s position) ≡ []
state_rises s position = refl

-- whether an action is possible: an answer is its number and its verdict
pub same_verdict : (a b : Result Bool Refusal) → number_given a ≡ number_given b → verdict_given a ≡ verdict_given b → a ≡ b
same_verdict (Err r) (Err q) n v = ap Err (one_number r q n)
same_verdict (Err r) (Ok c) n v = absurd (some_number r n)
same_verdict (Ok b) (Err q) n v = absurd (some_number q (sym n))
same_verdict (Ok b) (Ok c) n v = ap Ok (some-injective _ _ v)

pub possible_determined :
    (s : Subject) (action position : ℕ) (a b : Result Bool Refusal)
    → PossibleAnswered s action position (number_given a) (verdict_given a)
    → PossibleAnswered s action position (number_given b) (verdict_given b)
    → a ≡ b
possible_determined s action position a b x y =
    answered_determined x y (λ n r q. same_verdict a b n (r ∙ sym q)) (λ n r q. same_verdict a b n (one_verdict r q))

pub possible_rises : (s : Subject) (action position : ℕ) → falls (possible_rows s action position) ≡ []
possible_rises s action position = refl

-- what a check finds
pub check_determined : (rows : List {1} Row) (a b : Result Unit Refusal) → Settled rows a → Settled rows b → a ≡ b
check_determined rows (Ok u) (Ok v) x y = refl
check_determined rows (Ok u) (Err r) x y = absurd (refused_not_accepted y x)
check_determined rows (Err r) (Ok u) x y = absurd (refused_not_accepted x y)
check_determined rows (Err r) (Err q) x y = ap Err (one_number r q (refused_unique x y))

-- the union of masks
pub union_determined : (masks : List ℕ) (n a b : ℕ) → Union masks n a → Union masks n b → a ≡ b
union_determined masks n a b u v =
    same_bits a b (λ i. same_truth (on a i) (on b i) (λ h. v.all i (u.only i h)) (λ h. u.all i (v.only i h)))

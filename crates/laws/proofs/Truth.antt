-- Answers of tests as facts: from `b ≡ true` of a joined answer to its parts and back, and when two answers are one. Knows nothing of what is tested.
use mathlib.Core.Path.{◌≡◌, refl, sym, ◌∙◌}
use mathlib.Core.Logic.{◌⊎◌, inl, inr, ⊎_elim, ◌↔◌}
use mathlib.Core.Bool.{Bool, true, false, not, ◌&&◌, ◌||◌, false≢true}
use borrow.Author.Tests.{not-false}

-- two answers that are true together are one
pub same_truth : (a b : Bool) → (a ≡ true → b ≡ true) → (b ≡ true → a ≡ true) → a ≡ b
same_truth true b f g = sym (f refl)
same_truth false true f g = g refl
same_truth false false f g = refl

-- an answer that cannot be true is false, and one that is false is not true
pub no_truth : (a : Bool) → (a ≡ true → ⊥) → a ≡ false
no_truth true f = absurd (f refl)
no_truth false f = refl

pub off_on : {a : Bool} → a ≡ false → a ≡ true → ⊥
off_on p q = false≢true (sym p ∙ q)

pub true_or_false : (a : Bool) → (a ≡ true) ⊎ (a ≡ false)
true_or_false true = inl refl
true_or_false false = inr refl

-- `&&` and `||`
pub and_iff : (a b : Bool) → ((a && b) ≡ true) ↔ ((a ≡ true) × (b ≡ true))
and_iff true b = (λ e. (refl, e), λ e. e.1)
and_iff false b = (λ e. absurd (false≢true e), λ e. e.0)

pub or_iff : (a b : Bool) → ((a || b) ≡ true) ↔ ((a ≡ true) ⊎ (b ≡ true))
or_iff true b = (λ e. inl refl, λ e. refl)
or_iff false b = (inr, ⊎_elim (λ e. absurd (false≢true e)) (λ e. e))

pub neither : (a b : Bool) → (a || b) ≡ false → (a ≡ false) × (b ≡ false)
neither true b e = absurd (off_on e refl)
neither false b e = (refl, e)

-- a guard that holds wherever the answer is true
pub and_idle : (a b : Bool) → (b ≡ true → a ≡ true) → (a && b) ≡ b
and_idle true b f = refl
and_idle false true f = f refl
and_idle false false f = refl

-- nothing is left of a without b exactly where a leads to b
pub implies_iff : (a b : Bool) → ((a && not b) ≡ false) ↔ (a ≡ true → b ≡ true)
implies_iff true b = (λ e f. not-false b e, λ f. rw (f refl))
implies_iff false b = (λ e f. absurd (false≢true f), λ f. refl)

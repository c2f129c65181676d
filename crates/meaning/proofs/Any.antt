-- The paper's *any* in its own words: `n` is the choice of all `aNN`, and `u` the choice of all `rNN`, where every step of the log is one of those actions.
-- Knows the table of walks.
use mathlib.Core.Path.{◌≡◌, subst}
use mathlib.Core.Logic.{◌↔◌, inl, inr}
use mathlib.Core.Option.{some}
use Prim.Native.Nat.{ℕ, zero, suc, ◌≤◌}
use native.Mathlib.Decide.{dec_le}
use native.Mathlib.Omega.{arith}
use Rattle.meaning.specs.Theory.{World, step_at}
use Rattle.meaning.specs.Rule.{Walk, plain, act, undo, next, prev}
use Rattle.meaning.specs.Written.{choice_to}
use Rattle.meaning.specs.Leads.{Leads}

-- the signs `aNN` and `rNN`
abbrev pub acts : ℕ → Walk
acts a = act (plain a)

abbrev pub undoes : ℕ → Walk
undoes a = undo (plain a)

-- a choice leads where one of its walks does
pub choice_leads : (w : World) (sign : ℕ → Walk) (k p q n : ℕ) → Leads w (choice_to sign k) p q n ↔ ((a : ℕ) × (a ≤ k) × Leads w (sign a) p q n)
unfolding Leads
choice_leads w sign k p q n = (onward k, back k)
  where
    onward : (k : ℕ) → Leads w (choice_to sign k) p q n → (a : ℕ) × (a ≤ k) × Leads w (sign a) p q n
    onward zero h = (0, omega arith, h)
    onward (suc k) (inl h) = let (a, low, step) = onward k h in (a, omega arith, step)
    onward (suc k) (inr h) = (suc k, omega arith, h)

    back : (k : ℕ) → ((a : ℕ) × (a ≤ k) × Leads w (sign a) p q n) → Leads w (choice_to sign k) p q n
    back zero h = let none : h.0 ≡ 0 = omega (arith, h.1) in subst (λ (a : ℕ). Leads w (sign a) p q n) none h.2
    back (suc k) h = elim (dec_le h.0 k) [
      | yes low ↦ inl (back k (h.0, low, h.2))
      | no high ↦ let last : h.0 ≡ suc k = omega (arith, h.1) in inr (subst (λ (a : ℕ). Leads w (sign a) p q n) last h.2)
    ]

-- where every step of the log is an action up to k
module _ (w : World) (k : ℕ) (known : (p a : ℕ) → step_at w p ≡ some a → a ≤ k) (p q n : ℕ) where
  pub any_is_choice : Leads w next p q n ↔ Leads w (choice_to acts k) p q n
  unfolding Leads
  any_is_choice = (
    λ h. (choice_leads w acts k p q n).1 (h.0, known p h.0 h.1.logged, h.1),
    λ h. let (a, low, step) = (choice_leads w acts k p q n).0 h in (a, step),
  )

  pub any_back_is_choice : Leads w prev p q n ↔ Leads w (choice_to undoes k) p q n
  unfolding Leads
  any_back_is_choice = (
    λ h. (choice_leads w undoes k p q n).1 (h.0, known q h.0 h.1.logged, h.1),
    λ h. let (a, low, step) = (choice_leads w undoes k p q n).0 h in (a, step),
  )

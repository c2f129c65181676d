-- The word of the actions that are possible, built from action 0 up. Knows numbers and masks; no job.
use mathlib.Core.Path.{◌≡◌, sym, subst, ◌∙◌}
use mathlib.Core.Logic.{◌⊎◌, inl, inr}
use mathlib.Core.Bool.{true, ◌||◌}
use mathlib.Core.List.{List}
use Prim.Native.Nat.{ℕ, ◌+◌, ◌*◌, ◌%◌, ◌^◌, ◌<◌}
use native.Mathlib.Decide.{ℕ_discrete}
use native.Mathlib.Omega.{arith}
use lib.Bits.{bit_or}
use lib.Dec.{eqb}
use borrow.Author.Tests.{eqb-true, eq-eqb}
use Rattle.laws.specs.Bit.{on}
use Rattle.laws.proofs.Truth.{off_on, or_iff}
use Rattle.laws.proofs.On.{on_none}
use Rattle.laws.proofs.Bitwise.{on_or}
use Rattle.laws.proofs.Shift.{on_one_shl}
use Rattle.meaning.specs.Limits.{action_limit}
use Rattle.meaning.specs.Theory.{Possible}
use Rattle.theory.specs.Subject.{table_masks}
use Rattle.finish.specs.Found.{Doable}

module _ (masks : List ℕ) (state : ℕ) where
  pub doable_none : Doable 0 masks state 0
  doable_none = record { each = λ b. (λ h. absurd (off_on (on_none b) h), λ h. absurd (omega (arith, h.0))) }

  -- action a is left out
  pub doable_left : (a asked : ℕ) → (Possible (table_masks masks a) state → ⊥) → Doable a masks state asked → Doable (a + 1) masks state asked
  doable_left a asked bar d = record {
    each = λ b. (
      λ h. let u = (d.each b).0 h in (omega (arith, u.0), u.1),
      λ h. (d.each b).1 (elim (ℕ_discrete b a) [
        | yes e ↦ absurd (bar (subst (λ (i : ℕ). Possible (table_masks masks i) state) e h.1))
        | no e ↦ (omega (arith, h.0), h.1)
      ]),
    );
  }

  -- action a is taken in
  pub doable_taken : (a asked : ℕ) → a < action_limit → Possible (table_masks masks a) state → Doable a masks state asked
      → Doable (a + 1) masks state (bit_or asked (1 * 2 ^ a % 2 ^ action_limit))
  doable_taken a asked few able d = record {
    each = λ b. (
      λ h. out b ((or_iff (on asked b) (eqb b a)).0 (sym (bit b) ∙ h)),
      λ h. bit b ∙ (or_iff (on asked b) (eqb b a)).1 (into b h),
    );
  }
    where
      bit : (b : ℕ) → on (bit_or asked (1 * 2 ^ a % 2 ^ action_limit)) b ≡ (on asked b || eqb b a)
      bit b = rw (on_or, on_one_shl a action_limit b few)

      out : (b : ℕ) → (on asked b ≡ true) ⊎ (eqb b a ≡ true) → (b < a + 1) × Possible (table_masks masks b) state
      out b (inl h) = let u = (d.each b).0 h in (omega (arith, u.0), u.1)
      out b (inr h) = let e : b ≡ a = eqb-true b a h in (omega arith, subst (λ (i : ℕ). Possible (table_masks masks i) state) (sym e) able)

      into : (b : ℕ) → (b < a + 1) × Possible (table_masks masks b) state → (on asked b ≡ true) ⊎ (eqb b a ≡ true)
      into b h = elim (ℕ_discrete b a) [ yes e ↦ inr (eq-eqb b a e) | no e ↦ inl ((d.each b).1 (omega (arith, h.0), h.1)) ]

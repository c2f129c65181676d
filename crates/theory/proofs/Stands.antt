-- Document 02, Q-13, for the call `state`: of two logs that are the same up to now, both of them accepted, it answers the same at every position up to now, refusals too. Knows
-- the call's statement.
use mathlib.Core.Path.{refl, ◌∙◌}
use mathlib.Core.Logic.Iff
use mathlib.Core.List.{List}
use Prim.Native.Nat.{ℕ, ◌≤◌}
use native.Mathlib.Omega.{arith}
use lib.ListN.{length}
use Rattle.meaning.specs.Limits.{log_limit}
use Rattle.meaning.specs.Refusal.{BadLog}
use Rattle.meaning.specs.Stands.{Agree}
use Rattle.meaning.proofs.Refusal.{answered_as}
use Rattle.meaning.proofs.Cut.{same_state}
use Rattle.theory.specs.Subject.{subject_of, world_of}
use Rattle.theory.specs.Rows.{state_rows}
use Rattle.theory.specs.Answer.{StateAnswered}
use Rattle.theory.specs.declared.Setting.{Setting}

-- a log that has no fault of its own and reaches now
pub record Reaches (s : Setting) (log : List ℕ) (now : ℕ) : Type 0 where
  pub sound : BadLog log_limit s.counts.actions log → ⊥
  pub long : now ≤ length log

pub state_stands : (s : Setting) (masks l l' : List ℕ) (now position : ℕ) → Agree l l' now → Reaches s l now → Reaches s l' now → position ≤ now → {number state : ℕ}
    → StateAnswered (subject_of s masks l) position number state → StateAnswered (subject_of s masks l') position number state
state_stands s masks l l' now position same one other low =
    answered_as (state_rows (subject_of s masks l) position) (state_rows (subject_of s masks l') position) (
      refl,
      Iff.rfl,
      (
        refl,
        Iff.rfl,
        (
          refl,
          (λ h. absurd (one.sound h), λ h. absurd (other.sound h)),
          (refl, (λ h. absurd (omega (arith, one.long)), λ h. absurd (omega (arith, other.long))), tt),
        ),
      ),
    )
    (λ a e. e ∙ same_state (world_of (subject_of s masks l)) l l' position now same low)

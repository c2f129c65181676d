-- What the acceptance of a theory's rows tells: its counts and its table are as they should be. Knows refusals 3 and 4.
use mathlib.Core.Path.{◌≡◌}
use mathlib.Core.Logic.{◌⊎◌, inl, inr}
use mathlib.Core.List.{List}
use Prim.Native.Nat.{ℕ, ◌*◌, ◌≤◌, ◌<◌}
use native.Mathlib.Decide.{ℕ_discrete}
use native.Mathlib.Omega.{arith}
use lib.ListN.{length}
use Rattle.meaning.specs.Limits.{action_limit}
use Rattle.meaning.specs.Theory.{stride}
use Rattle.meaning.specs.Refusal.{Accepted, BadTable}
use Rattle.meaning.proofs.Refusal.{not_first}
use Rattle.theory.specs.Rows.{SettingOut, theory_rows}
use Rattle.theory.specs.declared.Setting.{Setting}

pub record Sound (s : Setting) (masks : List ℕ) : Type 0 where
  pub few_actions : s.counts.actions ≤ action_limit
  pub table : length masks ≡ stride * s.counts.actions

pub sound : (s : Setting) (masks : List ℕ) → Accepted (theory_rows s masks) → Sound s masks
sound s masks a =
    let actions : ℕ = s.counts.actions in
    let counted : SettingOut s ⊎ BadTable actions masks → ⊥ = not_first a in
    let fits : ¬ (action_limit < actions) = λ h. counted (inl (inl (inl (inr (inr h))))) in
    record {
      few_actions = omega arith;
      table = elim (ℕ_discrete (length masks) (stride * actions)) [ yes e ↦ e | no ne ↦ absurd (counted (inr ne)) ];
    }

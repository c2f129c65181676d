-- What the acceptance of a world's rows tells: counts, reading, table and log are as they should be, and the log can be gone through. Knows refusals 3 and 5.
use mathlib.Core.Path.{◌≡◌}
use mathlib.Core.Logic.{◌⊎◌, inl, inr}
use Prim.Native.Nat.{ℕ, ◌*◌, ◌≤◌, ◌<◌}
use native.Mathlib.Decide.{ℕ_discrete}
use native.Mathlib.Omega.{arith}
use lib.ListN.{length, get_or}
use Rattle.meaning.specs.Limits.{fluent_limit, action_limit, domain_limit, reading_limit, log_limit}
use Rattle.meaning.specs.Refusal.{Accepted, BadTable, BadMasks, BadLog}
use Rattle.meaning.proofs.Refusal.{not_first, not_rest}
use Rattle.meaning.specs.Theory.{stride}
use Rattle.theory.specs.Subject.{Subject, counts_of, Readable}
use Rattle.theory.specs.Rows.{SettingOut, world_rows}

-- a subject that no row refuses
pub record Checked (s : Subject) : Type 0 where
  pub few_fluents : (counts_of s).fluents ≤ fluent_limit
  pub some_actions : 1 ≤ (counts_of s).actions
  pub few_actions : (counts_of s).actions ≤ action_limit
  pub few_values : (counts_of s).domain ≤ domain_limit
  pub read : s.setting.reading ≤ reading_limit
  pub table : length s.masks ≡ stride * (counts_of s).actions
  pub named : BadMasks (counts_of s).fluents s.setting.start s.masks → ⊥
  pub short : length s.log ≤ log_limit
  pub known : (k : ℕ) → k < length s.log → get_or s.log k 0 < (counts_of s).actions

pub checked : (s : Subject) → Accepted (world_rows s) → Checked s
checked s a =
    let fluents : ℕ = (counts_of s).fluents in
    let actions : ℕ = (counts_of s).actions in
    let counted : SettingOut s.setting ⊎ BadTable actions s.masks → ⊥ = not_first a in
    let logged : BadLog log_limit actions s.log → ⊥ = not_first (not_rest (not_rest a)) in
    let few : ¬ (fluent_limit < fluents) = λ h. counted (inl (inl (inl (inl h)))) in
    let some : ¬ (actions < 1) = λ h. counted (inl (inl (inl (inr (inl h))))) in
    let fits : ¬ (action_limit < actions) = λ h. counted (inl (inl (inl (inr (inr h))))) in
    let valued : ¬ (domain_limit < (counts_of s).domain) = λ h. counted (inl (inl (inr h))) in
    let read : ¬ (reading_limit < s.setting.reading) = λ h. counted (inl (inr h)) in
    let long : ¬ (log_limit < length s.log) = λ h. logged (inl h) in
    let strange : (k : ℕ) → k < length s.log → ¬ (actions ≤ get_or s.log k 0) =
    λ k h l. logged (inr (record { place = k; there = h; lacking = l })) in
    record {
      few_fluents = omega arith;
      some_actions = omega arith;
      few_actions = omega arith;
      few_values = omega arith;
      read = omega arith;
      table = elim (ℕ_discrete (length s.masks) (stride * actions)) [ yes e ↦ e | no ne ↦ absurd (counted (inr ne)) ];
      named = not_first (not_rest a);
      short = omega arith;
      known = λ k h. omega (arith, strange k h);
    }

-- its log can be gone through
pub readable : {s : Subject} → Checked s → Readable s.masks s.log
readable {s} c =
    let few = c.few_actions in
    let table = c.table in
    record {
      short = c.short;
      known = λ k h. omega (arith, c.known k h);
      covered = λ k h. omega (arith, c.known k h);
    }

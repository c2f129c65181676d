-- "The choice over all actions": where the theory and its log are accepted, `n` leads where the choice of all its `aNN` leads, and `u` where the choice of all
-- its `rNN` does.
use mathlib.Core.Path.{◌≡◌}
use mathlib.Core.Logic.{◌↔◌}
use mathlib.Core.Option.{some}
use Prim.Native.Nat.{ℕ, ◌-◌, ◌≤◌}
use native.Mathlib.Omega.{arith}
use lib.ListN.{get_or}
use Rattle.meaning.specs.Theory.{step_at}
use Rattle.meaning.specs.Rule.{next, prev}
use Rattle.meaning.specs.Leads.{Leads}
use Rattle.meaning.specs.Refusal.{Accepted}
use Rattle.meaning.proofs.Theory.{get_elem_get_d, get_elem_within}
use Rattle.meaning.specs.Written.{choice_to}
use Rattle.meaning.proofs.Any.{acts, undoes, any_is_choice, any_back_is_choice}
use Rattle.theory.specs.Subject.{Subject, counts_of, world_of}
use Rattle.theory.specs.Rows.{world_rows}
use Rattle.theory.proofs.Reading.{checked}

module _ (s : Subject) (accepted : Accepted (world_rows s)) where
  -- the theory's last action
  abbrev pub last : ℕ
  last = (counts_of s).actions - 1

  known : (p a : ℕ) → step_at (world_of s) p ≡ some a → a ≤ last
  known p a e =
      let within = get_elem_within s.log p a e in
      let same : some (get_or s.log p 0) ≡ some a = cc (get_elem_get_d s.log p within) in
      let number : get_or s.log p 0 ≡ a = cc in
      omega (arith, (checked s accepted).known p within)

  pub any_of_the_theory : (p q n : ℕ) → Leads (world_of s) next p q n ↔ Leads (world_of s) (choice_to acts last) p q n
  any_of_the_theory = any_is_choice (world_of s) last known

  pub any_back_of_the_theory : (p q n : ℕ) → Leads (world_of s) prev p q n ↔ Leads (world_of s) (choice_to undoes last) p q n
  any_back_of_the_theory = any_back_is_choice (world_of s) last known

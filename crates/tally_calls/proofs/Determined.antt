-- Any two outcomes that the contract of an exported function allows are equal: its result and every lent slot.
use mathlib.Core.Path.{◌≡◌, sym, ◌∙◌}
use mathlib.Core.List.{List}
use Prim.Native.Nat.{ℕ}
use Rattle.meaning.proofs.Refusal.{answered_determined, one_verdict}
use Rattle.theory.specs.Subject.{Subject}
use Rattle.theory.specs.declared.Setting.{Setting}
use Rattle.tally.specs.Calls.{Remade, Appended, HappenedAnswered}
use Rattle.tally.specs.declared.Tally.{Tally}
use Rattle.tally.proofs.Determined.{remade_determined, append_determined}
use Rattle.exported.specs.Exported.{InSlot}
use Rattle.exported.proofs.Slots.{one_slot}

module _ (s : Subject) where
  pub wyh_tally_determined : (before : Tally) {number number' : ℕ} {t u : Tally}
      → Remade s before number t → Remade s before number' u → (number ≡ number') × (t ≡ u)
  wyh_tally_determined before = remade_determined s before

pub wyh_append_determined : (s : Setting) (masks : List ℕ) (before : Tally) (action : ℕ) {number number' : ℕ} {t u : Tally}
    → Appended s masks before action number t → Appended s masks before action number' u → (number ≡ number') × (t ≡ u)
wyh_append_determined = append_determined

pub wyh_happened_determined : (actions : ℕ) (last : List ℕ) (impossible action : ℕ) {number number' yes yes' : ℕ}
    → InSlot (HappenedAnswered actions last impossible action number) yes → InSlot (HappenedAnswered actions last impossible action number') yes'
    → (number ≡ number') × (yes ≡ yes')
wyh_happened_determined actions last impossible action x y =
    one_slot x y (λ a b. answered_determined a b (λ n p q. (n, p ∙ sym q)) (λ n p q. (n, one_verdict p q)))

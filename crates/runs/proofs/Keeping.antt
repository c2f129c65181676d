-- The table that a run keeps: what one store changes and what stays. Knows lists and sets; no rule and no code.
use mathlib.Core.Path.{◌≡◌, refl, ap, ◌∙◌}
use mathlib.Core.Logic.{inl, inr, ⊎_elim}
use mathlib.Core.Bool.{false}
use mathlib.Core.List.{List}
use Prim.Native.Nat.{ℕ, zero, suc, ◌≤◌, ◌<◌}
use native.Mathlib.Omega.{arith}
use lib.ListN.{length, get_or, replicate, get_or-eq_default}
use Rattle.laws.specs.Bit.{on}
use Rattle.laws.proofs.Truth.{off_on}
use Rattle.laws.proofs.On.{on_none}
use Rattle.runs.specs.Image.{Set}
use Rattle.runs.specs.Slots.{slot, Outside, Stored}

-- an empty slot has nothing, and a slot that is not lent is empty
pub empty_slot : (slots : List ℕ) (i : ℕ) → get_or slots i 0 ≡ 0 → (q : ℕ) → slot slots i q ≡ false
empty_slot slots i e q = ap (λ (word : ℕ). on word q) e ∙ on_none q

pub no_slot : (slots : List ℕ) {i : ℕ} → length slots ≤ i → get_or slots i 0 ≡ 0
no_slot slots h = get_or-eq_default slots 0 h

-- a table that is lent has nothing yet
pub nothing_kept : (long j : ℕ) → get_or {A = ℕ} (replicate long 0) j 0 ≡ 0
nothing_kept zero j = refl
nothing_kept (suc long) zero = refl
nothing_kept (suc long) (suc j) = nothing_kept long j

-- past the end nothing is stored
pub not_stored : (slots : List ℕ) (i : ℕ) {s : Set} → length slots ≤ i → Stored slots i s slots
not_stored slots i h = record {
  own = λ q. (λ k. absurd (off_on (empty_slot slots i (no_slot slots h) q) k), λ k. absurd (omega (arith, k.0)));
  other = λ j apart. refl;
  long = refl;
}

-- nothing outside a longer stretch is changed either
pub outside_more : {a b c d : ℕ} {before after : List ℕ} → c ≤ a → b ≤ d → Outside a b before after → Outside c d before after
outside_more low high o = record { same = λ j h. o.same j (⊎_elim (λ k. inl (omega arith)) (λ k. inr (omega arith)) h) }

pub outside_none : {a b : ℕ} {slots : List ℕ} → Outside a b slots slots
outside_none = record { same = λ j h. refl }

pub outside_then : {a b : ℕ} {one two three : List ℕ} → Outside a b one two → Outside a b two three → Outside a b one three
outside_then f g = record { same = λ j h. g.same j h ∙ f.same j h }

pub stored_outside : {before after : List ℕ} {i a b : ℕ} {s : Set} → Stored before i s after → a ≤ i → i < b → Outside a b before after
stored_outside k low high = record { same = λ j h. k.other j (λ e. ⊎_elim (λ l. omega (arith, e, l)) (λ l. omega (arith, e, l)) h) }

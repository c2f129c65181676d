-- Laws for what the exported functions promise: the bytes spell one walk and one test, and a slot has what its verdict is. No code.
use mathlib.Core.Path.{◌≡◌, sym, ap, subst⁻¹, ◌∙◌}
use mathlib.Core.Bool.{Bool}
use mathlib.Core.List.{List, []}
use mathlib.Core.Option.{Option}
use Prim.Native.Nat.{ℕ}
use Rattle.meaning.specs.Rule.{Kind, Walk, Test, of_walk, of_test, test_kind, Opens}
use Rattle.meaning.proofs.Reading.{unique_reading}
use Rattle.std.specs.Prelude.{Result}
use Rattle.refusal.specs.declared.Refusal.{Refusal}
use Rattle.refusal.specs.Given.{number_given}
use Rattle.theory.specs.Possible.{verdict_given}
use Rattle.exported.specs.Exported.{slot_of, InSlot}

-- the bytes spell one walk of a kind, and one test
pub one_walk : {kind : Kind} {bytes : List ℕ} {x y : Walk} → Opens kind bytes (of_walk x) [] → Opens kind bytes (of_walk y) [] → x ≡ y
one_walk o p = let e = (unique_reading o p).0 in cc

pub one_test : {bytes : List ℕ} {t u : Test} → Opens test_kind bytes (of_test t) [] → Opens test_kind bytes (of_test u) [] → t ≡ u
one_test o p = let e = (unique_reading o p).0 in cc

-- a slot has what its verdict is
pub one_slot : {Said : Option Bool → Type 0} {Said' : Option Bool → Type 0} {X : Type 0} {yes yes' : ℕ} (x : InSlot Said yes) (y : InSlot Said' yes')
    → (Said x.verdict → Said' y.verdict → X × (x.verdict ≡ y.verdict)) → X × (yes ≡ yes')
one_slot x y one = let both = one x.said y.said in (both.0, x.written ∙ ap slot_of both.1 ∙ sym y.written)

-- what a call promises of its answer is promised of the number and the slot that the answer is told in
pub in_slot : (Said : ℕ → Option Bool → Type 0) (answer : Result Bool Refusal) {number yes : ℕ} → Said (number_given answer) (verdict_given answer)
    → number ≡ number_given answer → yes ≡ slot_of (verdict_given answer) → InSlot (Said number) yes
in_slot Said answer said told written =
    record { verdict = verdict_given answer; written = written; said = subst⁻¹ (λ (n : ℕ). Said n (verdict_given answer)) told said }

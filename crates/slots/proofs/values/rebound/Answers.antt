-- `slots::values::rebound` meets its contract: place by place.
use mathlib.Core.Path.{◌≡◌, refl}
use mathlib.Core.List.{List, [], ◌∷◌}
use Prim.Native.Nat.{ℕ, zero, suc, ◌<◌}
use native.Mathlib.Omega.{arith}
use lib.ListN.{length, set}
use Rattle.steps.specs.Values.{listed}
use Rattle.slots.proofs.values.rebound.Goals as goal

listed_set : (of : List ℕ) (domain own inner place value : ℕ) → length of ≡ 4 → place < 4
    → listed record { of = set of place value; domain = domain; own = own; inner = inner } ≡ set (listed record { of = of; domain = domain; own = own; inner = inner }) place value
listed_set (a ∷ b ∷ c ∷ d ∷ []) domain own inner zero value four low = refl
listed_set (a ∷ b ∷ c ∷ d ∷ []) domain own inner (suc zero) value four low = refl
listed_set (a ∷ b ∷ c ∷ d ∷ []) domain own inner (suc (suc zero)) value four low = refl
listed_set (a ∷ b ∷ c ∷ d ∷ []) domain own inner (suc (suc (suc zero))) value four low = refl
listed_set (a ∷ b ∷ c ∷ d ∷ []) domain own inner (suc (suc (suc (suc place)))) value four low = absurd (omega arith)
listed_set [] domain own inner place value four low = absurd (omega arith)
listed_set (a ∷ []) domain own inner place value four low = absurd (omega arith)
listed_set (a ∷ b ∷ []) domain own inner place value four low = absurd (omega arith)
listed_set (a ∷ b ∷ c ∷ []) domain own inner place value four low = absurd (omega arith)
listed_set (a ∷ b ∷ c ∷ d ∷ e ∷ more) domain own inner place value four low = absurd (omega arith)

pub returns : goal.returns
returns c =
    let a = c.args in
    let v = a.vars.now in
    listed_set v.of v.domain v.own v.inner a.place a.value (omega arith) c.requires

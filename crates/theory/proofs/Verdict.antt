-- A bool that is true exactly where this is so is the verdict on it.
use mathlib.Core.Path.{◌≡◌, refl}
use mathlib.Core.Logic.{◌↔◌, inl, inr}
use mathlib.Core.Bool.{Bool, true, false, false≢true}
use mathlib.Core.Option.{some}
use Rattle.meaning.specs.Refusal.{YesOrNo}

pub told : {So : Type 0} (yes : Bool) → (yes ≡ true) ↔ So → YesOrNo So (some yes)
told true h = inl (refl, h.0 refl)
told false h = inr (refl, λ so. false≢true (h.1 so))

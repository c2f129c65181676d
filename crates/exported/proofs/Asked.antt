-- What a call is asked of has the numbers that it was given, and a slot is 1 where its verdict is yes, 0 where there is none.
use mathlib.Core.Path.{refl}
use Rattle.std.specs.Prelude.{◌≡◌, true, List, ℕ}
use Rattle.std.proofs.Math.Option.{none, some}
use Rattle.exported.specs.Exported.{asked, slot_of}

module _ (fluents actions domain start reading : ℕ) (masks log : List ℕ) where
  pub asked_domain : (asked fluents actions domain start reading masks log).setting.counts.domain ≡ domain
  asked_domain = refl

  pub asked_reading : (asked fluents actions domain start reading masks log).setting.reading ≡ reading
  asked_reading = refl

pub slot_of_none : slot_of none ≡ 0
slot_of_none = refl

pub slot_of_yes : slot_of (some true) ≡ 1
slot_of_yes = refl

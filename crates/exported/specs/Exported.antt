-- What the exported functions are asked of, where it comes in loose numbers, and what they promise where an answer is a number with a lent slot beside it.
use Rattle.std.specs.Prelude.{◌≡◌, Bool, true, false, List, ℕ}
use Rattle.std.proofs.Math.Option.{Option, none, some}
use Rattle.theory.specs.Subject.{Subject, setting_of, subject_of}

-- what is asked of, from the loose numbers of an exported call
abbrev pub asked : ℕ → ℕ → ℕ → ℕ → ℕ → List ℕ → List ℕ → Subject
asked fluents actions domain start reading masks log = subject_of (setting_of fluents actions domain start reading) masks log

-- a verdict in a slot: 1 for yes, 0 for no; 0 on a refusal too
abbrev pub slot_of : Option Bool → ℕ
slot_of none = 0
slot_of (some true) = 1
slot_of (some false) = 0

-- what a call promises of its verdict, said of the slot
pub record InSlot (Said : Option Bool → Type 0) (slot : ℕ) : Type 0 where
  pub verdict : Option Bool
  pub written : slot ≡ slot_of verdict
  pub said : Said verdict

-- What a call gives that answers a value or a refusal: the refusal's number, 0 for none; and the value, in whose place a refusal has a blank one.
use Rattle.std.specs.Prelude.{ℕ, Result}
use Rattle.std.specs.Prelude.{Ok, Err}
use Rattle.refusal.specs.declared.Refusal.{Refusal}
use Rattle.refusal.specs.Number.{number_of}

abbrev pub number_given : {A : Type 0} → Result A Refusal → ℕ
number_given (Err r) = number_of r
number_given (Ok v) = 0

abbrev pub value_given : {A : Type 0} → A → Result A Refusal → A
value_given blank (Err r) = blank
value_given blank (Ok v) = v

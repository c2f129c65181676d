-- What a call gives is all that it answers: two answers with the same number and the same value are one. Knows the refusals and their numbers alone.
use Rattle.std.specs.Prelude.{◌≡◌, Result}
use Rattle.std.specs.Prelude.{Ok, Err}
use Rattle.std.proofs.Common.{sym, ap}
use Rattle.refusal.specs.declared.Refusal.{Refusal}
use Rattle.refusal.specs.Given.{number_given, value_given}
use Rattle.refusal.proofs.Numbers.{one_number, some_number}

pub same_given : {A : Type 0} (blank : A) (a b : Result A Refusal) → number_given a ≡ number_given b → value_given blank a ≡ value_given blank b → a ≡ b
same_given blank (Err r) (Err q) n v = ap Err (one_number r q n)
same_given blank (Err r) (Ok y) n v = absurd (some_number r n)
same_given blank (Ok x) (Err q) n v = absurd (some_number q (sym n))
same_given blank (Ok x) (Ok y) n v = ap Ok v

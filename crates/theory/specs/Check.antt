-- The answer of a check against a list of refusals: none holds, or the number of the first that does.
use Rattle.std.specs.Prelude.{List, Result}
use Rattle.std.specs.Prelude.{Ok, Err}
use Rattle.refusal.specs.Number.{number_of}
use Rattle.meaning.specs.Refusal.{Row, Accepted}
use Rattle.meaning.specs.Refusal.{Refused as RefusedBy}
use Rattle.refusal.specs.declared.Refusal.{Refusal}

abbrev pub Settled : List {1} Row → Result Unit Refusal → Type 0
Settled rows (Ok u) = Accepted rows
Settled rows (Err r) = RefusedBy rows (number_of r)

-- `earliest` is the first position held, and the number of places where none is.
use native.Mathlib.Omega.{arith}
use Rattle.positions.proofs.Word.{earliest_word, zeros_fit}
use Rattle.positions.proofs.PositionSet.earliest.Goals as goal

pub overflow_cast-result : goal.overflow_cast-result
overflow_cast-result c = zeros_fit _

pub returns : goal.returns
returns c = earliest_word c.args.self (record { fits = omega arith })

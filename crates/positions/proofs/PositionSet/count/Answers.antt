-- `count` is the count of the positions held.
use native.Mathlib.Omega.{arith}
use Rattle.positions.proofs.Word.{count_word, ones_fit}
use Rattle.positions.proofs.PositionSet.count.Goals as goal

pub overflow_cast-result : goal.overflow_cast-result
overflow_cast-result c = ones_fit _ (omega arith)

pub returns : goal.returns
returns c = count_word c.args.self (record { fits = omega arith })

-- `is_empty` is true exactly where no position is held.
use native.Mathlib.Omega.{arith}
use Rattle.positions.proofs.Word.{empty_word}
use Rattle.positions.proofs.PositionSet.is_empty.Goals as goal

pub returns : goal.returns
returns c = empty_word c.args.self (record { fits = omega arith })

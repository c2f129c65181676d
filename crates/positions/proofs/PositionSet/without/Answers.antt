-- `without` holds what this set holds and the other does not.
use native.Mathlib.Omega.{arith}
use Rattle.positions.proofs.Word.{without_word}
use Rattle.positions.proofs.PositionSet.without.Goals as goal

pub returns : goal.returns
returns c = without_word c.args.self c.args.other (record { fits = omega arith })

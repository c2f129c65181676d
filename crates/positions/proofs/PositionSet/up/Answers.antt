-- `up` holds what stands one place before.
use native.Mathlib.Omega.{arith}
use Rattle.positions.proofs.Word.{up_word}
use Rattle.positions.proofs.PositionSet.up.Goals as goal

pub returns : goal.returns
returns c = up_word c.args.self (record { fits = omega arith })

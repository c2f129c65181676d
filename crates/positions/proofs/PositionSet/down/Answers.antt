-- `down` holds what stands one place after.
use native.Mathlib.Omega.{arith}
use Rattle.positions.proofs.Word.{down_word}
use Rattle.positions.proofs.PositionSet.down.Goals as goal

pub returns : goal.returns
returns c = down_word c.args.self (record { fits = omega arith })

-- `word` is the number whose bits are the positions held.
use native.Mathlib.Omega.{arith}
use Rattle.positions.proofs.Word.{set_word}
use Rattle.positions.proofs.PositionSet.word.Goals as goal

pub returns : goal.returns
returns c = set_word c.args.self (record { fits = omega arith })

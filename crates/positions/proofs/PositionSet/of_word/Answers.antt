-- `of_word` holds the positions whose bits are on.
use native.Mathlib.Omega.{arith}
use Rattle.positions.proofs.Word.{of_number, set_word}
use Rattle.positions.proofs.PositionSet.of_word.Goals as goal

pub returns : goal.returns
returns c = set_word (of_number c.args.word) (record { fits = omega arith })

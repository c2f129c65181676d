-- `standins::deciding` meets its contract: the law of the word operations.
use Rattle.theory.specs.Subject.{table_masks}
use Rattle.standins.proofs.Words.{decides_word}
use Rattle.standins.proofs.deciding.Goals as goal

pub returns : goal.returns
returns c = let a = c.args in decides_word (table_masks a.masks.now a.a)

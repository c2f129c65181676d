-- `theory::step::act` meets its contract: the table has the two clauses, and what they do is joined.
use native.Mathlib.Omega.{arith}
use Rattle.theory.specs.Subject.{table_masks}
use Rattle.theory.proofs.Action.{after_word}
use Rattle.theory.proofs.step.act.Goals as goal

pub returns : goal.returns
returns c =
    let one = c.clause-one in
    let two = c.clause-two in
    after_word (table_masks c.args.masks.now c.args.a) c.args.state one.result.put one.result.drop two.result.put two.result.drop
    one.ensures two.ensures (omega arith) (omega arith) (omega arith) (omega arith) c.ranges.state.fits

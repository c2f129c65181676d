-- `kinds::rest` meets its contract: the part that is handed back is the text from some place on.
use Rattle.rule_calls.proofs.Parts.{rest_of, no_rest}
use Rattle.rule_calls.proofs.kinds.rest.Goals as goal

pub returns-in-Ok : goal.returns-in-Ok
returns-in-Ok c = rw c.in_ok-kind.ensures (rest_of _ _ _ 0 _ c.in-Ok.ensures)

pub returns-in-Err : goal.returns-in-Err
returns-in-Err c = rw c.in_ok-kind.ensures (no_rest _ _ _ c.in-Err.none.why _ c.in-Err.ensures)

-- `lowest` meets its contract: the state that `theory::state` has at the log's end, read as labels.
use Rattle.std.proofs.lemmas.Result.{err_from_is_err_and}
use Rattle.refusal.proofs.Numbers.{some_number}
use Rattle.desk.proofs.Library.{lowest_refused, lowest_told}
use Rattle.desk.proofs.lowest.Goals as goal

pub returns-in_err-out : goal.returns-in_err-out
returns-in_err-out c =
    let a = c.args in
    let fits = c.in_ok-within.ensures in
    let made = c.asked_of-asked.ensures in
    let p = err_from_is_err_and c.from_residual-in_err-out.result c.from_residual-in_err-out.ensures.1 in
    rw (p.1, p.2)
    (lowest_refused a.cartons c.asked_of-asked.result.masks.now a.log.now fits.0 made.0 fits.1 (rw (made.1, made.2) at c.in_err-out.ensures) (some_number c.in_err-out.field-0.0))

pub returns : goal.returns
returns c =
    let a = c.args in
    let fits = c.in_ok-within.ensures in
    let made = c.asked_of-asked.ensures in
    rw c.lowest.ensures (lowest_told a.cartons c.asked_of-asked.result.masks.now a.log.now fits.0 made.0 fits.1 (rw (made.1, made.2) at c.in_ok-out.ensures))

-- `board::board` meets its contract: the refusal stands, or every test is told over the log's rows.
use mathlib.Core.Path.{refl}
use mathlib.Core.Logic.{inl, inr}
use Rattle.std.proofs.lemmas.Result.{err_from_is_err_and}
use Rattle.board.proofs.Checking.{log_readable, roomy, told_right}
use Rattle.board.proofs.board.Goals as goal

pub transpose-requires : goal.transpose-requires
transpose-requires c = log_readable c.in_ok-check.ensures

pub tell-requires : goal.tell-requires
tell-requires c = roomy c.in_ok-check.ensures

pub returns-in_err-check : goal.returns-in_err-check
returns-in_err-check c =
    let p = err_from_is_err_and c.from_residual.result c.from_residual.ensures.1 in
    rw (p.1, p.2) (inl (record { refused = c.in_err-check.ensures; blank = (refl, refl) }))

pub returns : goal.returns
returns c = inr (record { none = refl; accepted = c.in_ok-check.ensures; right = told_right c.in_ok-check.ensures c.transpose.ensures c.tell.ensures })

-- `finish::checks::check` meets its contract: more decides first, then theory, log and job, then the room.
use Rattle.std.proofs.lemmas.Result.{err_from_is_err_and}
use native.Mathlib.Omega.{arith}
use Rattle.theory.specs.Subject.{subject}
use Rattle.finish.proofs.Checking.{more_refused, call_refused, short-refused, all-passed}
use Rattle.finish.proofs.checks.check.Goals as goal

pub returns-then-more-gt-MORE_LIMIT : goal.returns-then-more-gt-MORE_LIMIT
returns-then-more-gt-MORE_LIMIT c =
    let a = c.args in
    more_refused (subject a.asked) a.job.now a.more a.room c.if-more-gt-MORE_LIMIT.true

pub returns-in_err-check_job : goal.returns-in_err-check_job
returns-in_err-check_job c =
    let a = c.args in
    let p = err_from_is_err_and c.from_residual.result c.from_residual.ensures.1 in
    rw (p.1, p.2) (call_refused (subject a.asked) a.job.now a.more a.room (λ h. omega arith) c.in_err-check_job.ensures)

pub returns-then-room-more : goal.returns-then-room-more
returns-then-room-more c =
    let a = c.args in
    short-refused (subject a.asked) a.job.now a.more a.room (λ h. omega arith) c.in_ok-check_job.ensures c.if-room-more.true

pub returns : goal.returns
returns c =
    let a = c.args in
    all-passed (subject a.asked) a.job.now a.more a.room (λ h. omega arith) c.in_ok-check_job.ensures (λ h. omega arith)

-- `finish::checks::check_job` meets its contract: theory and log decide first, and past them the job.
use Rattle.std.proofs.lemmas.Result.{err_from_is_err_and}
use Rattle.theory.specs.Subject.{subject}
use Rattle.finish.proofs.Checking.{world_refused, job_settled}
use Rattle.finish.proofs.checks.check_job.Goals as goal

pub returns-in_err-check_world : goal.returns-in_err-check_world
returns-in_err-check_world c =
    let a = c.args in
    let p = err_from_is_err_and c.from_residual.result c.from_residual.ensures.1 in
    rw (p.1, p.2) (world_refused (subject a.asked) a.job.now c.in_err-check_world.ensures)

pub returns : goal.returns
returns c =
    let a = c.args in
    job_settled (subject a.asked) a.job.now c.in_ok-check_world.ensures c.check_rule.result c.check_rule.ensures

-- `finish::next` meets its contract: the checks decide, and past them what may come next.
use mathlib.Core.Path.{refl}
use mathlib.Core.Logic.{inl, inr}
use Rattle.std.proofs.lemmas.Result.{err_from_is_err_and}
use Rattle.grammar.proofs.Widths.{ends_told}
use Rattle.theory.specs.Subject.{Subject, subject, world_of}
use Rattle.finish.proofs.Checking.{Job, logged_passed, job_passed, job_is}
use Rattle.finish.proofs.LeftOut.{begin_come}
use Rattle.finish.proofs.Filled.{all_allowed}
use Rattle.finish.proofs.next.Goals as goal

pub coming-requires : goal.coming-requires
coming-requires c =
    let subject : Subject = subject c.args.asked in
    let job : Job c.args.job.now = job_passed subject c.args.job.now c.in_ok-check_job.ensures in
    record {
      logged = logged_passed subject c.args.job.now c.in_ok-check_job.ensures;
      stands = record { walk = job.walk; stands = (job_is job).there; marked = ends_told _ _ job.short c.fill_ends.ensures };
    }

pub returns-in_err-check_job : goal.returns-in_err-check_job
returns-in_err-check_job c =
    let p = err_from_is_err_and c.from_residual.result c.from_residual.ensures.1 in
    rw (p.1, p.2) (inl (record { refused = c.in_err-check_job.ensures; blank = refl }))

pub returns : goal.returns
returns c =
    let subject : Subject = subject c.args.asked in
    let job : Job c.args.job.now = job_passed subject c.args.job.now c.in_ok-check_job.ensures in
    inr (record {
      none = refl;
      accepted = c.in_ok-check_job.ensures;
      right = record { walk = job.walk; spells = job.spells; told = begin_come _ (world_of subject) job.walk _ (all_allowed _ job.walk job.short (job_is job).there) (c.coming.ensures.each job.walk (job_is job)) };
    })

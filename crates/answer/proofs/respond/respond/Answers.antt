-- `answer::respond::respond` meets its contract: each of the three calls tells its answer, and the value says them.
use Rattle.theory.specs.Subject.{subject}
use Rattle.answer.specs.Respond.{saying}
use Rattle.answer.proofs.Calls.{finished, unfinished}
use Rattle.answer.proofs.respond.respond.Goals as goal

pub returns-in-Ok : goal.returns-in-Ok
returns-in-Ok c =
    finished (saying (subject c.args.asked) c.args.test.now c.args.job.now c.args.more) c.requires c.judged-yes.result c.state_at-state.result
    c.judged-yes.ensures c.state_at-state.ensures c.seek.new.out _ c.in-Ok.ensures

pub returns-in-Err : goal.returns-in-Err
returns-in-Err c =
    unfinished (saying (subject c.args.asked) c.args.test.now c.args.job.now c.args.more) c.requires c.judged-yes.result c.state_at-state.result
    c.judged-yes.ensures c.state_at-state.ensures c.seek.new.out _ c.in-Err.ensures

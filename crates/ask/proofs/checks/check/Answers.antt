-- `ask::checks::check` meets its contract: the world's number stands, then the rule's, then the times decide.
use Rattle.std.proofs.lemmas.Result.{err_from_is_err_and}
use Rattle.theory.specs.Subject.{subject}
use Rattle.rule.specs.Outcome.{kind_of}
use Rattle.ask.proofs.Asking.{world_refuses, rule_refuses, times_settle}
use Rattle.ask.proofs.checks.check.Goals as goal

pub returns-in_err-check_world : goal.returns-in_err-check_world
returns-in_err-check_world c =
    let a = c.args in
    let p = err_from_is_err_and c.from_residual.result c.from_residual.ensures.1 in
    rw (p.1, p.2) (world_refuses (kind_of a.kind) (subject a.asked) a.rule.now a.then a.now c.in_err-check_world.ensures)

pub returns-in_err-check_rule : goal.returns-in_err-check_rule
returns-in_err-check_rule c =
    let a = c.args in
    let p = err_from_is_err_and c.from_residual-in_err-check_rule.result c.from_residual-in_err-check_rule.ensures.1 in
    rw (p.1, p.2) (rule_refuses (kind_of a.kind) (subject a.asked) a.rule.now a.then a.now c.in_ok-check_world.ensures c.in_err-check_rule.ensures)

pub returns : goal.returns
returns c =
    let a = c.args in
    times_settle (kind_of a.kind) (subject a.asked) a.rule.now a.then a.now c.in_ok-check_world.ensures c.in_ok-check_rule.ensures
    c.check_times.result c.check_times.ensures

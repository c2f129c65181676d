-- `board::checks::check` meets its contract: the text of the tests decides first, then theory and log, then the times, then the room.
use Rattle.std.proofs.lemmas.Result.{err_from_is_err_and}
use Rattle.laws.proofs.Truth.{off_on}
use Rattle.theory.specs.Subject.{subject}
use Rattle.board.specs.Tests.{NoLastLf}
use Rattle.board.proofs.Checking as laws
use Rattle.board.proofs.checks.check.Goals as goal
use Rattle.board.proofs.checks.check.Goals.{Else-no_last_lf}

-- past the first check the last LF is there
ended : (c : Else-no_last_lf) → NoLastLf c.args.text.now → ⊥
ended c h = off_on c.if-no_last_lf.false (c.no_last_lf.ensures.1 h)

pub returns-then-no_last_lf : goal.returns-then-no_last_lf
returns-then-no_last_lf c =
    let a = c.args in
    laws.lf_refuses (subject a.asked) a.text.now a.then a.now a.room (c.no_last_lf.ensures.0 c.if-no_last_lf.true)

pub returns-then-many-gt-TEST_LIMIT : goal.returns-then-many-gt-TEST_LIMIT
returns-then-many-gt-TEST_LIMIT c =
    let a = c.args in
    laws.many_refuses (subject a.asked) a.text.now a.then a.now a.room (ended (goal.at.returns-then-many-gt-TEST_LIMIT c).Else-no_last_lf)
    c.count-many.ensures c.if-many-gt-TEST_LIMIT.true

pub returns-in_err-check_world : goal.returns-in_err-check_world
returns-in_err-check_world c =
    let a = c.args in
    let p = err_from_is_err_and c.from_residual.result c.from_residual.ensures.1 in
    rw (p.1, p.2)
    (laws.world_refuses (subject a.asked) a.text.now a.then a.now a.room (ended (goal.at.returns-in_err-check_world c).Else-no_last_lf)
    c.count-many.ensures c.if-many-gt-TEST_LIMIT.false c.in_err-check_world.ensures)

pub returns-in_err-check_times : goal.returns-in_err-check_times
returns-in_err-check_times c =
    let a = c.args in
    let p = err_from_is_err_and c.from_residual-in_err-check_times.result c.from_residual-in_err-check_times.ensures.1 in
    rw (p.1, p.2)
    (laws.times_refuse (subject a.asked) a.text.now a.then a.now a.room (ended (goal.at.returns-in_err-check_times c).Else-no_last_lf)
    c.count-many.ensures c.if-many-gt-TEST_LIMIT.false c.in_ok-check_world.ensures c.in_err-check_times.ensures)

pub returns-then-room-many : goal.returns-then-room-many
returns-then-room-many c =
    let a = c.args in
    laws.room-refuses (subject a.asked) a.text.now a.then a.now a.room (ended (goal.at.returns-then-room-many c).Else-no_last_lf)
    c.count-many.ensures c.if-many-gt-TEST_LIMIT.false c.in_ok-check_world.ensures c.in_ok-check_times.ensures c.if-room-many.true

pub returns : goal.returns
returns c =
    let a = c.args in
    laws.nothing_refuses (subject a.asked) a.text.now a.then a.now a.room (ended (goal.at.returns c).Else-no_last_lf)
    c.count-many.ensures c.if-many-gt-TEST_LIMIT.false c.in_ok-check_world.ensures c.in_ok-check_times.ensures c.if-room-many.false

-- `sheet::closing::read_rest` meets its contract: each line leads on to the next, and a refused one is the fault. Assumes nothing.
use mathlib.Core.Path.{refl}
use Prim.Native.Nat.{◌+◌}
use native.Mathlib.Omega.{arith}
use lib.ListN.{take}
use Rattle.std.proofs.lemmas.Result.{err_from_is_err_and}
use Rattle.sheet_lines.specs.Forms.{log_form, now_form, ask_form, run_form, more_form}
use Rattle.sheet.specs.Lines.{Sheet, none, opened, and_log, and_reading, with_ask, with_run, with_more, from_now, from_ask, from_run, from_more}
use Rattle.sheet.proofs.Order.{at_line, bad_line, bad_if, bytes_follow}
use Rattle.sheet.proofs.Last.{text_of, to_now, to_ask, to_run, to_more, to_end, all_said}
use Rattle.sheet.proofs.closing.read_rest.Goals as goal

pub returns-in_err-steps : goal.returns-in_err-steps
returns-in_err-steps c =
    let a = c.args in
    let p = err_from_is_err_and c.from_residual.result c.from_residual.ensures.1 in
    λ masks.
    rw (p.1, p.2)
    (at_line (log_form a.version a.setting.counts.actions) a.sheet.now (a.above.end + 1) (a.above.line + 1) (λ log at. from_now a.version (and_log (opened a.setting masks) log))
    c.in_err-steps.ensures.0)

pub returns-in_err-now : goal.returns-in_err-now
returns-in_err-now c =
    let a = c.args in
    let p = err_from_is_err_and c.from_residual-in_err-now.result c.from_residual-in_err-now.ensures.1 in
    let steps = c.in_ok-steps.steps in
    let log = take steps.number c.log_line.new.log in
    λ masks.
    rw (p.1, p.2)
    (bad_if a.version.reading now_form 0 (λ reading. from_ask (and_reading (and_log (opened a.setting masks) log) reading)) (λ c. c.number) steps c.in_err-now.field-0.0
    (to_now a.sheet.now a.version a.setting masks a.above log steps c.in_ok-steps.ensures.0)
    c.in_err-now.ensures)

pub returns-in_err-ask : goal.returns-in_err-ask
returns-in_err-ask c =
    let a = c.args in
    let p = err_from_is_err_and c.from_residual-in_err-ask.result c.from_residual-in_err-ask.ensures.1 in
    let steps = c.in_ok-steps.steps in
    let log = take steps.number c.log_line.new.log in
    let now = c.in_ok-now.now in
    λ masks.
    let s : Sheet = and_reading (and_log (opened a.setting masks) log) now.number in
    rw (p.1, p.2)
    (bad_line (ask_form a.setting.counts) (λ ask at. from_run (with_ask s ask at))
    (to_ask a.sheet.now a.version a.setting masks a.above log steps c.in_ok-steps.ensures.0 now c.in_ok-now.ensures)
    c.in_err-ask.ensures.0)

pub returns-in_err-job : goal.returns-in_err-job
returns-in_err-job c =
    let a = c.args in
    let p = err_from_is_err_and c.from_residual-in_err-job.result c.from_residual-in_err-job.ensures.1 in
    let steps = c.in_ok-steps.steps in
    let log = take steps.number c.log_line.new.log in
    let now = c.in_ok-now.now in
    let ask = c.in_ok-ask.ask in
    λ masks.
    let s : Sheet = with_ask (and_reading (and_log (opened a.setting masks) log) now.number) (text_of a.sheet.now ask) ask.start in
    rw (p.1, p.2)
    (bad_line (run_form a.setting.counts) (λ run at. from_more (with_run s run at))
    (to_run a.sheet.now a.version a.setting masks a.above log steps c.in_ok-steps.ensures.0 now c.in_ok-now.ensures ask c.in_ok-ask.ensures.0.0)
    c.in_err-job.ensures.0)

pub returns-in_err-more : goal.returns-in_err-more
returns-in_err-more c =
    let a = c.args in
    let p = err_from_is_err_and c.from_residual-in_err-more.result c.from_residual-in_err-more.ensures.1 in
    let steps = c.in_ok-steps.steps in
    let log = take steps.number c.log_line.new.log in
    let now = c.in_ok-now.now in
    let ask = c.in_ok-ask.ask in
    let job = c.in_ok-job.job in
    λ masks.
    let s : Sheet = with_run (with_ask (and_reading (and_log (opened a.setting masks) log) now.number) (text_of a.sheet.now ask) ask.start) (text_of a.sheet.now job) job.start in
    rw (p.1, p.2)
    (bad_line more_form (λ more at. none (with_more s more))
    (to_more a.sheet.now a.version a.setting masks a.above log steps c.in_ok-steps.ensures.0 now c.in_ok-now.ensures ask c.in_ok-ask.ensures.0.0 job c.in_ok-job.ensures.0.0)
    c.in_err-more.ensures)

pub returns-then-more-sheet : goal.returns-then-more-sheet
returns-then-more-sheet c =
    let a = c.args in
    let steps = c.in_ok-steps.steps in
    let more = c.in_ok-more.more in
    λ masks.
    (to_end a.sheet.now a.version a.setting masks a.above (take steps.number c.log_line.new.log) steps c.in_ok-steps.ensures.0 c.in_ok-now.now c.in_ok-now.ensures
    c.in_ok-ask.ask c.in_ok-ask.ensures.0.0 c.in_ok-job.job c.in_ok-job.ensures.0.0 more c.in_ok-more.ensures.0).faults _ _
    (bytes_follow a.sheet.now (more.end + 1) (more.line + 1) _ c.if-more-sheet.true)

pub returns : goal.returns
returns c =
    let a = c.args in
    let steps = c.in_ok-steps.steps in
    let exit = c.log_line.new.log in
    let kept = c.in_ok-steps.ensures.1 in
    λ masks.
    all_said a.sheet.now a.version a.setting masks a.above (take steps.number exit) steps c.in_ok-steps.ensures.0 c.in_ok-now.now c.in_ok-now.ensures c.in_ok-ask.ask
    c.in_ok-ask.ensures.0.0 c.in_ok-job.job c.in_ok-job.ensures.0.0 c.in_ok-more.more c.in_ok-more.ensures.0 a.log.now exit steps.number refl
    (omega (arith, kept.0, c.requires.1.short, c.requires.3, c.log_line.auto.log))
    kept.1
    c.if-more-sheet.false

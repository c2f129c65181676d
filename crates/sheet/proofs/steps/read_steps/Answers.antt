-- `sheet::steps::read_steps` meets its contract. The loop has read the first steps. Assumes nothing.
use Prim.Native.Nat.{◌<◌}
use native.Mathlib.Omega.{arith}
use lib.ListN.{length, get_or}
use Rattle.sheet.proofs.LogSteps.{steps_none, steps_more, step_of, two_a_step, text_step}
use Rattle.sheet.proofs.steps.read_steps.Goals as goal

pub returns-then-count-size : goal.returns-then-count-size
returns-then-count-size c =
    λ log few small e. c.if-count-size.true (let long = two_a_step c.args.sheet.now c.args.start c.args.end log c.requires.1 e in omega arith)

pub returns-then-limit-count : goal.returns-then-limit-count
returns-then-limit-count c =
    λ log few small e. let long = two_a_step c.args.sheet.now c.args.start c.args.end log c.requires.1 e in omega arith

pub loop-i-init : goal.loop-i-init
loop-i-init c = steps_none _ _

pub returns-in_err-step : goal.returns-in_err-step
returns-in_err-step c =
    let a = c.args in
    let i = c.loop-i.i in
    let l = c.loop-i-test.true in
    rw c.from_residual.ensures
    (λ log few small e.
    let long = two_a_step a.sheet.now a.start a.end log c.requires.1 e in
    let there : i < length log = omega (arith, long, l) in
    c.in_err-step.ensures (get_or log i 0) _ (small i there) (text_step a.sheet.now a.start a.end i log c.requires.1 there e))

pub loop-i-preserved : goal.loop-i-preserved
loop-i-preserved c =
    let a = c.args in
    let k = c.loop-i in
    let l = c.loop-i-test.true in
    steps_more _ _ _ _ _ (omega arith) k.invariant (step_of a.sheet.now _ a.start a.end k.i _ (omega (arith, l)) c.in_ok-step.ensures.1)

-- `spelling::put::actions` meets its contract: what is written so far is the log's beginning.
use native.Mathlib.Omega.{arith}
use lib.ListN.{take, length-take}
use Rattle.spelling.specs.Numeral.{log_text}
use Rattle.spelling.proofs.LogText.{log_long, one_more}
use Rattle.spelling.proofs.Writing.{wrote_nothing, wrote_then, wrote_as, wrote_length}
use Rattle.spelling.proofs.put.actions.Goals as goal

pub loop-action-init : goal.loop-action-init
unfolding log_text
loop-action-init c = wrote_nothing _ _

pub two_digits-at-requires : goal.two_digits-at-requires
two_digits-at-requires c =
    let w = c.loop-action.invariant in
    let log = c.args.log.now in
    omega (arith, w.onward, wrote_length w, log_long (take c.loop-action.action-index log), length-take c.loop-action.action-index log)

pub loop-action-preserved : goal.loop-action-preserved
loop-action-preserved c =
    wrote_as (one_more c.args.log.now c.loop-action.action-index c.loop-action-test.true) (wrote_then c.loop-action.invariant c.two_digits-at.ensures)

-- `wyh_verdict` meets its contract: what `ask::verdict` answers, as a number and a slot.
use Rattle.ask.specs.Verdict.{VerdictAnswered}
use Rattle.exported.specs.Exported.{asked}
use Rattle.exported.proofs.Slots.{in_slot}
use Rattle.ask_calls.proofs.wyh_verdict.Goals as goal

pub returns : goal.returns
returns c =
    let a = c.args in
    in_slot (VerdictAnswered (asked a.fluents a.actions a.domain a.start a.reading a.masks.now a.log.now) a.test.now a.then a.now) c.verdict.result
    (rw c.of-setting.ensures at c.verdict.ensures) c.verdict_told.ensures.number c.verdict_told.ensures.verdict

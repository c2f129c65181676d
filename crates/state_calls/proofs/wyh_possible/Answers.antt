-- `wyh_possible` meets its contract: what `theory::possible` answers, as a number and a slot.
use Rattle.theory.specs.Possible.{PossibleAnswered}
use Rattle.exported.specs.Exported.{asked}
use Rattle.exported.proofs.Slots.{in_slot}
use Rattle.state_calls.proofs.wyh_possible.Goals as goal

pub returns : goal.returns
returns c =
    let a = c.args in
    in_slot (PossibleAnswered (asked a.fluents a.actions 0 a.start 0 a.masks.now a.log.now) a.action a.position) c.possible.result
    (rw c.of-setting.ensures at c.possible.ensures) c.verdict_told.ensures.number c.verdict_told.ensures.verdict

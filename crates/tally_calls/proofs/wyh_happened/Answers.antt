-- `wyh_happened` meets its contract: what `tally::compared` answers, as a number and a slot.
use Rattle.tally.specs.Calls.{HappenedAnswered}
use Rattle.exported.proofs.Slots.{in_slot}
use Rattle.tally_calls.proofs.wyh_happened.Goals as goal

pub returns : goal.returns
returns c =
    let a = c.args in
    in_slot (HappenedAnswered a.actions a.last.now a.impossible a.action) c.compared.result c.compared.ensures c.verdict_told.ensures.number c.verdict_told.ensures.verdict

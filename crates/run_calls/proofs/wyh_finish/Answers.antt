-- `wyh_finish` meets its contract: what `finish::finish` answers, as a number and a slot.
use Rattle.run_calls.proofs.wyh_finish.Goals as goal

pub returns : goal.returns
returns c = rw (c.told.ensures.number, c.told.ensures.value) (rw c.of-setting.ensures at c.finish.ensures)

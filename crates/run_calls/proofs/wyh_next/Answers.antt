-- `wyh_next` meets its contract: what `finish::next` answers, as a number and a slot.
use Rattle.run_calls.proofs.wyh_next.Goals as goal

pub returns : goal.returns
returns c = rw (c.told.ensures.number, c.told.ensures.value) (rw c.of-setting.ensures at c.next.ensures)

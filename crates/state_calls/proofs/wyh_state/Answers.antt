-- `wyh_state` meets its contract: what `theory::state` answers, as a number and a slot.
use Rattle.state_calls.proofs.wyh_state.Goals as goal

pub returns : goal.returns
returns c = rw (c.told.ensures.number, c.told.ensures.value) (rw c.of-setting.ensures at c.state.ensures)

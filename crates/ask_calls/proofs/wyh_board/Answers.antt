-- `wyh_board` meets its contract: what `board::board` answers, as a number and a slot.
use Rattle.ask_calls.proofs.wyh_board.Goals as goal

pub returns : goal.returns
returns c = rw (c.told.ensures.number, c.told.ensures.value) (rw c.of-setting.ensures at c.board.ensures)

-- `tables::toggle` meets its contract: two rows are the other way at the step, the fluents behind it at the next position.
use lib.ListN.{length-set}
use Rattle.tables.proofs.Marks.{toggled}
use Rattle.tables.proofs.toggle.Goals as goal

pub turn-requires : goal.turn-requires
turn-requires c = simp length-set c.requires.0

pub returns : goal.returns
returns c =
    let a = c.args in
    toggled a.rows.now a.a a.p a.behind c.requires.0 c.requires.1 c.requires.2 c.turn.ensures

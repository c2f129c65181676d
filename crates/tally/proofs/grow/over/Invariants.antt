-- `tally::grow::over` meets its contract. The loop's invariant: the record is that of the steps passed.
use lib.ListN.{take}
use Rattle.tables.proofs.Transposed.{uncounted}
use Rattle.tally.specs.Record.{TallyOf}
use Rattle.tally.proofs.grow.over.Given as goal

abbrev pub invariant-loop-a : goal.invariant-loop-a
invariant-loop-a l = TallyOf (uncounted l.fn.asked.setting.start l.asked.masks.now (take l.a-index l.asked.log.now)) l.t

-- `tables::transpose` meets its contract. The loop's invariant: the state is that at position p, and the rows are those of the log up to
-- position p.
use mathlib.Core.Path.{◌≡◌}
use Rattle.meaning.specs.Theory.{state_before}
use Rattle.tables.proofs.Transposed.{TakenBelow, ShownTo, uncounted}
use Rattle.tables.proofs.transpose.Given as goal

abbrev pub invariant-loop-p : goal.invariant-loop-p
invariant-loop-p l =
    (l.state ≡ state_before (uncounted l.start l.asked.masks.now l.asked.log.now) l.p)
    × TakenBelow (uncounted l.start l.asked.masks.now l.asked.log.now) l.rows l.p
    × ShownTo (uncounted l.start l.asked.masks.now l.asked.log.now) l.rows l.p

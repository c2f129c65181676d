-- `finish::follow::turns` meets its contract. The loop's invariant: so it is for the actions gone over.
use Rattle.meaning.specs.Lengths.{Reaching}
use Rattle.theory.specs.Subject.{table_masks}
use Rattle.finish.proofs.follow.turns.Given as goal

abbrev pub invariant-loop-a : goal.invariant-loop-a
invariant-loop-a l = Reaching l.a (table_masks l.masks) l.state l.ons l.offs

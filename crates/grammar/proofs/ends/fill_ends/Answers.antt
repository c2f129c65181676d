-- `ends::fill_ends` meets its contract. The loop's invariant: from `at` on the table holds the ends.
use Rattle.grammar.proofs.Widths as laws
use Rattle.grammar.proofs.ends.fill_ends.Goals as goal

pub loop-at-init : goal.loop-at-init
loop-at-init c = let a = c.args in laws.filling_starts a.text.now a.ends.now c.if-length-gt-TEXT_LIMIT.false c.if-ends-length.false

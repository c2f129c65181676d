-- `ends::fill_ends` meets its contract. The loop's invariant: from `at` on the table holds the ends.
use Rattle.grammar.proofs.Widths as laws
use Rattle.grammar.proofs.ends.fill_ends.Given as goal

abbrev pub invariant-loop-at : goal.invariant-loop-at
invariant-loop-at l = laws.Filling l.text l.initial.ends l.ends l.at

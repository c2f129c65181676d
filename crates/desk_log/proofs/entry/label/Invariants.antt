use Rattle.desk_log.proofs.Spelled.{Passed}
use Rattle.desk_log.proofs.entry.label.Given as goal

-- the line is the number of no label below k
abbrev pub invariant-loop-k : goal.invariant-loop-k
invariant-loop-k l = Passed l.line l.k

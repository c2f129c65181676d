-- `sheet::steps::read_steps` meets its contract. The loop has read the first steps. Assumes nothing.
use Rattle.spelling.specs.Scan.{stretch}
use Rattle.sheet.proofs.LogSteps.{Steps}
use Rattle.sheet.proofs.steps.read_steps.Given as goal

abbrev pub invariant-loop-i : goal.invariant-loop-i
invariant-loop-i l = Steps (stretch l.sheet l.start l.end) l.initial.log l.log l.i

-- `spelling::put::actions` meets its contract: what is written so far is the log's beginning.
use lib.ListN.{take}
use Rattle.spelling.specs.Numeral.{log_text}
use Rattle.spelling.specs.Wrote.{Wrote}
use Rattle.spelling.proofs.put.actions.Given as goal

abbrev pub invariant-loop-action : goal.invariant-loop-action
invariant-loop-action l = Wrote l.initial.out l.to (log_text (take l.action-index l.log)) l.out l.at

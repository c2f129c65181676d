-- `evaluator::run::asks_with` meets its contract: a table that is lent has nothing yet, however long it is.
use Rattle.runs.proofs.Keeping.{nothing_kept}
use Rattle.runs.proofs.Runs.{ask_exact}
use Rattle.evaluator.proofs.run.asks_with.Goals as goal

pub returns : goal.returns
returns g c = ask_exact (nothing_kept _) c.none_bound-vars.ensures c.onward-pass.ensures

-- `evaluator::run::walk_with` meets its contract: a table that is lent has nothing yet, however long it is.
use Rattle.runs.proofs.Keeping.{nothing_kept}
use Rattle.runs.proofs.Runs.{walk_exact}
use Rattle.evaluator.proofs.run.walk_with.Goals as goal

pub returns : goal.returns
returns g c = walk_exact (nothing_kept _) c.none_bound-vars.ensures c.walk.ensures

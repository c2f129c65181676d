-- `evaluator::run::test_with` meets its contract: a table that is lent has nothing yet, however long it is.
use mathlib.Core.Path.{refl}
use Rattle.runs.proofs.Keeping.{nothing_kept}
use Rattle.runs.proofs.Runs.{test_exact}
use Rattle.evaluator.proofs.run.test_with.Goals as goal

pub returns : goal.returns
returns g c = test_exact (nothing_kept _) c.none_bound-vars.ensures refl c.test.ensures

-- `ask::true_at` meets its contract: the one position is kept exactly when the test is true there.
use mathlib.Core.Path.{refl}
use Rattle.grammar.specs.Standing.{Ends}
use Rattle.ask.proofs.Asking.{known_short}
use Rattle.ask.proofs.Answering.{ends_marked, test_first, test_told}
use Rattle.ask.proofs.true_at.Goals as goal

pub test-kept-requires : goal.test-kept-requires
test-kept-requires c =
    let marked : Ends c.args.test.now c.fill_ends.new.ends = ends_marked (known_short c.requires) refl c.fill_ends.ensures in
    test_first c.requires marked

pub returns : goal.returns
returns c =
    let marked : Ends c.args.test.now c.fill_ends.new.ends = ends_marked (known_short c.requires) refl c.fill_ends.ensures in
    test_told marked c.at-among.result c.test-kept.result c.at-among.ensures c.test-kept.ensures c.has.result c.has.ensures

-- `Rewriter::test` and `Rewriter::walk` meet their contracts: what a part is asked is a line of `Asked`, what is written a line of `Arms` or `TestArms`. The
-- measure of each is what is left of the text.
use mathlib.Core.Path.{sym, ◌∙◌}
use native.Mathlib.Omega.{arith}
use Rattle.normal.proofs.Standing.{two_walks, walk_test}
use Rattle.normal.proofs.Arms as arms
use Rattle.normal.proofs.TestArms as test-arms
use Rattle.normal.proofs.Asked as asked
use Rattle.normal.proofs.rewrite.Rewriter.+test_walk.Goals as goal

pub test-bounds-self-at : goal.test-bounds-self-at
test-bounds-self-at t c = asked.test_in c.requires

pub test-overflow_add-from : goal.test-overflow_add-from
test-overflow_add-from t c = omega (arith, asked.test_in c.requires, c.well_formed)

pub test-overflow_add-next : goal.test-overflow_add-next
test-overflow_add-next t c = omega (arith, asked.test_room c.requires)

pub test-number-requires : goal.test-number-requires
test-number-requires t c = asked.fluent_here c.requires (sym c.in-NamedFluent.is ∙ c.sign_of.ensures)

pub test-test-requires : goal.test-test-requires
test-test-requires t c = (omega (arith, c.decreases, asked.test_in c.requires), asked.denial_here c.requires (sym c.in-Denial.is ∙ c.sign_of.ensures))

pub test-second-middle-requires : goal.test-second-middle-requires
test-second-middle-requires t c = asked.test_next c.requires

pub test-test-done-requires : goal.test-test-done-requires
test-test-done-requires t c =
    (omega (arith, c.decreases, asked.test_in c.requires), asked.both_first c.requires (sym c.in-TwoTests.is ∙ c.sign_of.ensures))

pub test-test-requires-in-TwoTests : goal.test-test-requires-in-TwoTests
test-test-requires-in-TwoTests t c =
    let h = asked.both_second c.requires (sym c.in-TwoTests.is ∙ c.sign_of.ensures) c.second-middle.ensures c.test-done.ensures in
    (omega (arith, c.decreases, asked.test_in c.requires, h.1), h.0)

pub test-second-middle-requires-in_default : goal.test-second-middle-requires-in_default
test-second-middle-requires-in_default t c = asked.test_next c.requires

pub test-walk-done-requires : goal.test-walk-done-requires
test-walk-done-requires t c =
    let d = c.in_default in
    (omega (arith, c.decreases, asked.test_in c.requires), asked.diamond_first c.requires (walk_test c.requires.stands c.sign_of.ensures d.not-Constant d.not-NamedFluent d.not-Denial d.not-TwoTests d.not-SumFluent d.not-SomeTest))

pub test-test-requires-in_default : goal.test-test-requires-in_default
test-test-requires-in_default t c =
    let d = c.in_default in
    let h = asked.diamond_second c.requires (walk_test c.requires.stands c.sign_of.ensures d.not-Constant d.not-NamedFluent d.not-Denial d.not-TwoTests d.not-SumFluent d.not-SomeTest) c.second-middle-in_default.ensures c.walk-done.ensures in
    (omega (arith, c.decreases, asked.test_in c.requires, h.1), h.0)

pub test-returns-in-Constant : goal.test-returns-in-Constant
test-returns-in-Constant t c = test-arms.constant_written (record { put = c.put.ensures }) (sym c.in-Constant.is ∙ c.sign_of.ensures)

pub test-returns-in-NamedFluent : goal.test-returns-in-NamedFluent
test-returns-in-NamedFluent t c =
    test-arms.fluent_written (record { put = c.put.ensures }) (sym c.in-NamedFluent.is ∙ c.sign_of.ensures) c.number.ensures

pub test-returns-in-Denial : goal.test-returns-in-Denial
test-returns-in-Denial t c = test-arms.denial_written (record { put = c.put.ensures }) (sym c.in-Denial.is ∙ c.sign_of.ensures) c.test.ensures

pub test-returns-in-TwoTests : goal.test-returns-in-TwoTests
test-returns-in-TwoTests t c =
    test-arms.both-written (record { put = c.put.ensures }) c.requires.marked.table c.second-middle.ensures c.test-in-TwoTests.ensures (sym c.in-TwoTests.is ∙ c.sign_of.ensures) c.test-done.ensures

pub test-number-named-requires : goal.test-number-named-requires
test-number-named-requires t c = (asked.sum_fluent_here c.requires (sym c.in-SumFluent.is ∙ c.sign_of.ensures)).0

pub test-overflow_add-at : goal.test-overflow_add-at
test-overflow_add-at t c = omega (arith, asked.test_next c.requires)

pub test-letter-requires : goal.test-letter-requires
test-letter-requires t c =
    asked.letter_next c.args.to c.number-named.ensures (asked.sum_fluent_here c.requires (sym c.in-SumFluent.is ∙ c.sign_of.ensures)).1

pub test-letter-bound-requires : goal.test-letter-bound-requires
test-letter-bound-requires t c = (asked.exists_here c.requires (sym c.in-SomeTest.is ∙ c.sign_of.ensures)).0

pub test-overflow_add-at-in-SomeTest : goal.test-overflow_add-at-in-SomeTest
test-overflow_add-at-in-SomeTest t c = omega (arith, asked.test_next c.requires)

pub test-test-requires-in-SomeTest : goal.test-test-requires-in-SomeTest
test-test-requires-in-SomeTest t c =
    (omega (arith, c.decreases, asked.test_in c.requires), asked.test_behind c.args.to c.letter-bound.ensures (asked.exists_here c.requires (sym c.in-SomeTest.is ∙ c.sign_of.ensures)).1)

pub test-returns-in-SumFluent : goal.test-returns-in-SumFluent
test-returns-in-SumFluent t c =
    test-arms.sum_written (record { put = c.put.ensures }) (sym c.in-SumFluent.is ∙ c.sign_of.ensures) c.number-named.ensures c.letter.ensures

pub test-returns-in-SomeTest : goal.test-returns-in-SomeTest
test-returns-in-SomeTest t c =
    test-arms.exists_written (record { put = c.put.ensures }) (sym c.in-SomeTest.is ∙ c.sign_of.ensures) c.letter-bound.ensures c.test-in-SomeTest.ensures

pub test-returns-in_default : goal.test-returns-in_default
test-returns-in_default t c =
    let d = c.in_default in
    test-arms.diamond-written (record { put = c.put.ensures }) c.requires.marked.table c.second-middle-in_default.ensures c.test-in_default.ensures (walk_test c.requires.stands c.sign_of.ensures d.not-Constant d.not-NamedFluent d.not-Denial d.not-TwoTests d.not-SumFluent d.not-SomeTest) c.walk-done.ensures

pub walk-bounds-self-at : goal.walk-bounds-self-at
walk-bounds-self-at t c = asked.walk_in c.requires

pub walk-overflow_add-from : goal.walk-overflow_add-from
walk-overflow_add-from t c = omega (arith, asked.walk_in c.requires, c.well_formed)

pub walk-walk-requires : goal.walk-walk-requires
walk-walk-requires t c = (omega (arith, c.decreases, asked.walk_in c.requires), asked.conv_here c.requires (omega arith))

pub walk-returns-then-sign-eq45 : goal.walk-returns-then-sign-eq45
walk-returns-then-sign-eq45 t c = arms.conv_written c.if-sign-eq45.true c.args.back c.walk.ensures

pub walk-overflow_add-next : goal.walk-overflow_add-next
walk-overflow_add-next t c = omega (arith, asked.walk_room c.requires)

pub walk-number-requires : goal.walk-number-requires
walk-number-requires t c = asked.named_here c.requires (sym c.in-NamedStep.is ∙ c.sign_of.ensures)

pub walk-walk-requires-in-OverWalk : goal.walk-walk-requires-in-OverWalk
walk-walk-requires-in-OverWalk t c =
    (omega (arith, c.decreases, asked.walk_in c.requires), asked.star_here c.requires (sym c.in-OverWalk.is ∙ c.sign_of.ensures) (λ e. omega (arith, e)))

pub walk-test-requires : goal.walk-test-requires
walk-test-requires t c =
    (omega (arith, c.decreases, asked.walk_in c.requires), asked.check_here c.requires (sym c.in-OverTest.is ∙ c.sign_of.ensures))

pub walk-second-requires : goal.walk-second-requires
walk-second-requires t c = asked.walk_next c.requires

pub walk-walk-done-requires : goal.walk-walk-done-requires
walk-walk-done-requires t c =
    let d = c.in_default in
    let h = asked.first_here c.requires c.order-parts.result _ (rw c.second.ensures at c.order-parts.ensures) (two_walks c.requires.stands c.sign_of.ensures d.not-Step d.not-NamedStep d.not-OverWalk d.not-OverTest d.not-SumStep d.not-SomeWalk) in
    (omega (arith, c.decreases, asked.walk_in c.requires, h.1), h.0)

pub walk-walk-requires-in_default : goal.walk-walk-requires-in_default
walk-walk-requires-in_default t c =
    let d = c.in_default in
    let h = asked.second_here c.requires c.order-parts.result _ (rw c.second.ensures at c.order-parts.ensures) c.args.back (two_walks c.requires.stands c.sign_of.ensures d.not-Step d.not-NamedStep d.not-OverWalk d.not-OverTest d.not-SumStep d.not-SomeWalk) c.walk-done.ensures in
    (omega (arith, c.decreases, asked.walk_in c.requires, h.1), h.0)

pub walk-returns-in-Step : goal.walk-returns-in-Step
walk-returns-in-Step t c =
    arms.step_written c.args.back (record { put = rw c.facing.ensures at c.put.ensures }) (sym c.in-Step.is ∙ c.sign_of.ensures)

pub walk-returns-in-NamedStep : goal.walk-returns-in-NamedStep
walk-returns-in-NamedStep t c =
    arms.named_written c.args.back (record { put = rw c.facing.ensures at c.put.ensures }) (sym c.in-NamedStep.is ∙ c.sign_of.ensures) c.number.ensures

pub walk-returns-in-OverWalk : goal.walk-returns-in-OverWalk
walk-returns-in-OverWalk t c =
    arms.star_written c.args.back (record { put = rw c.facing.ensures at c.put.ensures }) (sym c.in-OverWalk.is ∙ c.sign_of.ensures) (λ e. omega (arith, e)) c.walk-in-OverWalk.ensures

pub walk-returns-in-OverTest : goal.walk-returns-in-OverTest
walk-returns-in-OverTest t c =
    arms.check_written c.args.back (record { put = rw c.facing.ensures at c.put.ensures }) (sym c.in-OverTest.is ∙ c.sign_of.ensures) c.test.ensures

pub walk-number-named-requires : goal.walk-number-named-requires
walk-number-named-requires t c = (asked.sum_here c.requires (sym c.in-SumStep.is ∙ c.sign_of.ensures)).0

pub walk-overflow_add-at : goal.walk-overflow_add-at
walk-overflow_add-at t c = omega (arith, asked.walk_next c.requires)

pub walk-letter-requires : goal.walk-letter-requires
walk-letter-requires t c = asked.letter_next c.args.to c.number-named.ensures (asked.sum_here c.requires (sym c.in-SumStep.is ∙ c.sign_of.ensures)).1

pub walk-letter-bound-requires : goal.walk-letter-bound-requires
walk-letter-bound-requires t c = (asked.pick_here c.requires (sym c.in-SomeWalk.is ∙ c.sign_of.ensures)).0

pub walk-overflow_add-at-in-SomeWalk : goal.walk-overflow_add-at-in-SomeWalk
walk-overflow_add-at-in-SomeWalk t c = omega (arith, asked.walk_next c.requires)

pub walk-walk-requires-in-SomeWalk : goal.walk-walk-requires-in-SomeWalk
walk-walk-requires-in-SomeWalk t c =
    (omega (arith, c.decreases, asked.walk_in c.requires), asked.walk_behind c.args.to c.letter-bound.ensures (asked.pick_here c.requires (sym c.in-SomeWalk.is ∙ c.sign_of.ensures)).1)

pub walk-returns-in-SumStep : goal.walk-returns-in-SumStep
walk-returns-in-SumStep t c =
    arms.sum_written c.args.back (record { put = rw c.facing.ensures at c.put.ensures }) (sym c.in-SumStep.is ∙ c.sign_of.ensures) c.number-named.ensures c.letter.ensures

pub walk-returns-in-SomeWalk : goal.walk-returns-in-SomeWalk
walk-returns-in-SomeWalk t c =
    arms.pick_written c.args.back (record { put = rw c.facing.ensures at c.put.ensures }) (sym c.in-SomeWalk.is ∙ c.sign_of.ensures) c.letter-bound.ensures c.walk-in-SomeWalk.ensures

pub walk-returns-in_default : goal.walk-returns-in_default
walk-returns-in_default t c =
    let d = c.in_default in
    arms.two_written c.args.back (record { put = rw c.facing.ensures at c.put.ensures }) c.requires.marked.table c.order-parts.result (rw c.second.ensures at c.order-parts.ensures) c.walk-done.ensures c.walk-in_default.ensures (two_walks c.requires.stands c.sign_of.ensures d.not-Step d.not-NamedStep d.not-OverWalk d.not-OverTest d.not-SumStep d.not-SomeWalk)

-- `reader::read_test` and `reader::read_walk` meet their contracts: one line of `Answers` for each sign. The measure of each is what is left of the text.
use mathlib.Core.Path.{refl}
use native.Mathlib.Omega.{arith}
use Rattle.rule.proofs.Answers as laws
use Rattle.rule.proofs.Named.{named_within}
use Rattle.rule.proofs.reader.+read_test_read_walk.Goals as goal

pub read_test-returns-then-text-at : goal.read_test-returns-then-text-at
read_test-returns-then-text-at t c = let a = c.args in laws.test_ends a.domain a.text.now a.at c.if-text-at.true

pub read_test-fluent-requires : goal.read_test-fluent-requires
read_test-fluent-requires t c = named_within _ _ 1 _ c.requires.0 (omega arith) c.two_digits.ensures

pub read_test-above-requires : goal.read_test-above-requires
read_test-above-requires t c = laws.shallow _ _ _ c.if-text-at.false c.requires _ _ _ (omega arith) c.read_test.ensures

pub read_test-beside-requires : goal.read_test-beside-requires
read_test-beside-requires t c =
    laws.both_shallow _ _ _ c.if-text-at.false c.requires _ _ _ _ c.in-Some.ensures c.read_test-second.ensures

pub read_test-beside-requires-in-WalkThenTest : goal.read_test-beside-requires-in-WalkThenTest
read_test-beside-requires-in-WalkThenTest t c =
    rw c.inside.ensures
    (laws.both_shallow _ _ _ c.if-text-at.false c.requires _ _ _ _ c.in-Some-read_walk.ensures c.read_test-second-in-WalkThenTest.ensures)

pub read_test-fluent-named-requires : goal.read_test-fluent-named-requires
read_test-fluent-named-requires t c = named_within _ _ _ _ c.requires.0 c.requires.1 c.two_digits-in-SumFluent.ensures

pub read_test-bound-requires : goal.read_test-bound-requires
read_test-bound-requires t c = (
  laws.letter_placed _ _ _ c.if-text-at.false c.requires _ _ c.variable_at-in-SomeTest.ensures,
  laws.shallow _ _ _ c.if-text-at.false c.requires _ _ _ (omega arith) c.read_test-part.ensures,
)

pub read_test-returns-in-Constant : goal.read_test-returns-in-Constant
read_test-returns-in-Constant t c = laws.test_constant _ _ _ c.if-text-at.false c.sign_of.ensures c.in-Constant.is c.leaf.ensures

pub read_test-returns-in-NamedFluent : goal.read_test-returns-in-NamedFluent
read_test-returns-in-NamedFluent t c =
    laws.test_named _ _ _ c.if-text-at.false c.sign_of.ensures c.in-NamedFluent.is _ c.two_digits.ensures c.fluent.ensures

pub read_test-returns-in-Denial : goal.read_test-returns-in-Denial
read_test-returns-in-Denial t c =
    laws.test_denial _ _ _ c.if-text-at.false c.sign_of.ensures c.in-Denial.is _ c.read_test.ensures c.above.ensures

pub read_test-returns-in_default-read_test : goal.read_test-returns-in_default-read_test
read_test-returns-in_default-read_test t c =
    laws.test_two_none c.args.domain c.args.text.now c.args.at c.if-text-at.false c.sign_of.ensures c.in-TwoTests.is c.in_default-read_test.ensures refl

pub read_test-returns-in-Some : goal.read_test-returns-in-Some
read_test-returns-in-Some t c =
    laws.test_two _ _ _ c.if-text-at.false c.sign_of.ensures c.in-TwoTests.is _ c.in-Some.ensures _ c.read_test-second.ensures c.beside.ensures

pub read_test-returns-in_default-read_walk : goal.read_test-returns-in_default-read_walk
read_test-returns-in_default-read_walk t c =
    laws.test_walk_none c.args.domain c.args.text.now c.args.at c.if-text-at.false c.sign_of.ensures c.in-WalkThenTest.is c.in_default-read_walk.ensures refl

pub read_test-returns-in-Some-read_walk : goal.read_test-returns-in-Some-read_walk
read_test-returns-in-Some-read_walk t c =
    laws.walk_of_test _ _ _ c.if-text-at.false c.sign_of.ensures c.in-WalkThenTest.is _ c.in-Some-read_walk.ensures c.inside.ensures
    _ c.read_test-second-in-WalkThenTest.ensures c.beside-in-WalkThenTest.ensures

pub read_test-returns-in-SumFluent : goal.read_test-returns-in-SumFluent
read_test-returns-in-SumFluent t c =
    laws.test_summed _ _ _ c.if-text-at.false c.sign_of.ensures c.in-SumFluent.is _ c.two_digits-in-SumFluent.ensures c.fluent-named.ensures
    _ c.variable_at.ensures c.lettered.ensures

pub read_test-returns-in-SomeTest : goal.read_test-returns-in-SomeTest
read_test-returns-in-SomeTest t c =
    laws.test_some _ _ _ c.if-text-at.false c.sign_of.ensures c.in-SomeTest.is _ c.variable_at-in-SomeTest.ensures _ c.read_test-part.ensures c.bound.ensures

pub read_test-returns-in_default : goal.read_test-returns-in_default
read_test-returns-in_default t c =
    let a = c.args in
    let d = c.in_default in
    laws.test_strange a.domain a.text.now a.at c.if-text-at.false c.sign_of.ensures
    (laws.no_test _ d.not-Constant d.not-NamedFluent d.not-Denial d.not-TwoTests d.not-WalkThenTest d.not-SumFluent d.not-SomeTest)

pub read_walk-returns-then-text-at : goal.read_walk-returns-then-text-at
read_walk-returns-then-text-at t c = let a = c.args in laws.walk_ends a.domain a.text.now a.at c.if-text-at.true

pub read_walk-step-requires : goal.read_walk-step-requires
read_walk-step-requires t c = named_within _ _ 1 _ c.requires.0 (omega arith) c.two_digits.ensures

pub read_walk-above-requires : goal.read_walk-above-requires
read_walk-above-requires t c = laws.shallow _ _ _ c.if-text-at.false c.requires _ _ _ (omega arith) c.read_walk.ensures

pub read_walk-above-requires-in-OverTest : goal.read_walk-above-requires-in-OverTest
read_walk-above-requires-in-OverTest t c = laws.shallow _ _ _ c.if-text-at.false c.requires _ _ _ (omega arith) c.read_test.ensures

pub read_walk-beside-requires : goal.read_walk-beside-requires
read_walk-beside-requires t c =
    laws.both_shallow _ _ _ c.if-text-at.false c.requires _ _ _ _ c.in-Some.ensures c.read_walk-second.ensures

pub read_walk-step-named-requires : goal.read_walk-step-named-requires
read_walk-step-named-requires t c = named_within _ _ _ _ c.requires.0 c.requires.1 c.two_digits-in-SumStep.ensures

pub read_walk-bound-requires : goal.read_walk-bound-requires
read_walk-bound-requires t c = (
  laws.letter_placed _ _ _ c.if-text-at.false c.requires _ _ c.variable_at-in-SomeWalk.ensures,
  laws.shallow _ _ _ c.if-text-at.false c.requires _ _ _ (omega arith) c.read_walk-part.ensures,
)

pub read_walk-returns-in-Step : goal.read_walk-returns-in-Step
read_walk-returns-in-Step t c = laws.walk_alone _ _ _ c.if-text-at.false c.sign_of.ensures c.in-Step.is c.turns.ensures c.leaf.ensures

pub read_walk-returns-in-NamedStep : goal.read_walk-returns-in-NamedStep
read_walk-returns-in-NamedStep t c =
    laws.walk_named _ _ _ c.if-text-at.false c.sign_of.ensures c.in-NamedStep.is _ c.two_digits.ensures c.turns-in-NamedStep.ensures c.step.ensures

pub read_walk-returns-in-OverWalk : goal.read_walk-returns-in-OverWalk
read_walk-returns-in-OverWalk t c =
    laws.walk_over_walk _ _ _ c.if-text-at.false c.sign_of.ensures c.in-OverWalk.is _ c.read_walk.ensures c.turns-in-OverWalk.ensures c.above.ensures

pub read_walk-returns-in-OverTest : goal.read_walk-returns-in-OverTest
read_walk-returns-in-OverTest t c =
    laws.walk_over_test _ _ _ c.if-text-at.false c.sign_of.ensures c.in-OverTest.is _ c.read_test.ensures c.above-in-OverTest.ensures

pub read_walk-returns-in_default-read_walk : goal.read_walk-returns-in_default-read_walk
read_walk-returns-in_default-read_walk t c =
    laws.walk_two_none c.args.domain c.args.text.now c.args.at c.if-text-at.false c.sign_of.ensures c.in-TwoWalks.is c.in_default-read_walk.ensures refl

pub read_walk-returns-in-Some : goal.read_walk-returns-in-Some
read_walk-returns-in-Some t c =
    laws.walk_two _ _ _ c.if-text-at.false c.sign_of.ensures c.in-TwoWalks.is _ c.in-Some.ensures _ c.read_walk-second.ensures c.beside.ensures

pub read_walk-returns-in-SumStep : goal.read_walk-returns-in-SumStep
read_walk-returns-in-SumStep t c =
    laws.walk_sum _ _ _ c.if-text-at.false c.sign_of.ensures c.in-SumStep.is _ c.two_digits-in-SumStep.ensures c.turns-in-SumStep.ensures c.step-named.ensures
    _ c.variable_at.ensures c.lettered.ensures

pub read_walk-returns-in-SomeWalk : goal.read_walk-returns-in-SomeWalk
read_walk-returns-in-SomeWalk t c =
    laws.walk_some _ _ _ c.if-text-at.false c.sign_of.ensures c.in-SomeWalk.is _ c.variable_at-in-SomeWalk.ensures _ c.read_walk-part.ensures c.bound.ensures

pub read_walk-returns-in_default : goal.read_walk-returns-in_default
read_walk-returns-in_default t c =
    let a = c.args in
    let d = c.in_default in
    laws.walk_strange a.domain a.text.now a.at c.if-text-at.false c.sign_of.ensures
    (laws.no_walk _ d.not-Step d.not-NamedStep d.not-OverWalk d.not-OverTest d.not-TwoWalks d.not-SumStep d.not-SomeWalk)

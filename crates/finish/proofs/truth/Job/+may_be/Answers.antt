-- `finish::truth::Job::may_be` meets its contract: a line for each need, by the law of its sign. The measure is the text that is left.
use mathlib.Core.Path.{refl}
use native.Mathlib.Omega.{arith}
use Rattle.grammar.proofs.Spread.{within}
use Rattle.runs.proofs.Calls.{neg_part, both_first, both_second, exists_part}
use Rattle.finish.proofs.May.{always_may, on_may, off_may, neg_may, both_may, exists_may}
use Rattle.finish.proofs.truth.Job.+may_be.Goals as goal
use Rattle.finish.proofs.truth.Job.+may_be.Goals.{then-truth, else-truth}

pub overflow_add-part : goal.overflow_add-part
overflow_add-part t c = omega (arith, within c.requires.stands)

pub bounds-self-at : goal.bounds-self-at
bounds-self-at t c = within c.requires.stands

pub may_be-requires : goal.may_be-requires
may_be-requires t c =
    (omega (arith, within c.requires.stands, c.decreases), neg_part c.requires c.in-33.is)

pub second-other-requires : goal.second-other-requires
second-other-requires t c = omega (arith, (both_second c.requires c.in-38.is).inside)

pub may_be-one-requires : goal.may_be-one-requires
may_be-one-requires t c =
    (omega (arith, within c.requires.stands, c.decreases), both_first c.requires c.in-38.is)

pub may_be-two-requires : goal.may_be-two-requires
may_be-two-requires t c =
    let next = (both_second c.requires c.in-38.is).there c.second-other.result c.second-other.ensures in
    (omega (arith, within c.requires.stands, c.decreases, next.0), next.1)

pub may_be-requires-else-not-truth : goal.may_be-requires-else-not-truth
may_be-requires-else-not-truth t c =
    (omega (arith, within c.requires.stands, c.decreases), exists_part c.requires c.in-101.is)

pub returns-in-49 : goal.returns-in-49
returns-in-49 t c = always_may _ _ c.args.truth c.in-49.is

pub returns-after-truth : goal.returns-after-truth
returns-after-truth t c =
    let turning = c.args.turning in
    elim c.if-truth.branch [
      | then-truth w ↦ rw w.if-truth.true (on_may turning.ons turning.offs c.in-102.is (rw w.fluents-is at c.named_among.ensures))
      | else-truth w ↦ rw w.if-truth.false (off_may turning.ons turning.offs c.in-102.is (rw w.fluents-is at c.named_among.ensures))
    ]

pub returns-in-33 : goal.returns-in-33
returns-in-33 t c = neg_may _ _ c.args.truth c.in-33.is c.may_be.ensures

pub returns-then-one : goal.returns-then-one
returns-then-one t c =
    both_may _ _ c.requires.marked c.second-other.ensures c.args.truth c.may_be-one.result c.may_be-two.result
    c.in-38.is (rw (c.if-truth-2.true, c.if-one.true) refl) c.may_be-one.ensures c.may_be-two.ensures

pub returns-else-one : goal.returns-else-one
returns-else-one t c =
    both_may _ _ c.requires.marked c.second-other.ensures c.args.truth c.may_be-one.result c.may_be-two.result
    c.in-38.is (rw (c.if-truth-2.true, c.if-one.false) refl) c.may_be-one.ensures c.may_be-two.ensures

pub returns-else-one-2 : goal.returns-else-one-2
returns-else-one-2 t c =
    both_may _ _ c.requires.marked c.second-other.ensures c.args.truth c.may_be-one.result c.may_be-two.result
    c.in-38.is (rw (c.if-truth-2.false, c.if-one-2.false) refl) c.may_be-one.ensures c.may_be-two.ensures

pub returns-else-not-truth : goal.returns-else-not-truth
returns-else-not-truth t c = rw c.if-not-truth.false (exists_may _ _ c.in-101.is c.may_be-else-not-truth.ensures)

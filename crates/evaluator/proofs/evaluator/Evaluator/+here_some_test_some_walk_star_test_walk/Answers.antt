-- The proof of the evaluator's cycle of calls {here, some_test, some_walk, star, test, walk}: a line for each need, by the laws of Calls (what stands behind a
-- sign), Found (what the parts' answers make, and what is kept), Rounds and Chosen (what the loops hold). The measure is the text that is left, twice; `star`,
-- `here` and the binders are called at the walk's or the test's own place, so they have one less.
use Prim.Native.Nat.{ℕ}
use native.Mathlib.Omega.{arith}
use mathlib.Core.Path.{◌≡◌, refl, ◌∙◌}
use lib.ListN.{get_or}
use mathlib.Core.Logic.{inl, inr}
use mathlib.Core.Bool.{not}
use Rattle.laws.proofs.Truth.{off_on}
use Rattle.positions.specs.Positions.{holds, Empty}
use Rattle.positions.proofs.Held.{nothing_held}
use Rattle.grammar.proofs.Spread.{within}
use Rattle.runs.proofs.Calls.{end_inside, end_after, left_over, seq_second, seq_either_here, alt_first, alt_second, star_part, check_part, conv_part, pick_part, pick_binder, leaf_part}
use Rattle.runs.proofs.Calls.{fluent_number, sum_fluent_here, neg_part, both_first, both_second, diamond_first, diamond_second, exists_part, exists_binder, last_sign}
use Rattle.runs.proofs.Leaf.{fluent_found, sum_fluent_found}
use Rattle.runs.proofs.Found.{seq_either, alt_kept, conv_kept, leaf_kept, run_kept, run_here, leaf_tested, always_found, neg_kept, both_kept, diamond_kept}
use Rattle.runs.proofs.Rounds.{rounds_start, rounds_more, rounds_done, sifting_start, sifting_more, sifting_done}
use Rattle.runs.proofs.Chosen.{choosing_start, choosing_more, choosing_done, nowhere_walked, sorting_start, sorting_more, sorting_done}
use Rattle.runs.proofs.Loops.{round_falls, left_falls}
use Rattle.evaluator.proofs.evaluator.Evaluator.+here_some_test_some_walk_star_test_walk.Goals as goal
use Rattle.evaluator.proofs.evaluator.Evaluator.+here_some_test_some_walk_star_test_walk.Goals.{test-In_default}

pub here-second-end-requires : goal.here-second-end-requires
here-second-end-requires t c =
    let part = check_part c.requires.0 c.requires.1 in
    omega (arith, end_inside part.marked part.stands (omega arith))

pub here-loop-left-init : goal.here-loop-left-init
here-loop-left-init t c =
    (refl, sifting_start c.requires.1 c.kept-held.ensures c.kept-denied.ensures c.join-asked.ensures c.without-left.ensures)

pub here-renew-requires : goal.here-renew-requires
here-renew-requires t c =
    let part = check_part c.requires.0 c.requires.1 in
    end_after part.marked part.stands c.second-end.result c.second-end.ensures

pub here-test-there-requires : goal.here-test-there-requires
here-test-there-requires t c =
    (omega (arith, c.decreases, within c.requires.0.stands), check_part c.requires.0 c.requires.1)

pub here-renew-requires-in-loop-left : goal.here-renew-requires-in-loop-left
here-renew-requires-in-loop-left t c =
    let part = check_part c.requires.0 c.requires.1 in
    end_after part.marked part.stands c.second-end.result c.second-end.ensures

pub here-loop-left-smaller : goal.here-loop-left-smaller
here-loop-left-smaller t c =
    let turn = c.next_turn-own.ensures.together in
    left_falls c.loop-left.left c.next_turn-own.result.these c.without-left-in-loop-left.result turn.some.0 (turn.within turn.some.0 turn.some.1) turn.some.1 c.without-left-in-loop-left.ensures

pub here-loop-left-preserved : goal.here-loop-left-preserved
here-loop-left-preserved t c =
    let part = check_part c.requires.0 c.requires.1 in (
      c.renew-in-loop-left.auto.slots ∙ c.test-there.auto.slots ∙ c.renew.auto.slots ∙ c.loop-left.invariant.0,
      sifting_more part.marked c.second-end.ensures c.next_turn-own.ensures.together c.inside-inner.ensures c.renew.ensures.renewed c.test-there.ensures c.renew-in-loop-left.ensures.renewed c.join-held.ensures c.without-left-in-loop-left.ensures c.loop-left.invariant.1,
    )

pub here-returns : goal.here-returns
here-returns t c =
    sifting_done c.requires.1 (c.is_empty.ensures.0 c.loop-left-test.false) c.loop-left.invariant.1 c.join-all.ensures c.without-rest.ensures c.keep.ensures c.keep-2.ensures c.meet.ensures

pub some_test-second-end-requires : goal.some_test-second-end-requires
some_test-second-end-requires t c =
    let part = exists_part c.requires.0 c.requires.1 in
    omega (arith, end_inside part.marked part.stands (omega arith))

pub some_test-place_of-place-requires : goal.some_test-place_of-place-requires
some_test-place_of-place-requires t c =
    (exists_binder c.requires.0 c.requires.1 c.second-end.result c.second-end.ensures).here.letter

pub some_test-turns-many-requires : goal.some_test-turns-many-requires
some_test-turns-many-requires t c =
    ((exists_binder c.requires.0 c.requires.1 c.second-end.result c.second-end.ensures).here, c.requires.0.marked)

pub some_test-forget-requires : goal.some_test-forget-requires
some_test-forget-requires t c =
    (exists_binder c.requires.0 c.requires.1 c.second-end.result c.second-end.ensures).onward

pub some_test-loop-next-init : goal.some_test-loop-next-init
some_test-loop-next-init t c = (refl, sorting_start nothing_held c.forget.ensures.forgotten.none)

pub some_test-returns-then-is_empty : goal.some_test-returns-then-is_empty
some_test-returns-then-is_empty t c =
    sorting_done c.requires.1 (exists_binder c.requires.0 c.requires.1 c.second-end.result c.second-end.ensures).here c.turns-many.ensures c.forget.ensures.forgotten (omega arith) (inr (c.is_empty.ensures.0 c.if-is_empty.true)) c.loop-next.invariant.1

pub some_test-test-there-requires : goal.some_test-test-there-requires
some_test-test-there-requires t c =
    let part = exists_part c.requires.0 c.requires.1 in
    (omega (arith, c.decreases, within part.stands), part)

pub some_test-forget-requires-in-loop-next : goal.some_test-forget-requires-in-loop-next
some_test-forget-requires-in-loop-next t c =
    (exists_binder c.requires.0 c.requires.1 c.second-end.result c.second-end.ensures).onward

pub some_test-loop-next-preserved : goal.some_test-loop-next-preserved
some_test-loop-next-preserved t c = (
  c.forget-in-loop-next.auto.slots ∙ c.test-there.auto.slots ∙ c.loop-next.invariant.0,
  sorting_more c.place_of-place.ensures.1 c.rebound-inner.ensures c.test-there.ensures c.forget-in-loop-next.ensures.forgotten c.join-found.ensures c.without-left.ensures c.loop-next.invariant.1,
)

pub some_test-returns : goal.some_test-returns
some_test-returns t c =
    sorting_done c.requires.1 (exists_binder c.requires.0 c.requires.1 c.second-end.result c.second-end.ensures).here c.turns-many.ensures c.forget.ensures.forgotten (omega arith) (inl (omega arith)) c.loop-next.invariant.1

pub some_walk-returns-then-is_empty : goal.some_walk-returns-then-is_empty
some_walk-returns-then-is_empty t c = nowhere_walked (c.is_empty.ensures.0 c.if-is_empty.true) nothing_held

pub some_walk-second-end-requires : goal.some_walk-second-end-requires
some_walk-second-end-requires t c =
    let part = pick_part c.requires.0 c.requires.1 in
    omega (arith, end_inside part.marked part.stands (omega arith))

pub some_walk-place_of-place-requires : goal.some_walk-place_of-place-requires
some_walk-place_of-place-requires t c =
    (pick_binder c.requires.0 c.requires.1 c.second-end.result c.second-end.ensures).here.letter

pub some_walk-turns-many-requires : goal.some_walk-turns-many-requires
some_walk-turns-many-requires t c =
    ((pick_binder c.requires.0 c.requires.1 c.second-end.result c.second-end.ensures).here, c.requires.0.marked)

pub some_walk-forget-requires : goal.some_walk-forget-requires
some_walk-forget-requires t c =
    (pick_binder c.requires.0 c.requires.1 c.second-end.result c.second-end.ensures).onward

pub some_walk-loop-value-init : goal.some_walk-loop-value-init
some_walk-loop-value-init t c = (refl, choosing_start nothing_held c.forget.ensures.forgotten.none)

pub some_walk-walk-there-requires : goal.some_walk-walk-there-requires
some_walk-walk-there-requires t c =
    let part = pick_part c.requires.0 c.requires.1 in
    (omega (arith, c.decreases, within part.stands), part)

pub some_walk-forget-requires-in-loop-value : goal.some_walk-forget-requires-in-loop-value
some_walk-forget-requires-in-loop-value t c =
    (pick_binder c.requires.0 c.requires.1 c.second-end.result c.second-end.ensures).onward

pub some_walk-loop-value-preserved : goal.some_walk-loop-value-preserved
some_walk-loop-value-preserved t c = (
  c.forget-in-loop-value.auto.slots ∙ c.walk-there.auto.slots ∙ c.loop-value.invariant.0,
  choosing_more c.place_of-place.ensures.1 c.rebound-inner.ensures c.walk-there.ensures c.forget-in-loop-value.ensures.forgotten c.join-found.ensures c.loop-value.invariant.1,
)

pub some_walk-returns : goal.some_walk-returns
some_walk-returns t c =
    choosing_done c.requires.1 (pick_binder c.requires.0 c.requires.1 c.second-end.result c.second-end.ensures).here c.turns-many.ensures c.forget.ensures.forgotten (omega arith) c.loop-value.invariant.1

pub star-loop-new-init : goal.star-loop-new-init
star-loop-new-init t c =
    (refl, rounds_start (holds c.args.from) c.kept-seen.ensures c.without-new.ensures)

pub star-walk-more-requires : goal.star-walk-more-requires
star-walk-more-requires t c =
    (omega (arith, c.decreases, within c.requires.0.stands), star_part c.requires.0 c.requires.1)

pub star-loop-new-smaller : goal.star-loop-new-smaller
star-loop-new-smaller t c =
    let loop = c.loop-new in
    let some : Empty loop.new → ⊥ = λ none. off_on c.loop-new-test.true (c.is_empty.ensures.1 none) in
    round_falls loop.seen loop.new c.join-seen.result c.join-seen.ensures some loop.invariant.1.apart

pub star-loop-new-preserved : goal.star-loop-new-preserved
star-loop-new-preserved t c =
    (c.walk-more.auto.slots ∙ c.loop-new.invariant.0, rounds_more c.loop-new.invariant.1 c.join-seen.ensures c.walk-more.ensures c.without-new-in-loop-new.ensures)

pub star-returns : goal.star-returns
star-returns t c =
    rounds_done c.requires.1 c.kept-seen.ensures c.without-new.ensures (c.is_empty.ensures.0 c.loop-new-test.false) c.loop-new.invariant.1 c.keep.ensures

pub test-bounds-self-at : goal.test-bounds-self-at
test-bounds-self-at t c = within c.requires.stands

pub test-overflow_add-part : goal.test-overflow_add-part
test-overflow_add-part t c =
    omega (arith, within c.requires.stands)

pub test-row-shown-requires : goal.test-row-shown-requires
test-row-shown-requires t c = (fluent_number c.requires c.in-102.is, omega arith)

pub test-test-there-requires : goal.test-test-there-requires
test-test-there-requires t c =
    (omega (arith, c.decreases, within c.requires.stands), neg_part c.requires c.in-33.is)

pub test-second-other-requires : goal.test-second-other-requires
test-second-other-requires t c = omega (arith, (both_second c.requires c.in-38.is).inside)

pub test-test-one-requires : goal.test-test-one-requires
test-test-one-requires t c =
    (omega (arith, c.decreases, within c.requires.stands), both_first c.requires c.in-38.is)

pub test-test-requires : goal.test-test-requires
test-test-requires t c =
    let (after, here) = (both_second c.requires c.in-38.is).there c.second-other.result c.second-other.ensures in
    (omega (arith, c.decreases, within c.requires.stands, after), here)

pub test-sum_row-shown-requires : goal.test-sum_row-shown-requires
test-sum_row-shown-requires t c = (sum_fluent_here c.requires c.in-103.is, omega arith)

-- the sign that is left is `<`
diamond_sign : (t : ℕ) (c : test-In_default t) → get_or c.args.self.now.text.now c.args.at 0 ≡ 60
diamond_sign t c =
    let none = c.in_default.in_default-own.rest in
    last_sign c.requires none.0.0.0.0.0.1 none.0.0.0.0.1 none.0.0.0.1 none.0.0.1 none.0.1 none.1

pub test-second-other-requires-in_default : goal.test-second-other-requires-in_default
test-second-other-requires-in_default t c =
    let sign = diamond_sign t (goal.at.test-second-other-requires-in_default t c).In_default in
    omega (arith, (diamond_second c.requires sign).inside)

pub test-test-there-requires-in_default : goal.test-test-there-requires-in_default
test-test-there-requires-in_default t c =
    let sign = diamond_sign t (goal.at.test-test-there-requires-in_default t c).In_default in
    let (after, here) = (diamond_second c.requires sign).there c.second-other-in_default.result c.second-other-in_default.ensures in
    (omega (arith, c.decreases, within c.requires.stands, after), here)

pub test-clear-requires : goal.test-clear-requires
test-clear-requires t c =
    let sign = diamond_sign t (goal.at.test-clear-requires t c).In_default in
    let (after, here) = (diamond_second c.requires sign).there c.second-other-in_default.result c.second-other-in_default.ensures in
    (omega (arith, after), omega (arith, within here.stands))

pub test-walk-starts-requires : goal.test-walk-starts-requires
test-walk-starts-requires t c =
    let sign = diamond_sign t (goal.at.test-walk-starts-requires t c).In_default in
    (omega (arith, c.decreases, within c.requires.stands), diamond_first c.requires sign)

pub test-returns-in-49 : goal.test-returns-in-49
test-returns-in-49 t c = leaf_tested (always_found c.in-49.is)

pub test-returns-in-102 : goal.test-returns-in-102
test-returns-in-102 t c =
    leaf_tested (fluent_found (holds c.row-shown.result) c.in-102.is c.row-shown.ensures c.meet.ensures)

pub test-returns-in-33 : goal.test-returns-in-33
test-returns-in-33 t c =
    neg_kept c.in-33.is c.test-there.ensures c.without.ensures

pub test-returns-in-38 : goal.test-returns-in-38
test-returns-in-38 t c =
    both_kept c.requires.marked c.second-other.ensures c.in-38.is c.test-one.ensures c.test.ensures

pub test-returns-in-103 : goal.test-returns-in-103
test-returns-in-103 t c =
    leaf_tested (sum_fluent_found (holds c.sum_row-shown.result) c.in-103.is c.sum_row-shown.ensures c.meet-in-103.ensures)

pub test-returns-in_default : goal.test-returns-in_default
test-returns-in_default t c =
    let sign = diamond_sign t (goal.at.test-returns-in_default t c).In_default in
    diamond_kept c.requires.marked c.second-other-in_default.ensures (holds c.up_to-all.result) sign c.up_to-all.ensures c.test-there-in_default.ensures c.clear.ensures.cleared c.walk-starts.ensures c.meet-in_default.ensures

pub walk-bounds-self-at : goal.walk-bounds-self-at
walk-bounds-self-at t c = within c.requires.stands

pub walk-overflow_add-part : goal.walk-overflow_add-part
walk-overflow_add-part t c =
    omega (arith, within c.requires.stands)

pub walk-second-other-requires : goal.walk-second-other-requires
walk-second-other-requires t c = omega (arith, (seq_second c.requires c.in-59.is).inside)

pub walk-walk-middle-requires : goal.walk-walk-middle-requires
walk-walk-middle-requires t c =
    let (after, here) = seq_either_here c.requires c.in-59.is c.second-other.result c.second-other.ensures c.args.back c.turned-first.result c.turned-first.ensures in
    (omega (arith, c.decreases, within c.requires.stands, after), here)

pub walk-walk-requires : goal.walk-walk-requires
walk-walk-requires t c =
    let (after, here) = seq_either_here c.requires c.in-59.is c.second-other.result c.second-other.ensures (not c.args.back) c.turned-then.result c.turned-then.ensures in
    (omega (arith, c.decreases, within c.requires.stands, after), here)

pub walk-second-other-requires-in-124 : goal.walk-second-other-requires-in-124
walk-second-other-requires-in-124 t c = omega (arith, (alt_second c.requires c.in-124.is).inside)

pub walk-walk-one-requires : goal.walk-walk-one-requires
walk-walk-one-requires t c =
    (omega (arith, c.decreases, within c.requires.stands), alt_first c.requires c.in-124.is)

pub walk-walk-two-requires : goal.walk-walk-two-requires
walk-walk-two-requires t c =
    let (after, here) = (alt_second c.requires c.in-124.is).there c.second-other-in-124.result c.second-other-in-124.ensures in
    (omega (arith, c.decreases, within c.requires.stands, after), here)

pub walk-star-requires : goal.walk-star-requires
walk-star-requires t c =
    (omega (arith, c.decreases, within c.requires.stands, c.last_star-last.ensures.onward), run_here c.requires c.in-42.is c.last_star-last.ensures)

pub walk-walk-requires-in-45 : goal.walk-walk-requires-in-45
walk-walk-requires-in-45 t c =
    (omega (arith, c.decreases, within c.requires.stands), conv_part c.requires c.in-45.is)

pub walk-leaf-requires : goal.walk-leaf-requires
walk-leaf-requires t c = leaf_part c.requires (left_over c.in_default.in_default-own.rest)

pub walk-returns-in-59 : goal.walk-returns-in-59
walk-returns-in-59 t c =
    seq_either c.requires.marked c.second-other.ensures c.in-59.is c.turned-first.ensures c.turned-then.ensures c.walk-middle.ensures c.walk.ensures

pub walk-returns-in-124 : goal.walk-returns-in-124
walk-returns-in-124 t c =
    alt_kept c.requires.marked c.second-other-in-124.ensures c.in-124.is c.walk-one.ensures c.walk-two.ensures c.join.ensures

pub walk-returns-in-42 : goal.walk-returns-in-42
walk-returns-in-42 t c =
    run_kept c.in-42.is c.last_star-last.ensures c.star.ensures

pub walk-returns-in-45 : goal.walk-returns-in-45
walk-returns-in-45 t c = conv_kept c.in-45.is c.walk-in-45.ensures

pub walk-returns-in_default : goal.walk-returns-in_default
walk-returns-in_default t c = leaf_kept (left_over c.in_default.in_default-own.rest) c.leaf.ensures

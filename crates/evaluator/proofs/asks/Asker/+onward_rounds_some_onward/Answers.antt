-- The proof of the cycle of calls {onward, rounds, some_onward}: a line for each need, by the laws of Calls (what stands behind a sign), Signs, Heard and Chosen
-- (where the parts lead and what they ask for). The measure is the text that is left, twice; `rounds` and `some_onward` are called at the walk's own place, so
-- they have one less.
use Prim.Native.Nat.{◌+◌}
use native.Mathlib.Nat.{add-zero}
use native.Mathlib.Omega.{arith}
use mathlib.Core.Path.{refl, ap, ap₂, ◌∙◌}
use lib.Dec.{eqb}
use Rattle.laws.proofs.Truth.{off_on}
use Rattle.positions.specs.Positions.{holds, Empty}
use Rattle.positions.proofs.Held.{nothing_held}
use Rattle.grammar.proofs.Spread.{within}
use Rattle.runs.proofs.Calls.{end_inside, seq_first, seq_second, alt_first, alt_second, star_part, pick_part, pick_binder, leaf_part}
use Rattle.runs.proofs.Found.{run_here}
use Rattle.runs.proofs.Heard.{speaking_start, speaking_more, speaking_done, seq_asked, alt_asked, run_asked}
use Rattle.runs.proofs.Chosen.{posing_start, posing_more, posing_done, nowhere_asked}
use Rattle.runs.proofs.Signs.{act_number, sum_number, plain_sign, act_found, sum_found, next_found, leaf_asked, quiet_asked}
use Rattle.runs.proofs.Loops.{round_falls}
use Rattle.evaluator.proofs.asks.Asker.+onward_rounds_some_onward.Goals as goal

pub onward-bounds-text-at : goal.onward-bounds-text-at
onward-bounds-text-at t c = within c.requires.stands

pub onward-overflow_add-part : goal.onward-overflow_add-part
onward-overflow_add-part t c =
    omega (arith, within c.requires.stands)

pub onward-named-a-requires : goal.onward-named-a-requires
onward-named-a-requires t c = act_number c.requires c.in-97.is

pub onward-step-requires : goal.onward-step-requires
onward-step-requires t c =
    leaf_part c.requires (plain_sign c.in-97.is refl)

pub onward-step-requires-in-110 : goal.onward-step-requires-in-110
onward-step-requires-in-110 t c =
    leaf_part c.requires (plain_sign c.in-110.is refl)

pub onward-second-next-requires : goal.onward-second-next-requires
onward-second-next-requires t c = omega (arith, (seq_second c.requires c.in-59.is).inside)

pub onward-onward-first-requires : goal.onward-onward-first-requires
onward-onward-first-requires t c =
    (omega (arith, c.decreases, within c.requires.stands), seq_first c.requires c.in-59.is)

pub onward-onward-then-requires : goal.onward-onward-then-requires
onward-onward-then-requires t c =
    let (after, here) = (seq_second c.requires c.in-59.is).there c.second-next.result c.second-next.ensures in
    (omega (arith, c.decreases, within c.requires.stands, after), here)

pub onward-second-next-requires-in-124 : goal.onward-second-next-requires-in-124
onward-second-next-requires-in-124 t c = omega (arith, (alt_second c.requires c.in-124.is).inside)

pub onward-onward-first-requires-in-124 : goal.onward-onward-first-requires-in-124
onward-onward-first-requires-in-124 t c =
    (omega (arith, c.decreases, within c.requires.stands), alt_first c.requires c.in-124.is)

pub onward-onward-or-requires : goal.onward-onward-or-requires
onward-onward-or-requires t c =
    let (after, here) = (alt_second c.requires c.in-124.is).there c.second-next-in-124.result c.second-next-in-124.ensures in
    (omega (arith, c.decreases, within c.requires.stands, after), here)

pub onward-rounds-requires : goal.onward-rounds-requires
onward-rounds-requires t c =
    let last = c.last_star-last.ensures in
    (omega (arith, c.decreases, within c.requires.stands, last.onward), run_here c.requires c.in-42.is last)

pub onward-named-a-requires-in-98 : goal.onward-named-a-requires-in-98
onward-named-a-requires-in-98 t c = (sum_number c.requires c.in-98.is).0

pub onward-value_of-value-requires : goal.onward-value_of-value-requires
onward-value_of-value-requires t c = (sum_number c.requires c.in-98.is).1

pub onward-step-requires-in-98 : goal.onward-step-requires-in-98
onward-step-requires-in-98 t c =
    leaf_part c.requires (plain_sign c.in-98.is refl)

pub onward-returns-in-97 : goal.onward-returns-in-97
onward-returns-in-97 t c =
    let sign = c.in-97.is in
    let bit = c.one-these in
    leaf_asked
    (plain_sign sign refl)
    c.step.ensures.reached
    (act_found bit.result refl sign (λ n stands a h. bit.ensures a h ∙ ap (eqb a) (add-zero _ ∙ c.named-a.ensures n stands)) c.step.ensures.asked)

pub onward-returns-in-110 : goal.onward-returns-in-110
onward-returns-in-110 t c =
    let sign = c.in-110.is in
    leaf_asked (plain_sign sign refl) c.step-in-110.ensures.reached (next_found refl sign c.step-in-110.ensures.asked)

pub onward-returns-in-59 : goal.onward-returns-in-59
onward-returns-in-59 t c =
    seq_asked c.requires.marked c.second-next.ensures c.in-59.is c.onward-first.ensures c.onward-then.ensures

pub onward-returns-in-124 : goal.onward-returns-in-124
onward-returns-in-124 t c =
    alt_asked c.requires.marked c.second-next-in-124.ensures c.in-124.is c.onward-first-in-124.ensures c.onward-or.ensures c.join.ensures

pub onward-returns-in-42 : goal.onward-returns-in-42
onward-returns-in-42 t c =
    run_asked c.in-42.is c.last_star-last.ensures c.rounds.ensures

pub onward-returns-in-98 : goal.onward-returns-in-98
onward-returns-in-98 t c =
    let sign = c.in-98.is in
    let bit = c.one-these-in-98 in
    leaf_asked
    (plain_sign sign refl)
    c.step-in-98.ensures.reached
    (sum_found bit.result refl sign (λ n v stands l a h. bit.ensures a h ∙ ap (eqb a) (ap₂ ◌+◌ (c.named-a-in-98.ensures n stands) (c.value_of-value.ensures v l))) c.step-in-98.ensures.asked)

pub onward-returns-in_default : goal.onward-returns-in_default
onward-returns-in_default t c =
    let none = c.in_default.in_default-own.rest in
    quiet_asked none.0.0.0.0.0.0.1 none.0.0.0.0.0.1 none.0.0.0.0.1 none.0.0.0.1 none.0.0.1 none.0.1 none.1 c.walk-reached.ensures

pub rounds-overflow_add-part : goal.rounds-overflow_add-part
rounds-overflow_add-part t c =
    let part = star_part c.requires.0 c.requires.1 in
    omega (arith, end_inside part.marked part.stands (omega arith))

pub rounds-loop-new-init : goal.rounds-loop-new-init
rounds-loop-new-init t c =
    (refl, speaking_start (holds c.args.from) c.kept-seen.ensures c.without-new.ensures)

pub rounds-onward-round-requires : goal.rounds-onward-round-requires
rounds-onward-round-requires t c =
    (omega (arith, c.decreases, within c.requires.0.stands), star_part c.requires.0 c.requires.1)

pub rounds-loop-new-smaller : goal.rounds-loop-new-smaller
rounds-loop-new-smaller t c =
    let loop = c.loop-new in
    let some : Empty loop.new → ⊥ = λ none. off_on c.loop-new-test.true (c.is_empty.ensures.1 none) in
    round_falls loop.seen loop.new c.join-seen.result c.join-seen.ensures some loop.invariant.1.rounds.apart

pub rounds-loop-new-preserved : goal.rounds-loop-new-preserved
rounds-loop-new-preserved t c =
    (c.onward-round.auto.slots ∙ c.loop-new.invariant.0, speaking_more c.loop-new.invariant.1 c.join-seen.ensures c.onward-round.ensures c.without-new-in-loop-new.ensures)

pub rounds-returns : goal.rounds-returns
rounds-returns t c =
    speaking_done c.requires.1 c.kept-seen.ensures c.without-new.ensures (c.is_empty.ensures.0 c.loop-new-test.false) c.loop-new.invariant.1 c.keep.ensures

pub some_onward-returns-then-is_empty : goal.some_onward-returns-then-is_empty
some_onward-returns-then-is_empty t c =
    nowhere_asked c.requires.1 (c.is_empty.ensures.0 c.if-is_empty.true) nothing_held

pub some_onward-second-last-requires : goal.some_onward-second-last-requires
some_onward-second-last-requires t c =
    let part = pick_part c.requires.0 c.requires.1 in
    omega (arith, end_inside part.marked part.stands (omega arith))

pub some_onward-place_of-place-requires : goal.some_onward-place_of-place-requires
some_onward-place_of-place-requires t c =
    (pick_binder c.requires.0 c.requires.1 c.second-last.result c.second-last.ensures).here.letter

pub some_onward-turns-many-requires : goal.some_onward-turns-many-requires
some_onward-turns-many-requires t c =
    ((pick_binder c.requires.0 c.requires.1 c.second-last.result c.second-last.ensures).here, c.requires.0.marked)

pub some_onward-forget-requires : goal.some_onward-forget-requires
some_onward-forget-requires t c =
    (pick_binder c.requires.0 c.requires.1 c.second-last.result c.second-last.ensures).onward

pub some_onward-loop-value-init : goal.some_onward-loop-value-init
some_onward-loop-value-init t c = (refl, posing_start nothing_held c.forget.ensures.forgotten.none)

pub some_onward-onward-pass-requires : goal.some_onward-onward-pass-requires
some_onward-onward-pass-requires t c =
    let part = pick_part c.requires.0 c.requires.1 in
    (omega (arith, c.decreases, within part.stands), part)

pub some_onward-forget-requires-in-loop-value : goal.some_onward-forget-requires-in-loop-value
some_onward-forget-requires-in-loop-value t c =
    (pick_binder c.requires.0 c.requires.1 c.second-last.result c.second-last.ensures).onward

pub some_onward-loop-value-preserved : goal.some_onward-loop-value-preserved
some_onward-loop-value-preserved t c = (
  c.forget-in-loop-value.auto.slots ∙ c.onward-pass.auto.slots ∙ c.loop-value.invariant.0,
  posing_more c.place_of-place.ensures.1 c.rebound-own.ensures c.onward-pass.ensures c.forget-in-loop-value.ensures.forgotten c.join-reached.ensures c.loop-value.invariant.1,
)

pub some_onward-returns : goal.some_onward-returns
some_onward-returns t c =
    posing_done c.requires.1 (pick_binder c.requires.0 c.requires.1 c.second-last.result c.second-last.ensures).here c.turns-many.ensures c.forget.ensures.forgotten (omega arith) c.loop-value.invariant.1

-- The proof of the cycle of calls {before, rounds} of `finish::truth::Job`: a line for each need, by the laws of Calls (what stands behind a sign), Gained (what the parts'
-- lengths make) and Rounds (what a round adds). The measure is the text that is left, twice; `rounds` is called at its star's own place, so it has one less.
use mathlib.Core.Path.{◌≡◌, refl, subst, ◌∙◌}
use Prim.Native.Nat.{ℕ, ◌^◌, ◌<◌}
use native.Mathlib.Decide.{ℕ_discrete}
use native.Mathlib.Omega.{arith}
use lib.Bits.{bit_or, or_lt}
use lib.ListN.{get_or}
use Rattle.grammar.proofs.Spread.{within}
use Rattle.runs.proofs.Calls.{seq_first, seq_second, alt_first, alt_second, star_part, check_part, pick_part}
use Rattle.finish.proofs.Gained.{sign_inside, act_gained, sum_gained, next_gained, pick_gained, seq_gained, alt_gained, may_gained, never_gained, quiet_gained}
use Rattle.finish.proofs.Rounds.{Rounds, unseen_short, unseen_apart, round_more, rounds_start, rounds_more, rounds_done}
use Rattle.finish.proofs.truth.Job.+before_rounds.Goals as goal
use Rattle.finish.proofs.truth.Job.+before_rounds.Goals.{before-in-110-1, before-in_default+else-this-lt97+then-this-lt99}

pub before-bounds-self-at : goal.before-bounds-self-at
before-bounds-self-at t c = within c.requires.here.stands

pub before-overflow_add-part : goal.before-overflow_add-part
before-overflow_add-part t c = omega (arith, within c.requires.here.stands)

pub before-second-other-requires : goal.before-second-other-requires
before-second-other-requires t c = omega (arith, (seq_second c.requires.here c.in-59.is).inside)

pub before-before-middle-requires : goal.before-before-middle-requires
before-before-middle-requires t c =
    let next = (seq_second c.requires.here c.in-59.is).there c.second-other.result c.second-other.ensures in
    (omega (arith, c.decreases, within c.requires.here.stands, next.0), record { here = next.1; room = c.requires.room })

pub before-before-requires : goal.before-before-requires
before-before-requires t c = (
  omega (arith, c.decreases, within c.requires.here.stands),
  record { here = seq_first c.requires.here c.in-59.is; room = omega (arith, c.requires.room, c.before-middle.auto.follow) },
)

pub before-second-other-requires-in-124 : goal.before-second-other-requires-in-124
before-second-other-requires-in-124 t c = omega (arith, (alt_second c.requires.here c.in-124.is).inside)

pub before-before-one-requires : goal.before-before-one-requires
before-before-one-requires t c =
    (omega (arith, c.decreases, within c.requires.here.stands), record { here = alt_first c.requires.here c.in-124.is; room = c.requires.room })

pub before-before-two-requires : goal.before-before-two-requires
before-before-two-requires t c =
    let next = (alt_second c.requires.here c.in-124.is).there c.second-other-in-124.result c.second-other-in-124.ensures in (
      omega (arith, c.decreases, within c.requires.here.stands, next.0),
      record { here = next.1; room = omega (arith, c.requires.room, c.before-one.auto.follow) },
    )

pub before-may_be-requires : goal.before-may_be-requires
before-may_be-requires t c = check_part c.requires.here c.in-63.is

pub before-before-requires-in-112 : goal.before-before-requires-in-112
before-before-requires-in-112 t c =
    (omega (arith, c.decreases, within c.requires.here.stands), record { here = pick_part c.requires.here c.in-112.is; room = c.requires.room })

pub before-returns-in-97 : goal.before-returns-in-97
before-returns-in-97 t c =
    let ons = c.args.turning.ons in
    let offs = c.args.turning.offs in
    let inside = sign_inside c.requires in
    let made = c.stepped.ensures in
    elim c.in-97-1.branch [
      | before-in-110-1 w ↦ next_gained ons offs (omega arith) inside made.0 made.1
      | before-in_default+else-this-lt97+then-this-lt99 w ↦ elim (ℕ_discrete (get_or c.args.self.text.now c.args.at 0) 97) [
        | yes e ↦ act_gained ons offs e inside made.0 made.1
        | no e ↦ sum_gained ons offs (omega arith) inside made.0 made.1
      ]
    ]

pub before-returns-in-59 : goal.before-returns-in-59
before-returns-in-59 t c =
    seq_gained c.args.turning.ons c.args.turning.offs c.requires.here.marked c.second-other.ensures c.in-59.is c.before-middle.ensures c.before-in-59.ensures

pub before-returns-in-124 : goal.before-returns-in-124
before-returns-in-124 t c =
    alt_gained c.args.turning.ons c.args.turning.offs c.requires.here.marked c.second-other-in-124.ensures c.in-124.is c.before-one.ensures c.before-two.ensures

pub before-returns-then-may_be : goal.before-returns-then-may_be
before-returns-then-may_be t c = let a = c.args in may_gained a.turning.ons a.turning.offs c.in-63.is

pub before-returns-else-may_be : goal.before-returns-else-may_be
before-returns-else-may_be t c = let a = c.args in never_gained a.turning.ons a.turning.offs c.in-63.is c.if-may_be.false c.may_be.ensures

pub before-returns-in-112 : goal.before-returns-in-112
before-returns-in-112 t c = let a = c.args in pick_gained a.turning.ons a.turning.offs c.in-112.is c.before-in-112.ensures

pub before-returns-in_default : goal.before-returns-in_default
before-returns-in_default t c =
    quiet_gained _ _ (λ e. omega arith) (λ e. omega arith) (λ e. omega arith) (λ e. omega arith) (λ e. omega arith) (λ e. omega arith) (λ e. omega arith) (λ e. omega arith)

pub before-returns-in_default-2 : goal.before-returns-in_default-2
before-returns-in_default-2 t c =
    quiet_gained _ _ (λ e. omega arith) (λ e. omega arith) (λ e. omega arith) (λ e. omega arith) (λ e. omega arith) (λ e. omega arith) (λ e. omega arith) (λ e. omega arith)

pub rounds-loop-new-init : goal.rounds-loop-new-init
rounds-loop-new-init t c =
    let a = c.args in
    let seen = get_or a.follow.now a.at 0 in
    let short : seen < 2 ^ 8 = omega (arith, c.type_inv.follow a.at) in
    (refl, rounds_start a.turning.ons a.turning.offs seen refl (omega arith) short, short, unseen_short a.behind seen (omega arith), unseen_apart a.behind seen short)

pub rounds-before-more-requires : goal.rounds-before-more-requires
rounds-before-more-requires t c = (
  omega (arith, c.decreases, within c.requires.0.here.stands),
  record { here = star_part c.requires.0.here c.requires.1; room = omega (arith, c.requires.0.room, c.loop-new.invariant.0) },
)

pub rounds-loop-new-smaller : goal.rounds-loop-new-smaller
rounds-loop-new-smaller t c =
    let more : c.loop-new.seen < bit_or c.loop-new.seen c.loop-new.new = round_more c.loop-new.seen c.loop-new.new c.loop-new.invariant.4 (λ none. omega arith) in
    omega (arith, c.loop-new.invariant.2)

pub rounds-loop-new-preserved : goal.rounds-loop-new-preserved
rounds-loop-new-preserved t c =
    let a = c.args in
    let all = bit_or c.loop-new.seen c.loop-new.new in
    let short : all < 2 ^ 8 = or_lt 8 c.loop-new.seen c.loop-new.new c.loop-new.invariant.2 c.loop-new.invariant.3 in
    let small : c.before-more.result < 2 ^ 8 = omega (arith, c.before-more.type_inv) in (
      c.before-more.auto.follow ∙ c.loop-new.invariant.0,
      rounds_more a.turning.ons a.turning.offs c.loop-new.seen c.loop-new.new c.before-more.result small short c.loop-new.invariant.1 c.before-more.ensures,
      short,
      unseen_short c.before-more.result all small,
      unseen_apart c.before-more.result all short,
    )

pub rounds-returns : goal.rounds-returns
rounds-returns t c =
    let a = c.args in
    let none : c.loop-new.new ≡ 0 = omega arith in
    rounds_done a.turning.ons a.turning.offs c.loop-new.seen c.requires.1 (omega (arith, sign_inside c.requires.0, c.loop-new.invariant.0))
    (subst (λ (i : ℕ). Rounds a.self.text.now a.at a.turning.ons a.turning.offs a.behind a.follow.now c.loop-new.follow c.loop-new.seen i) none c.loop-new.invariant.1)

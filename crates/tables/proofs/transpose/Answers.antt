-- `tables::transpose` meets its contract. The loop's invariant: the state is that at position p, and the rows are those of the log up to
-- position p.
use mathlib.Core.Path.{◌≡◌, sym, ◌∙◌, ap}
use Prim.Native.Nat.{◌≤◌, ◌<◌}
use native.Mathlib.Omega.{arith}
use lib.ListN.{length, get_or}
use Rattle.meaning.specs.Limits.{action_limit, log_limit}
use Rattle.meaning.specs.Theory.{after}
use Rattle.meaning.proofs.Theory.{state_start, state_step}
use Rattle.tables.proofs.Transposed.{empty_room, taken_none, taken_more, noted_shown, turned_taken, shown_start, shown_more, describes, uncounted, recount}
use Rattle.tables.proofs.transpose.Goals as goal

pub onward-all-requires : goal.onward-all-requires
onward-all-requires c = (omega arith, omega (arith, c.requires.short))

pub turn-requires : goal.turn-requires
turn-requires c = empty_room

pub loop-p-init : goal.loop-p-init
loop-p-init c =
    let a = c.args in
    let w = uncounted a.asked.setting.start a.asked.masks.now a.asked.log.now in (
      sym (state_start w),
      turned_taken w c.turn.ensures (taken_none w),
      shown_start w (sym (state_start w)) c.onward-all.ensures c.turn.ensures,
    )

pub able-able-requires : goal.able-able-requires
able-able-requires c = rw c.from-a.ensures (c.requires.covered c.loop-p.p c.loop-p-test.true)

pub note-requires : goal.note-requires
note-requires c =
    let inside : c.loop-p.p < length c.args.asked.log.now = c.loop-p-test.true in
    let short : length c.args.asked.log.now ≤ log_limit = c.requires.short in
    (c.loop-p.invariant.1.room, rw c.from-a.ensures (c.requires.known c.loop-p.p inside), omega arith)

pub act-next-requires : goal.act-next-requires
act-next-requires c = rw c.from-a.ensures (c.requires.covered c.loop-p.p c.loop-p-test.true)

pub onward-rest-requires : goal.onward-rest-requires
onward-rest-requires c =
    let inside : c.loop-p.p < length c.args.asked.log.now = c.loop-p-test.true in
    let short : length c.args.asked.log.now ≤ log_limit = c.requires.short in
    (omega arith, omega arith)

pub turn-requires-in-loop-p : goal.turn-requires-in-loop-p
turn-requires-in-loop-p c = c.note.ensures.room ∙ c.loop-p.invariant.1.room

pub loop-p-preserved : goal.loop-p-preserved
loop-p-preserved c =
    let w = uncounted c.args.asked.setting.start c.args.asked.masks.now c.args.asked.log.now in
    let inside : c.loop-p.p < length c.args.asked.log.now = c.loop-p-test.true in
    let loop = c.loop-p in
    let known : get_or c.args.asked.log.now loop.p 0 < action_limit = c.requires.known loop.p inside in
    let note = rw c.from-a.ensures at c.note.ensures in
    let able = rw c.from-a.ensures at c.able-able.ensures in
    let step = rw c.from-a.ensures at c.act-next.ensures in
    let next = step ∙ ap (after _) loop.invariant.0 ∙ sym (state_step w loop.p inside) in (
      next,
      turned_taken w c.turn-in-loop-p.ensures (taken_more w inside loop.invariant.0 known able note loop.invariant.1),
      shown_more w loop.invariant.0 next c.onward-rest.ensures c.turn-in-loop-p.ensures (noted_shown w known note loop.invariant.2),
    )

pub returns : goal.returns
returns c =
    let loop = c.loop-p in
    let a = c.args in
    let ends : loop.p ≡ length a.asked.log.now = omega arith in
    recount a.asked.setting a.asked.masks.now a.asked.log.now
    (describes (uncounted a.asked.setting.start a.asked.masks.now a.asked.log.now) ends loop.invariant.1 loop.invariant.2)

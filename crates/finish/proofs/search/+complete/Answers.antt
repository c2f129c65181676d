-- `finish::search::complete` meets its contract: by recursion on how many actions are left. The loop's invariant: the log still stands in front, and no
-- action gone over has a rest that completes the job.
use mathlib.Core.Path.{◌≡◌, ◌∙◌}
use mathlib.Core.Bool.{true≢false}
use Prim.Native.Nat.{suc, ◌-◌}
use native.Mathlib.Omega.{arith}
use lib.ListN.{length-set, take}
use Rattle.standins.proofs.Words.{bit_off}
use Rattle.finish.proofs.Trail.{tried, guided_more, asked_on, shown_more, shown_less, leaf_told, passed_out, passed_tried, kept_tried, tried_told, none_told, whole, place, ready_more}
use Rattle.finish.proofs.search.+complete.Goals as goal
use Rattle.finish.proofs.search.+complete.Goals.{then-from_a-eq1+else-complete, else-from_a-eq1}

pub returns-then-left-eq0 : goal.returns-then-left-eq0
returns-then-left-eq0 t c =
    let full = whole c.requires.0 in
    let a = c.args in (
      rw c.if-left-eq0.true
          (leaf_told a.s a.masks.now a.job.text.now a.trail.now a.rows.now a.n c.ended.result full
          (omega (arith, full, c.requires.0.fits)) c.requires.3.described c.ended.ensures),
      λ none. c.requires.3.described,
    )

pub complete-requires : goal.complete-requires
complete-requires t c =
    let a = c.args in
    let k = c.loop-a in
    let kept = k.invariant.kept in
    let room = place k.trail c.requires.0 k.invariant.long in
    let more : a.left ≡ suc (a.left - 1) = omega (arith, c.if-left-eq0.false) in
    let here = asked_on c.tries-waited.result a.worthy k.a c.if-from_a-eq1.true in (
      omega (arith, c.decreases, more),
      (
        ready_more a.s.counts.actions a.masks.now a.job.text.now a.job.ends.now a.trail.now k.trail a.n a.left (a.left - 1) k.a
            more c.requires.0 k.invariant.long kept (omega arith),
        guided_more a.s a.masks.now a.job.text.now a.trail.now k.trail a.follow.now a.n a.left (a.left - 1) k.a c.tries-waited.result more
            room kept c.requires.1 (tried a.s a.masks.now a.job.text.now {k = a.left - 1} more c.requires.1 c.tries-waited.ensures) here,
        c.requires.2,
        shown_more a.s a.masks.now a.trail.now k.trail a.n k.a c.act-behind.result a.state room kept (whole c.requires.0)
            (c.tries-waited.ensures.able k.a here).1 c.requires.3.here c.act-behind.ensures k.invariant.shown c.toggle.ensures,
      ),
    )

pub returns-then-complete : goal.returns-then-complete
returns-then-complete t c =
    let a = c.args in
    let k = c.loop-a in
    let more : a.left ≡ suc (a.left - 1) = omega (arith, c.if-left-eq0.false) in (
      tried_told a.s a.masks.now a.job.text.now a.trail.now k.trail c.complete.new.trail a.n a.left (a.left - 1) k.a c.tries-waited.result
          more (place k.trail c.requires.0 k.invariant.long) (c.complete.auto.trail ∙ length-set k.trail a.n k.a) k.invariant.kept
          (tried a.s a.masks.now a.job.text.now {k = a.left - 1} more c.requires.1 c.tries-waited.ensures)
          (asked_on c.tries-waited.result a.worthy k.a c.if-from_a-eq1.true) k.invariant.passed (rw c.if-complete.true at c.complete.ensures.0),
      λ none. absurd (true≢false none),
    )

pub loop-a-preserved : goal.loop-a-preserved
loop-a-preserved t c =
    let a = c.args in
    let k = c.loop-a in
    let kept = k.invariant.kept in
    let room = place k.trail c.requires.0 k.invariant.long in
    let told = tried a.s a.masks.now a.job.text.now {k = a.left - 1} (omega (arith, c.if-left-eq0.false)) c.requires.1 c.tries-waited.ensures in
    elim c.if-from_a-eq1.branch [
      | then-from_a-eq1+else-complete w ↦
          let last = w.complete.new.trail in
          let able = (c.tries-waited.ensures.able k.a (asked_on c.tries-waited.result a.worthy k.a w.if-from_a-eq1.true)).1 in
          rw (w.trail-is, w.rows-is) (record {
            long = w.complete.auto.trail ∙ length-set k.trail a.n k.a ∙ k.invariant.long;
            kept = kept_tried a.s a.masks.now a.job.text.now a.trail.now k.trail last a.n k.a room kept w.complete.ensures.0.kept;
            passed = passed_tried a.s a.masks.now a.job.text.now a.trail.now k.trail last a.n (a.left - 1) k.a room kept
                (rw w.if-complete.false at w.complete.ensures.0) k.invariant.passed;
            shown = shown_less a.s a.masks.now a.trail.now k.trail a.n k.a w.act-behind.result a.state room kept (whole c.requires.0)
                able c.requires.3.here w.act-behind.ensures (w.complete.ensures.1 w.if-complete.false) w.toggle-then-from_a-eq1.ensures;
          })
      | else-from_a-eq1 w ↦ rw (w.trail-is, w.rows-is) (record {
        long = k.invariant.long;
        kept = kept;
        passed = passed_out a.s a.masks.now a.job.text.now (take a.n a.trail.now) (a.left - 1) k.a c.tries-waited.result a.worthy told
            c.requires.2 (omega arith) (bit_off _ k.a w.if-from_a-eq1.false) k.invariant.passed;
        shown = k.invariant.shown;
      })
    ]

pub returns : goal.returns
returns t c =
    let a = c.args in (
      none_told a.s a.masks.now a.job.text.now a.trail.now c.loop-a.trail a.n a.left (a.left - 1) (omega arith) c.loop-a.invariant.kept
          (λ x j i h. c.loop-a.invariant.passed x j i (omega arith)),
      λ none. c.loop-a.invariant.shown,
    )

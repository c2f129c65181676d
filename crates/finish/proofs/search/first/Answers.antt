-- `finish::search::first` meets its contract: the job as it stands, and then the lengths from 1 up. The loop's invariant: the log still stands in front, its rows are there, and no
-- shorter sequence completes the job.
use mathlib.Core.Path.{refl, subst, ◌∙◌}
use mathlib.Core.List.{List}
use Prim.Native.Nat.{ℕ, ◌+◌}
use native.Mathlib.Omega.{arith}
use Rattle.theory.specs.Subject.{subject_of, world_of}
use Rattle.tables.specs.Tables.{Describes}
use Rattle.finish.proofs.Stood.{worth_spared}
use Rattle.finish.proofs.Trail.{leaf_told, whole}
use Rattle.finish.proofs.Shorter.{fewer_none, fewer_more, at_told, nothing_told, ready_again, guided_again, shown_again}
use Rattle.finish.proofs.search.first.Goals as goal

pub returns-then-ended : goal.returns-then-ended
returns-then-ended c =
    let a = c.args in
    at_told a.s a.masks.now a.job.text.now a.trail.now a.trail.now a.trail.now a.n a.more 0
    (omega (arith, c.requires.0.room, c.requires.0.fits)) (omega arith) (omega (arith, c.requires.0.fits)) refl (λ x i j h. absurd (omega arith))
    (leaf_told a.s a.masks.now a.job.text.now a.trail.now _ a.n _ (whole c.requires.0) (omega (arith, whole c.requires.0, c.requires.0.fits)) c.transpose.ensures c.if-ended.ensures)

pub returns-then-most-eq0 : goal.returns-then-most-eq0
returns-then-most-eq0 c =
    let a = c.args in
    nothing_told a.s a.masks.now a.job.text.now a.trail.now a.trail.now a.n a.more 1 (omega (arith, c.requires.0.room, c.requires.0.fits)) (omega (arith, c.min-most.ensures, c.if-most-eq0.true))
    (fewer_none a.s a.masks.now a.job.text.now a.trail.now a.n
    (leaf_told a.s a.masks.now a.job.text.now a.trail.now _ a.n _ (whole c.requires.0) (omega (arith, whole c.requires.0, c.requires.0.fits)) c.transpose.ensures c.if-ended.ensures))

pub loop-k-init : goal.loop-k-init
loop-k-init c =
    let a = c.args in
    record {
      long = refl;
      kept = refl;
      fewer = fewer_none a.s a.masks.now a.job.text.now a.trail.now a.n
          (leaf_told a.s a.masks.now a.job.text.now a.trail.now _ a.n _ (whole c.requires.0) (omega (arith, whole c.requires.0, c.requires.0.fits)) c.transpose.ensures c.if-ended.ensures);
      shown = c.transpose.ensures;
    }

pub complete-requires : goal.complete-requires
complete-requires c =
    let a = c.args in
    let k = c.loop-k in
    let within = c.loop-k-test.true in (
      ready_again a.s.counts.actions a.masks.now a.job.text.now a.job.ends.now a.trail.now k.trail a.n k.k c.requires.0 k.invariant.long k.invariant.kept
          (omega (arith, c.min-most.ensures, within, c.requires.0.fits)),
      guided_again a.s a.masks.now a.job.text.now a.trail.now k.trail _ a.n k.k (omega (arith, c.min-most.ensures, within, c.requires.2)) k.invariant.kept c.fill.ensures,
      worth_spared a.s a.masks.now a.job.text.now _ c.requires.0.node.logged.table c.worth-worthy.ensures,
      shown_again a.s a.masks.now a.trail.now k.trail _ a.n c.state_at-state.result (whole c.requires.0) k.invariant.kept k.invariant.shown c.state_at-state.ensures,
    )

pub returns-then-complete : goal.returns-then-complete
returns-then-complete c =
    let a = c.args in
    let k = c.loop-k in
    at_told a.s a.masks.now a.job.text.now a.trail.now k.trail c.complete.new.trail a.n a.more k.k
    (omega (arith, c.requires.0.room, c.requires.0.fits)) (omega (arith, c.min-most.ensures, c.loop-k-test.true)) (omega (arith, c.min-most.ensures, c.loop-k-test.true, c.requires.0.fits))
    k.invariant.kept k.invariant.fewer (rw c.if-complete.true at c.complete.ensures.0)

pub loop-k-preserved : goal.loop-k-preserved
loop-k-preserved c =
    let a = c.args in
    let k = c.loop-k in
    let found = c.complete.ensures in
    record {
      long = c.complete.auto.trail ∙ k.invariant.long;
      kept = found.0.kept ∙ k.invariant.kept;
      fewer = fewer_more a.s a.masks.now a.job.text.now a.trail.now k.trail c.complete.new.trail a.n k.k k.invariant.kept (rw c.if-complete.false at found.0) k.invariant.fewer;
      shown = subst (λ (l : List ℕ). Describes (world_of (subject_of a.s a.masks.now l)) c.complete.new.rows) k.invariant.kept (found.1 c.if-complete.false);
    }

pub returns-else-complete : goal.returns-else-complete
returns-else-complete c =
    let a = c.args in
    let k = c.loop-k in
    nothing_told a.s a.masks.now a.job.text.now a.trail.now c.complete.new.trail a.n a.more (k.k + 1)
    (omega (arith, c.requires.0.room, c.requires.0.fits)) (omega (arith, c.min-most.ensures))
    (fewer_more a.s a.masks.now a.job.text.now a.trail.now k.trail c.complete.new.trail a.n k.k k.invariant.kept (rw c.if-complete.false at c.complete.ensures.0) k.invariant.fewer)

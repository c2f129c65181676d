-- `tally::grow::over` meets its contract. The loop's invariant: the record is that of the steps passed.
use mathlib.Core.Path.{◌≡◌}
use Prim.Native.Nat.{◌≤◌, ◌<◌}
use native.Mathlib.Omega.{arith}
use lib.ListN.{length, take}
use lib.Seq.{length-take-le}
use Rattle.meaning.specs.Limits.{log_limit}
use Rattle.tables.proofs.Transposed.{uncounted}
use Rattle.tally.proofs.Growth.{tally_begins, tally_next, tally_whole, recount}
use Rattle.tally.proofs.grow.over.Goals as goal

pub loop-a-init : goal.loop-a-init
loop-a-init c = let a = c.args in tally_begins (uncounted a.asked.setting.start a.asked.masks.now a.asked.log.now)

pub grown-t-requires : goal.grown-t-requires
grown-t-requires c =
    let i = c.loop-a.a-index in
    let inside : i < length c.args.asked.log.now = c.loop-a-test.true in
    let short : length c.args.asked.log.now ≤ log_limit = c.requires.short in
    let done : length (take i c.args.asked.log.now) ≡ i = length-take-le _ _ (omega arith) in
    rw c.from.ensures (c.requires.covered i inside, c.requires.known i inside, omega (arith, c.loop-a.invariant.steps, done))

pub loop-a-preserved : goal.loop-a-preserved
loop-a-preserved c =
    let i = c.loop-a.a-index in
    let inside : i < length c.args.asked.log.now = c.loop-a-test.true in
    let step = rw c.from.ensures at c.grown-t.ensures in
    tally_next (uncounted c.args.asked.setting.start c.args.asked.masks.now c.args.asked.log.now) i inside c.requires.short (c.requires.known i inside) c.loop-a.invariant step

pub returns : goal.returns
returns c =
    let a = c.args in
    let ends : c.loop-a.a-index ≡ length a.asked.log.now = omega arith in
    recount a.asked.setting a.asked.masks.now a.asked.log.now (tally_whole (uncounted a.asked.setting.start a.asked.masks.now a.asked.log.now) c.loop-a.a-index ends c.loop-a.invariant)

-- `sheet::act::read_acts` meets its contract. The loop has read the first actions. Assumes nothing.
use native.Mathlib.Omega.{arith}
use Rattle.std.proofs.lemmas.Result.{err_from_is_err_and}
use Rattle.sheet.proofs.Acts.{row_within, masks_fit, acts_fault, acts_more, acts_done}
use Rattle.sheet.proofs.act.read_acts.Goals as goal

pub act_line-requires : goal.act_line-requires
act_line-requires c =
    let read = c.loop-a.invariant in
    let fits = row_within c.args.head c.loop-a.a c.loop-a-test.true in
    (omega (arith, read.below.within), c.requires.usable, c.requires.ranged.few_fluents, omega (arith, fits, c.requires.room, read.long, masks_fit c.args.head c.requires.usable))

pub returns-in_err-last : goal.returns-in_err-last
returns-in_err-last c =
    let a = c.args in
    let h = a.head in
    let p = err_from_is_err_and c.from_residual.result c.from_residual.ensures.1 in
    rw (p.1, p.2)
    (acts_fault a.sheet.now h a.masks.now c.loop-a.masks c.loop-a.a c.loop-a.last c.loop-a.invariant c.loop-a-test.true
    c.in_err-last.ensures.1)

pub loop-a-preserved : goal.loop-a-preserved
loop-a-preserved c =
    let a = c.args in
    let h = a.head in
    let told = c.in_ok-last.ensures in
    acts_more a.sheet.now h a.masks.now c.loop-a.masks c.loop-a.a c.loop-a.last c.loop-a.invariant c.loop-a-test.true c.act_line.new.masks c.in_ok-last.last
    c.act_line.auto.masks
    told.0
    told.1

pub returns : goal.returns
returns c = acts_done _ c.args.head _ _ _ _ c.loop-a.invariant c.loop-a-test.false

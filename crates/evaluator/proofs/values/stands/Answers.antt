-- `evaluator::values::stands` meets its contract: place by place, from the last back.
use native.Mathlib.Omega.{arith}
use Rattle.runs.specs.Values.{past}
use Rattle.runs.proofs.Bound.{clean_passed}
use Rattle.evaluator.proofs.values.stands.Goals as goal

pub loop-i-preserved : goal.loop-i-preserved
loop-i-preserved c =
    let a = c.args in
    let k = c.loop-i in
    λ d.
    k.invariant
    (clean_passed a.text.now a.ends.now a.name a.to k.i c.passed-next.result c.if-text-i.false (omega (arith, c.if-next-i.false)) c.passed-next.ensures d)

pub returns : goal.returns
returns c e = c.loop-i.invariant (past (omega arith))

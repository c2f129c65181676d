-- `finish::tries::doable` meets its contract. The loop's invariant: the word holds the possible ones of the actions gone over.
use mathlib.Core.Path.{◌≡◌}
use native.Mathlib.Omega.{arith}
use Rattle.laws.proofs.Truth.{off_on}
use Rattle.finish.proofs.Doable.{doable_none, doable_left, doable_taken}
use Rattle.finish.proofs.tries.doable.Goals as goal
use Rattle.finish.proofs.tries.doable.Goals.{then-able, else-able}

pub loop-a-init : goal.loop-a-init
loop-a-init c = doable_none _ _

pub loop-a-preserved : goal.loop-a-preserved
loop-a-preserved c =
    let a = c.args in
    let k = c.loop-a in
    let able = c.able.ensures in
    elim c.if-able.branch [
      | then-able w ↦ rw w.these-is (doable_taken a.masks.now a.state k.a k.these (omega arith) (able.0 w.if-able.true) k.invariant)
      | else-able w ↦ rw w.these-is (doable_left a.masks.now a.state k.a k.these (λ h. off_on w.if-able.false (able.1 h)) k.invariant)
    ]

pub returns : goal.returns
returns c = let all : c.loop-a.a ≡ c.args.actions = omega arith in rw (← all) c.loop-a.invariant

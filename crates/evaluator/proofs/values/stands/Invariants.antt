-- `evaluator::values::stands` meets its contract: place by place, from the last back.
use Prim.Native.Nat.{◌-◌}
use Rattle.runs.specs.Values.{Clean}
use Rattle.evaluator.proofs.values.stands.Given as goal

-- where the letter stands nowhere from here on, it stands nowhere at all
abbrev pub invariant-loop-i : goal.invariant-loop-i
invariant-loop-i l = Clean l.text l.ends l.name l.to l.i → Clean l.text l.ends l.name l.to l.from

abbrev pub decreases-loop-i : goal.decreases-loop-i
decreases-loop-i l = l.to - l.i

-- `evaluator::values::turns` meets its contract: where the variable does not stand free in the part, one value is enough.
use native.Mathlib.Omega.{arith}
use Rattle.runs.proofs.Bound.{one_turn}
use Rattle.evaluator.proofs.values.turns.Goals as goal

pub returns-else-stands : goal.returns-else-stands
returns-else-stands c =
    one_turn c.args.text.now c.args.at (omega (arith, c.if-domain-lt2.false)) c.requires.0 c.requires.1 (c.stands.ensures c.if-stands.false)

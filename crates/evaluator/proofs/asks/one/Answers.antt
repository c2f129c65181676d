-- `evaluator::asks::one` meets its contract: `1 << sum`, and nothing past the last action.
use mathlib.Core.Path.{sym, ◌∙◌}
use Prim.Native.Nat.{◌+◌}
use native.Mathlib.Omega.{arith}
use borrow.Author.Tests.{ne_eqb}
use Rattle.laws.proofs.On.{on_none}
use Rattle.laws.proofs.Shift.{on_one_shl}
use Rattle.meaning.specs.Limits.{action_limit}
use Rattle.evaluator.proofs.asks.one.Goals as goal

pub returns-then-a-ge-ACTION_LIMIT : goal.returns-then-a-ge-ACTION_LIMIT
returns-then-a-ge-ACTION_LIMIT c i h = let a = c.args in on_none i ∙ sym (ne_eqb i (a.a + a.value) (omega arith))

pub returns-then-left-value : goal.returns-then-left-value
returns-then-left-value c i h = let a = c.args in on_none i ∙ sym (ne_eqb i (a.a + a.value) (omega arith))

pub returns : goal.returns
returns c i h = let a = c.args in on_one_shl (a.a + a.value) action_limit i (omega arith)

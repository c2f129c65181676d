-- `evaluator::asks::allowed` meets its contract: the test of a bit; past the table, and past a byte, none is on.
use mathlib.Core.Path.{sym, ap, ◌∙◌}
use native.Mathlib.Omega.{arith}
use lib.ListN.{get_or-eq_default}
use Rattle.laws.specs.Bit.{on}
use Rattle.laws.proofs.On.{on_high, on_none}
use Rattle.evaluator.proofs.asks.allowed.Goals as goal

pub returns-then-left-lt8 : goal.returns-then-left-lt8
unfolding on
returns-then-left-lt8 c = rw c.from-lengths.ensures

pub returns-else-left-lt8 : goal.returns-else-left-lt8
returns-else-left-lt8 c = sym (on_high 8 (omega arith) (omega arith))

pub returns-else-at-follow : goal.returns-else-at-follow
returns-else-at-follow c =
    let a = c.args in
    let none = get_or-eq_default a.follow.now 0 {n = a.at} (omega arith) in
    sym (ap (λ b. on b a.left) none ∙ on_none a.left)

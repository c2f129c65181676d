-- `sheet_lines::versions::widen` meets its contract. The loop's invariant: the actions from a on have their rows.
use mathlib.Core.Path.{◌≡◌, subst}
use Prim.Native.Nat.{suc, ◌-◌}
use native.Mathlib.Omega.{arith}
use Rattle.sheet_lines.proofs.Widen.{Widened, widened_none, widened_more}
use Rattle.sheet_lines.proofs.versions.widen.Goals as goal

pub loop-a-init : goal.loop-a-init
loop-a-init c = widened_none _ _

pub loop-a-preserved : goal.loop-a-preserved
loop-a-preserved c =
    let k = c.loop-a in
    let next : k.a ≡ suc (k.a - 1) = omega (arith, c.loop-a-test.true) in
    widened_more _ _ _ (k.a - 1) c.requires.1 (subst (Widened _ _ _) next k.invariant) _ c.plain_row.ensures

-- `standins::same_effects` meets its contract: the law of the word operations.
use mathlib.Core.Path.{sym, ap, ◌∙◌}
use Prim.Native.Nat.{ℕ}
use lib.Bits.{bit_and}
use borrow.Author.Tests.{eqb-true, eq-eqb}
use Rattle.standins.proofs.Same.{effects_alike, alike_effects}
use Rattle.standins.proofs.same_effects.Goals as goal

pub returns : goal.returns
returns c = λ when unless.
    let a = c.args in
    let same = ap (λ (n : ℕ). bit_and n a.matter) c.from.ensures in (
      λ e. effects_alike a.put a.drop a.put2 a.drop2 a.matter c.ranges.put.fits c.ranges.put2.fits c.ranges.matter.fits (sym same ∙ eqb-true _ 0 e) when unless,
      λ h. eq-eqb _ 0 (same ∙ alike_effects a.put a.drop a.put2 a.drop2 a.matter c.ranges.put.fits c.ranges.put2.fits c.ranges.matter.fits when unless h),
    )

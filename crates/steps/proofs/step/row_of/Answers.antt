-- `steps::step::row_of` meets its contract: the row of the sum, or none where there is no such row.
use mathlib.Core.Path.{◌≡◌, sym, ◌∙◌}
use mathlib.Core.Bool.{false}
use Prim.Native.Nat.{◌+◌}
use native.Mathlib.Omega.{arith}
use borrow.Author.Tests.{lt-ltb, le-ltb}
use lib.Dec.{ltb}
use Rattle.positions.proofs.Held.{nothing_held}
use Rattle.tables.specs.Tables.{row_holds}
use Rattle.steps.proofs.step.row_of.Goals as goal

pub returns-then-many-n : goal.returns-then-many-n
returns-then-many-n c q =
    let a = c.args in
    let past : ltb (a.n + a.value) a.many ≡ false = le-ltb (a.n + a.value) a.many (omega (arith, c.if-many-n.true)) in
    nothing_held q ∙ rw past

pub returns-then-left-value : goal.returns-then-left-value
returns-then-left-value c q =
    let a = c.args in
    let past : ltb (a.n + a.value) a.many ≡ false = le-ltb (a.n + a.value) a.many (omega (arith, c.if-left-value.true)) in
    nothing_held q ∙ rw past

pub returns : goal.returns
unfolding row_holds
returns c q =
    let a = c.args in
    let low = lt-ltb (a.n + a.value) a.many (omega (arith, c.if-left-value.false, c.if-many-n.false)) in
    let same : a.first + (a.n + a.value) ≡ a.first + a.n + a.value = omega arith in
    sym (c.of_word.ensures.bits q) ∙ rw (low, same)

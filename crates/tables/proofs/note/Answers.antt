-- `tables::note` meets its contract: two rows have one position more, or nothing is written.
use mathlib.Core.Path.{subst⁻¹}
use Prim.Native.Nat.{◌+◌, ◌*◌, ◌%◌, ◌^◌}
use Rattle.meaning.specs.Limits.{places}
use Rattle.tables.specs.Tables.{action_rows, possible_row, Noted}
use Rattle.tables.proofs.Marks.{marked, noted, not_noted}
use Rattle.tables.proofs.note.Goals as goal

pub returns-then-able : goal.returns-then-able
returns-then-able c =
    let a = c.args in
    let old = a.rows.now in
    let bit = 1 * 2 ^ a.p % 2 ^ places in
    let new = marked (marked old (action_rows + a.a) bit) possible_row bit in
    subst⁻¹ (Noted old new a.a a.p) c.if-able.true (noted old a.a a.p c.requires.0 c.requires.1 c.requires.2)

pub returns-else-able : goal.returns-else-able
returns-else-able c =
    let a = c.args in
    subst⁻¹ (Noted a.rows.now a.rows.now a.a a.p) c.if-able.false (not_noted a.rows.now a.a a.p)

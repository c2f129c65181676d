-- `sheet::act::act_line` meets its contract. Assumes nothing.
use mathlib.Core.Path.{◌≡◌, refl, sym, ap, subst}
use mathlib.Core.Logic.{inr}
use mathlib.Core.List.{List}
use Prim.Native.Nat.{ℕ, ◌+◌, ◌-◌}
use lib.ListN.{take, drop}
use native.Mathlib.Omega.{arith}
use Rattle.laws.proofs.Truth.{off_on}
use Rattle.meaning.specs.Refusal.{OneLacking}
use Rattle.meaning.proofs.Refusal.{here}
use Rattle.spelling.specs.Scan.{stretch}
use Rattle.sheet_lines.specs.Forms.{act_form}
use Rattle.sheet_lines.proofs.Forms.{act_clear}
use Rattle.sheet_lines.proofs.Rows.{judged}
use Rattle.sheet_lines.proofs.Say.{says, accepted}
use Rattle.sheet.specs.Acts.{row_at, MasksRead}
use Rattle.sheet.proofs.MaskReading.{lacking_only}
use Rattle.sheet.proofs.act.act_line.Goals as goal

row_is : (table : List ℕ) (row count : ℕ) → take (row + count - row) (drop row table) ≡ row_at table row count
row_is table row count = let n : row + count - row ≡ count = omega arith in ap (λ (k : ℕ). take k (drop row table)) n

pub returns-then-bad_masks : goal.returns-then-bad_masks
returns-then-bad_masks c =
    let a = c.args in
    let table : List ℕ = c.read_masks.new.masks in
    let m = row_at table a.row a.version.masks in
    let t = subst (MasksRead (stretch a.sheet.now c.in_ok-c.c.start c.in_ok-c.c.end) table a.row a.version.masks) c.if-not-read_masks.false c.read_masks.ensures.1 in
    let read = says (act_form a.version a.fluents) a.sheet.now a.at a.line c.in_ok-c.ensures.0 m t.0 t.1 in
    let lacks = lacking_only a.fluents _ (c.bad_masks.ensures.0 c.if-bad_masks.true) in (
      c.read_masks.ensures.0,
      (
        judged (act_form a.version a.fluents) a.sheet.now a.at m read
            (here (record { said = m; says = read; fault = subst (OneLacking a.fluents) (row_is table a.row a.version.masks) lacks })),
        refl,
      ),
    )

pub returns : goal.returns
returns c =
    let a = c.args in
    let table : List ℕ = c.read_masks.new.masks in
    let m = row_at table a.row a.version.masks in
    let t = subst (MasksRead (stretch a.sheet.now c.in_ok-c.c.start c.in_ok-c.c.end) table a.row a.version.masks) c.if-not-read_masks.false c.read_masks.ensures.1 in (
      c.read_masks.ensures.0,
      accepted (act_form a.version a.fluents) a.sheet.now a.at a.line (act_clear a.version a.fluents) c.in_ok-c.ensures.0 m t.0 t.1
          (λ lacks. off_on c.if-bad_masks.false (c.bad_masks.ensures.1 (inr (subst (OneLacking a.fluents) (sym (row_is table a.row a.version.masks)) lacks))), tt),
    )

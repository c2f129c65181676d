-- `sheet_lines::line::now_below` meets its contract: the value is one word, the other, or none of both. Assumes nothing.
use mathlib.Core.Path.{◌≡◌, ◌∙◌}
use mathlib.Core.Bool.{Bool, true}
use mathlib.Core.List.{List}
use Prim.Native.Nat.{ℕ, ◌+◌, ◌≤◌}
use native.Mathlib.Omega.{arith}
use Rattle.std.specs.Prelude.{Ok}
use Rattle.std.specs.Str.{bytes_eq}
use Rattle.std.proofs.lemmas.Bool.Decides.{Decides-eqb}
use Rattle.std.proofs.lemmas.Slice.Eq.{slice_eq-Decides}
use Rattle.laws.specs.Text.{bytes}
use Rattle.meaning.specs.Limits.{reading_limit}
use Rattle.spelling.specs.Scan.{stretch}
use Rattle.sheet_lines.specs.Forms.{now_form, reading_text}
use Rattle.sheet_lines.specs.Found.{CursorAt, Below, ReadBelow}
use Rattle.sheet_lines.specs.declared.Cursor.{Cursor}
use Rattle.sheet_lines.proofs.Forms.{now_clear}
use Rattle.sheet_lines.proofs.Below.{read_below}
use Rattle.sheet_lines.proofs.Say.{noted, accepted}
use Rattle.sheet_lines.proofs.line.now_below.Goals as goal

same : {xs ys : List ℕ} {r : Bool} → r ≡ bytes_eq xs ys → r ≡ true → xs ≡ ys
same {xs} {ys} {r} e equal = (slice_eq-Decides Decides-eqb xs ys r e).0 equal

-- the line says this reading
said : (sheet : List ℕ) (above c : Cursor) (reading : ℕ) → Below sheet above → CursorAt (bytes "now=") sheet (above.end + 1) (above.line + 1) c → reading ≤ reading_limit
    → stretch sheet c.start c.end ≡ reading_text reading → ReadBelow now_form sheet above (λ c. c.number) (Ok (record c { number = reading }))
said sheet above c reading below stood known e =
    read_below now_form sheet above (λ c. c.number) below (Ok (record c { number = reading }))
    (accepted now_form sheet (above.end + 1) (above.line + 1) now_clear (noted reading stood) reading known e tt)

pub returns-then-eq : goal.returns-then-eq
returns-then-eq c = said c.args.sheet.now c.args.above c.in_ok-c.c 0 c.requires c.in_ok-c.ensures.0 (omega arith) (same c.eq.ensures c.if-eq.true ∙ c.as_slice.ensures)

pub returns-then-eq-2 : goal.returns-then-eq-2
returns-then-eq-2 c = said c.args.sheet.now c.args.above c.in_ok-c.c 1 c.requires c.in_ok-c.ensures.0 (omega arith) (same c.eq-else-eq.ensures c.if-eq-2.true ∙ c.as_slice-else-eq.ensures)

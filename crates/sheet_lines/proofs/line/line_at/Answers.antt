-- `sheet_lines::line::line_at` meets its contract. Assumes nothing.
use mathlib.Core.Path.{refl, sym, ◌∙◌}
use mathlib.Core.Bool.{false≢true}
use Rattle.sheet_lines.proofs.Ends.{no_key, no_lf, found_line}
use Rattle.sheet_lines.proofs.line.line_at.Goals as goal

pub returns-then-end-sheet : goal.returns-then-end-sheet
returns-then-end-sheet c =
    let a = c.args in
    let first = c.find_lf-end.ensures in
    let opens = c.opens_with.ensures.0 c.if-opens_with.true in (
      record {
        counted = refl;
        starts = refl;
        onward = first.onward;
        within = c.if-end-sheet.true;
        holds = found_line a.sheet.now a.key.now a.at c.find_lf-end.result opens first c.if-end-sheet.true;
      },
      refl,
    )

pub returns-else-end-sheet : goal.returns-else-end-sheet
returns-else-end-sheet c =
    let a = c.args in
    ((refl, refl, no_lf a.sheet.now a.key.now a.at c.find_lf-end.result c.find_lf-end.ensures c.if-end-sheet.false), tt)

pub returns-else-opens_with : goal.returns-else-opens_with
returns-else-opens_with c =
    let a = c.args in
    ((refl, refl, no_key a.sheet.now a.key.now a.at (λ e. false≢true (sym c.if-opens_with.false ∙ c.opens_with.ensures.1 e))), tt)

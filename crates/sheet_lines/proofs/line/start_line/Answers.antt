-- `sheet_lines::line::start_line` meets its contract. Assumes nothing.
use mathlib.Core.Path.{◌≡◌, refl, subst}
use native.Mathlib.Omega.{arith}
use Rattle.std.specs.Prelude.{None, Some}
use Rattle.std.proofs.lemmas.Result.{err_from_is_err_and}
use Rattle.laws.proofs.Truth.{off_on}
use Rattle.meaning.proofs.Refusal.{here}
use Rattle.spelling.specs.Scan.{stretch, DigitsOf}
use Rattle.sheet_lines.specs.Forms.{start_form}
use Rattle.sheet_lines.proofs.Forms.{start_clear}
use Rattle.sheet_lines.proofs.Rows.{judged}
use Rattle.sheet_lines.proofs.Say.{given, noted, unsaid, says, accepted}
use Rattle.sheet_lines.proofs.line.start_line.Goals as goal

pub returns-in_err-number : goal.returns-in_err-number
returns-in_err-number c =
    let a = c.args in
    let p = err_from_is_err_and c.from_residual-in_err-number.result c.from_residual-in_err-number.ensures.1 in
    let none : c.number_in.result ≡ None = grind arith in
    let other = subst (DigitsOf 16 8 (stretch a.sheet.now c.in_ok-c.c.start c.in_ok-c.c.end)) none c.number_in.ensures in
    let bad = given c.number_in.result _ _ c.in_err-number.ensures.value in
    rw (p.1, p.2, ← bad) (unsaid (start_form a.fluents) a.sheet.now a.at a.line c.in_ok-c.ensures.0 (λ n r. other n), refl)

pub returns-then-names_lacking : goal.returns-then-names_lacking
returns-then-names_lacking c =
    let a = c.args in
    let n = c.in_ok-number.number in
    let some : c.number_in.result ≡ Some n = grind arith in
    let read = subst (DigitsOf 16 8 (stretch a.sheet.now c.in_ok-c.c.start c.in_ok-c.c.end)) some c.number_in.ensures in
    let it = says (start_form a.fluents) a.sheet.now a.at a.line c.in_ok-c.ensures.0 n read.0 read.1 in
    (judged (start_form a.fluents) a.sheet.now a.at n it (here (record { said = n; says = it; fault = c.names_lacking.ensures.0 c.if-names_lacking.true })), refl)

pub returns : goal.returns
returns c =
    let a = c.args in
    let n = c.in_ok-number.number in
    let some : c.number_in.result ≡ Some n = grind arith in
    let read = subst (DigitsOf 16 8 (stretch a.sheet.now c.in_ok-c.c.start c.in_ok-c.c.end)) some c.number_in.ensures in
    accepted (start_form a.fluents) a.sheet.now a.at a.line (start_clear a.fluents) (noted n c.in_ok-c.ensures.0) n read.0 read.1
    (λ h. off_on c.if-names_lacking.false (c.names_lacking.ensures.1 h), tt)

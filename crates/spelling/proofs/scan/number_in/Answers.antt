-- `spelling::scan::number_in` meets its contract. Assumes nothing.
use mathlib.Core.Path.{sym, ap, ◌∙◌}
use native.Mathlib.Omega.{arith}
use lib.ListN.{length}
use Rattle.spelling.proofs.Numeral.{length_numeral}
use Rattle.spelling.proofs.Stretch.{length_stretch}
use Rattle.spelling.proofs.scan.number_in.Goals as goal

pub returns-then-end-start : goal.returns-then-end-start
returns-then-end-start c n e =
    let a = c.args in
    let long = length_stretch a.text.now a.start a.end (omega arith) in
    c.if-end-start.true (sym long ∙ ap length e ∙ length_numeral a.base a.width n)

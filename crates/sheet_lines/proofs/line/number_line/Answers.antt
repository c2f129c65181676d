-- `sheet_lines::line::number_line` meets its contract. Assumes nothing.
use mathlib.Core.Path.{◌≡◌, refl, sym, ◌∙◌}
use mathlib.Core.List.{List}
use Prim.Native.Nat.{ℕ, ◌≤◌, ◌<◌, ◌^◌}
use native.Mathlib.Omega.{arith}
use Rattle.spelling.specs.Numeral.{numeral}
use Rattle.spelling.proofs.Numeral.{same_number}
use Rattle.sheet_lines.specs.Forms.{number_form}
use Rattle.sheet_lines.proofs.Forms.{number_clear}
use Rattle.sheet_lines.proofs.Say.{noted, unsaid, accepted}
use Rattle.std.proofs.Common.{rules}
use Rattle.std.proofs.lemmas.Grind.{common_steps}
use Rattle.sheet_lines.proofs.line.number_line.Goals as goal

-- where the number that is written lies out of the range, none in the range is written
out : (width low high n : ℕ) (value : List ℕ) → high < 10 ^ width → (n < 10 ^ width) × (value ≡ numeral 10 width n) → (low ≤ n → n ≤ high → ⊥)
    → (m : ℕ) → (low ≤ m) × (m ≤ high) → value ≡ numeral 10 width m → ⊥
out width low high n value room read far m range e =
    let same = same_number 10 width n m (omega arith) (omega arith) read.0 (omega (arith, range.1)) (sym read.1 ∙ e) in
    far (omega (arith, same, range.0)) (omega (arith, same, range.1))

pub returns-in-Some : goal.returns-in-Some
returns-in-Some c =
    let a = c.args in
    let n = c.in-Some.number in
    let read = c.in-Some.ensures in
    accepted (number_form a.key.now a.width a.low a.high) a.sheet.now a.at a.line (number_clear a.key.now a.width a.low a.high c.requires.1) (noted n c.in_ok-c.ensures.0) n
    (search rules) read.1 tt

pub returns-in_default : goal.returns-in_default
returns-in_default c =
    let a = c.args in (
      unsaid (number_form a.key.now a.width a.low a.high) a.sheet.now a.at a.line c.in_ok-c.ensures.0
          (out a.width a.low a.high _ _ c.requires.1 c.in-Some.ensures (λ large small. grind (arith, common_steps))),
      refl,
    )

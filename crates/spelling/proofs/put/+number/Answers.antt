-- `spelling::put::number` meets its contract: the digits before the last one are those of the number without it. The width falls.
use mathlib.Core.Path.{ap, ◌∙◌}
use mathlib.Core.List.{[], ◌∷◌, ◌++◌}
use Prim.Native.Nat.{◌-◌, ◌/◌}
use native.Mathlib.Nat.{mod-lt}
use native.Mathlib.Omega.{arith}
use Rattle.spelling.specs.Numeral.{numeral}
use Rattle.spelling.proofs.Numeral.{length_numeral}
use Rattle.spelling.proofs.Writing.{wrote_nothing, wrote_then, wrote_as, wrote_length}
use Rattle.spelling.proofs.Plain.{no_digits, last_digit}
use Rattle.spelling.proofs.put.+number.Goals as goal

pub returns-then-width-eq0 : goal.returns-then-width-eq0
returns-then-width-eq0 t c = wrote_as (no_digits _ _ _ c.if-width-eq0.true) (wrote_nothing _ _)

pub symbol-requires : goal.symbol-requires
symbol-requires t c =
    let a = c.args in
    omega (arith, mod-lt a.n {m = a.base} (omega arith))

pub byte-requires : goal.byte-requires
byte-requires t c =
    let a = c.args in
    omega (arith, c.number-next.ensures.onward, wrote_length c.number-next.ensures, length_numeral a.base (a.width - 1) (a.n / a.base))

pub returns : goal.returns
returns t c =
    let a = c.args in
    wrote_as
    (ap (λ d. numeral a.base (a.width - 1) (a.n / a.base) ++ (d ∷ [])) c.symbol.ensures ∙ last_digit a.base a.width a.n c.if-width-eq0.false)
    (wrote_then c.number-next.ensures c.byte.ensures)

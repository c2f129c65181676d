-- `letters::variable_at` meets its contract, by the laws of `Lettering`.
use native.Mathlib.Omega.{arith}
use Rattle.grammar.proofs.Lettering.{letter_found}
use Rattle.grammar.proofs.letters.variable_at.Goals as goal

pub returns-in-118-to-121 : goal.returns-in-118-to-121
returns-in-118-to-121 c =
    let (inside, byte) = c.in_ok-byte.ensures.lookup.3 in
    let read = byte 0 in
    rw read (letter_found c.args.text.now c.args.at inside (omega arith) (omega arith))

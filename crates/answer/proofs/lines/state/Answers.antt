-- `answer::lines::state` meets its contract: its three texts, one behind the other.
use native.Mathlib.Omega.{arith}
use Rattle.spelling.proofs.Numeral.{length_numeral}
use Rattle.spelling.proofs.Writing.{wrote_then, wrote_length}
use Rattle.answer.proofs.lines.state.Goals as goal

pub text-requires : goal.text-requires
text-requires c =
    let w = c.number-end.ensures in
    let v = c.text-value.ensures in
    omega (arith, w.onward, v.onward, wrote_length w, wrote_length v, length_numeral 16 8 c.args.word)

pub returns : goal.returns
returns c =
    wrote_then (wrote_then c.text-value.ensures c.number-end.ensures) c.text.ensures

-- `answer::lines::finish` meets its contract: its three texts, one behind the other.
use native.Mathlib.Omega.{arith}
use Rattle.spelling.proofs.Writing.{wrote_then, wrote_length}
use Rattle.answer.proofs.Lengths.{ending_length}
use Rattle.answer.proofs.lines.finish.Goals as goal

pub text-requires : goal.text-requires
text-requires c =
    let w = c.sequence-end.ensures in
    let v = c.text-value.ensures in
    omega (arith, w.onward, v.onward, wrote_length w, wrote_length v, ending_length c.args.ending c.requires.0, c.requires.1)

pub returns : goal.returns
returns c = wrote_then (wrote_then c.text-value.ensures c.sequence-end.ensures) c.text.ensures

-- `answer::lines::answered` meets its contract: its three lines, one behind the other.
use native.Mathlib.Omega.{arith}
use Rattle.answer.specs.Text.{answer_text}
use Rattle.spelling.proofs.Writing.{wrote_then, wrote_length}
use Rattle.answer.proofs.Lengths.{verdict_length, state_length}
use Rattle.answer.proofs.lines.answered.Goals as goal

pub finish-requires : goal.finish-requires
finish-requires c =
    let a = c.args.a in
    let v = c.verdict-second.ensures in
    let s = c.state-third.ensures in
    (c.requires.0, omega (arith, s.onward, v.onward, wrote_length s, wrote_length v, verdict_length a.yes, state_length a.state, c.requires.1))

pub returns : goal.returns
unfolding answer_text
returns c = wrote_then (wrote_then c.verdict-second.ensures c.state-third.ensures) c.finish.ensures

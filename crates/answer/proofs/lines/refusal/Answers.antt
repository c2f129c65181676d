-- `answer::lines::refusal` meets its contract: its five texts, one behind the other.
use native.Mathlib.Omega.{arith}
use Rattle.answer.specs.Text.{refusal_text}
use Rattle.spelling.proofs.Writing.{wrote_then, wrote_length}
use Rattle.spelling.proofs.Plain.{length_decimal}
use Rattle.answer.proofs.lines.refusal.Goals as goal

pub text-second-requires : goal.text-second-requires
text-second-requires c =
    let d = c.decimal-comma.ensures in
    let v = c.text-value.ensures in
    let few = length_decimal c.args.number c.requires.0 in
    omega (arith, d.onward, v.onward, few, wrote_length d, wrote_length v, c.requires.2)

pub decimal-end-requires : goal.decimal-end-requires
decimal-end-requires c =
    let d = c.decimal-comma.ensures in
    let v = c.text-value.ensures in
    let few = length_decimal c.args.number c.requires.0 in
    let t = c.text-second.ensures in
    (omega (arith, t.onward, d.onward, v.onward, few, wrote_length t, wrote_length d, wrote_length v, c.requires.2), c.requires.1)

pub text-requires : goal.text-requires
text-requires c =
    let d = c.decimal-comma.ensures in
    let v = c.text-value.ensures in
    let few = length_decimal c.args.number c.requires.0 in
    let t = c.text-second.ensures in
    let e = c.decimal-end.ensures in
    let low = length_decimal c.args.place c.requires.1 in
    omega (arith, e.onward, t.onward, d.onward, v.onward, few, low, wrote_length e, wrote_length t, wrote_length d, wrote_length v, c.requires.2)

pub returns : goal.returns
unfolding refusal_text
returns c =
    wrote_then (wrote_then c.text-value.ensures (wrote_then (wrote_then c.decimal-comma.ensures c.text-second.ensures) c.decimal-end.ensures)) c.text.ensures

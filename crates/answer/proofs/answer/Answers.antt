-- `answer::answer` meets its contract: the text of the outcome stands at the front of the output.
use native.Mathlib.Omega.{arith}
use Rattle.answer.proofs.Handing.{writable, written}
use Rattle.answer.proofs.answer.Goals as goal

pub write-requires : goal.write-requires
write-requires c =
    let o = c.decide-o.ensures in (record { low = writable _ c.decide-o.result o.is; ends = o.ends }, omega arith)

pub returns : goal.returns
returns c = written _ c.decide-o.result c.decide-o.ensures (omega arith) c.write.ensures

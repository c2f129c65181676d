-- `finish::truth::named_among` meets its contract: the number there is read, and its bit.
use Rattle.laws.specs.Bit.{on}
use Rattle.finish.proofs.May.{named_lacks}
use Rattle.finish.proofs.truth.named_among.Goals as goal

pub returns-else-place-ge-FLUENT_LIMIT : goal.returns-else-place-ge-FLUENT_LIMIT
unfolding on
returns-else-place-ge-FLUENT_LIMIT c off =
    let a = c.args in
    named_lacks a.text.now a.at a.fluents c.in-Some.i c.in-Some.ensures c.if-place-ge-FLUENT_LIMIT.false off

-- `normal` meets its contract: what `check_rule` and `write_out` ensure makes an outcome, by the laws of `Outcomes`.
use mathlib.Core.Bool.{true}
use Rattle.rule.specs.Outcome.{kind_of}
use Rattle.rule.proofs.Outcomes.{accepted_known}
use Rattle.normal.proofs.Outcomes.{by_room}
use Rattle.normal.proofs.normal.Goals as goal

pub write_out-requires : goal.write_out-requires
write_out-requires c =
    let a = c.args in
    let k = accepted_known true (kind_of a.kind) a.text.now a.counts c.in_ok-check_rule.ensures.1 in
    record { rule = k.rule; spells = k.spells; short = k.short }

pub returns : goal.returns
returns c =
    let a = c.args in
    let k = accepted_known true (kind_of a.kind) a.text.now a.counts c.in_ok-check_rule.ensures.1 in
    by_room (kind_of a.kind) a.text.now a.counts a.out.now c.in_ok-check_rule.ensures k.rule k.spells c.write_out.result c.write_out.new.out (c.write_out.ensures.each k.rule k.spells)

-- `write_out` meets its contract: the first run counts, and what it leaves of the output is the output.
use Rattle.normal.proofs.Whole as whole
use Rattle.normal.proofs.write_out.Goals as goal

pub write_rule-count-requires : goal.write_rule-count-requires
write_rule-count-requires c = whole.marked_by c.requires c.fill_ends.ensures

pub write_rule-requires : goal.write_rule-requires
write_rule-requires c = whole.marked_by c.requires c.fill_ends.ensures

pub returns : goal.returns
returns c = whole.long_enough c.write_rule-count.auto.out c.write_rule-count.ensures c.if-out-count.false c.write_rule.ensures

-- `read_rule` meets its contract: the part from the rule's end on is the rest.
use Rattle.rule.specs.Outcome.{kind_of}
use Rattle.rule.proofs.Outcomes.{handed_back}
use Rattle.rule.proofs.read_rule.Goals as goal

pub returns-in-Ok : goal.returns-in-Ok
returns-in-Ok c = let a = c.args in handed_back (kind_of a.kind) a.text a.counts _ c.in-Ok.ensures c.unread.ensures

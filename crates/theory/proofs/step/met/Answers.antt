-- `theory::step::met` meets its contract: the two tests are the two halves of `Met`.
use Rattle.std.proofs.Common.{arith}
use Rattle.std.proofs.lemmas.Grind.{common_steps}
use Rattle.theory.proofs.Action.{both_iff}
use Rattle.theory.proofs.step.met.Goals as goal

pub returns-then-ons-state : goal.returns-then-ons-state
returns-then-ons-state c = let a = c.args in grind (arith, common_steps, both_iff a.ons a.offs a.state)

pub returns-else-ons-state : goal.returns-else-ons-state
returns-else-ons-state c = let a = c.args in grind (arith, common_steps, both_iff a.ons a.offs a.state)

-- `finish::follow::fill` meets its contract: the lengths are measured from the job's end, in states that the log's last one leads to.
use mathlib.Core.Path.{◌≡◌, ◌∙◌}
use lib.ListN.{length}
use Rattle.meaning.specs.Theory.{state_before}
use Rattle.meaning.proofs.Theory.{state_end}
use Rattle.theory.specs.Subject.{subject, world_of}
use Rattle.finish.proofs.Filled.{filled}
use Rattle.finish.proofs.follow.fill.Goals as goal

pub returns : goal.returns
returns c =
    let a = c.args in
    let state = c.state_at-state in
    let turning = c.turns-turning in
    let w = world_of (subject a.asked) in
    let here : state.result ≡ state_before w (length a.asked.log.now) = state.ensures in
    filled (subject a.asked) c.requires (here ∙ state_end w) turning.ensures c.before-2.ensures

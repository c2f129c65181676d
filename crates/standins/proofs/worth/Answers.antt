-- `standins::worth` meets its contract: all actions, or those that are not sifted out.
use Rattle.laws.proofs.Truth.{off_on}
use Rattle.standins.proofs.Sifting.{all_worth, sifted_worth}
use Rattle.standins.proofs.worth.Goals as goal

pub returns-then-not-takes_others : goal.returns-then-not-takes_others
returns-then-not-takes_others c =
    let a = c.args in
    all_worth a.actions a.masks.now a.job.now (λ h. off_on c.if-not-takes_others.true (c.takes_others.ensures.1 h))

pub returns : goal.returns
returns c =
    let a = c.args in
    let takes = c.takes_others in
    let labels = c.named-labels in
    let fluents = c.named-fluents in
    let tested = c.from in
    let job = takes.ensures.0 c.if-not-takes_others.false in
    sifted_worth a.actions a.masks.now a.job.now labels.result fluents.result tested.result c.sifted.result job.0 job.1
    (record { acts = labels.ensures; shows = fluents.ensures; decides = rw tested.ensures c.decisive-decide.ensures }) c.sifted.ensures

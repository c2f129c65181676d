-- `judge::survey` meets its contract, by the laws of `Outcomes`.
use Rattle.laws.proofs.Truth.{off_on}
use Rattle.rule.specs.Outcome.{kind_of}
use Rattle.rule.proofs.Outcomes.{facts_judged}
use Rattle.rule.proofs.judge.survey.Goals as goal

pub returns : goal.returns
returns c =
    let a = c.args in
    facts_judged a.whole (kind_of a.kind) a.text.now a.counts _ _ (λ bad. off_on c.if-bad_counts.false (c.bad_counts.ensures.1 bad)) (rw c.in_ok-f.ensures.ok_part at c.opening.ensures) c.judge.ensures

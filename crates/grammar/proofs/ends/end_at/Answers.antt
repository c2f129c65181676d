-- `ends::end_at` meets its contract, by the laws of `Widths`: an arm is told which signs came.
use mathlib.Core.Path.{refl, ◌∙◌}
use mathlib.Core.List.{[], ◌∷◌}
use native.Mathlib.Omega.{arith}
use Rattle.grammar.proofs.SignTable.{among}
use Rattle.grammar.proofs.Widths as laws
use Rattle.grammar.proofs.ends.end_at.Goals as goal

pub bounds-ends-middle : goal.bounds-ends-middle
bounds-ends-middle c =
    omega (arith, laws.middle_inside c.args.text.now c.args.ends.now c.args.at c.requires, c.requires)

pub returns-in-Step : goal.returns-in-Step
returns-in-Step c =
    laws.end_leaf c.args.text.now c.args.at c.requires.inside c.sign_of.result c.sign_of.ensures
    (among laws.Alone (0 ∷ (5 ∷ (14 ∷ []))) (λ l a. refl, (λ l a. refl, (λ l a. refl, tt))) c.sign_of.result c.in-Step.in-Step-own.keys1)

pub returns-in-NamedStep : goal.returns-in-NamedStep
returns-in-NamedStep c =
    c.within.ensures ∙ laws.end_digits c.args.text.now c.args.at c.requires.inside c.sign_of.result c.sign_of.ensures 3
    (among (laws.Named 3) (1 ∷ (6 ∷ [])) (λ l a. refl, (λ l a. refl, tt)) c.sign_of.result c.in-NamedStep.in-NamedStep-own.keys2)

pub returns-in-SumStep : goal.returns-in-SumStep
returns-in-SumStep c =
    c.within-in-SumStep.ensures ∙ laws.end_digits c.args.text.now c.args.at c.requires.inside c.sign_of.result c.sign_of.ensures 4
    (among (laws.Named 4) (10 ∷ (12 ∷ [])) (λ l a. refl, (λ l a. refl, tt)) c.sign_of.result c.in-SumStep.in-SumStep-own.keys3)

pub returns-in-OverWalk : goal.returns-in-OverWalk
returns-in-OverWalk c =
    laws.table_rule c.args.text.now c.args.ends.now c.args.at c.requires c.sign_of.result c.sign_of.ensures
    (among laws.OverOne (2 ∷ (3 ∷ (7 ∷ []))) (λ l a. refl, (λ l a. refl, (λ l a. refl, tt))) c.sign_of.result c.in-OverWalk.in-OverWalk-own.keys4)

pub returns-in-SomeWalk : goal.returns-in-SomeWalk
returns-in-SomeWalk c =
    rw c.min.ensures
    (laws.table_lettered c.args.text.now c.args.ends.now c.args.at c.requires c.sign_of.result c.sign_of.ensures
    (among laws.OverLettered (11 ∷ (13 ∷ [])) (λ l a. refl, (λ l a. refl, tt)) c.sign_of.result c.in-SomeWalk.in-SomeWalk-own.keys5))

pub returns-in-TwoWalks : goal.returns-in-TwoWalks
returns-in-TwoWalks c =
    rw c.from-middle.ensures
    (laws.table_rules c.args.text.now c.args.ends.now c.args.at c.requires c.sign_of.result c.sign_of.ensures
    (among laws.OverTwo (4 ∷ (8 ∷ (9 ∷ []))) (λ l a. refl, (λ l a. refl, (λ l a. refl, tt))) c.sign_of.result c.in-TwoWalks.in-TwoWalks-own.keys6))

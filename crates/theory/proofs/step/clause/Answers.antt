-- `theory::step::clause` meets its contract: its conditions are asked, and its effects are its masks or nothing.
use Prim.Native.Nat.{◌+◌}
use Rattle.laws.proofs.Truth.{no_truth, off_on}
use Rattle.meaning.specs.Theory.{acts}
use Rattle.theory.specs.Subject.{clause_at}
use Rattle.theory.proofs.Action.{acts_iff, effected, unaffected}
use Rattle.theory.proofs.step.clause.Goals as goal

pub returns-then-met : goal.returns-then-met
returns-then-met c =
    let known = c.type_inv.masks in
    let k = clause_at c.args.masks.now c.args.at in
    effected k c.args.state
    ((acts_iff k c.args.state (known c.args.at).fits (known (c.args.at + 1)).fits).1 (c.met.ensures.0 c.if-met.true))

pub returns-else-met : goal.returns-else-met
returns-else-met c =
    let known = c.type_inv.masks in
    let k = clause_at c.args.masks.now c.args.at in
    unaffected k c.args.state
    (no_truth (acts k c.args.state) (λ e.
    off_on c.if-met.false (c.met.ensures.1 ((acts_iff k c.args.state (known c.args.at).fits (known (c.args.at + 1)).fits).0 e))))

-- `standins::same_clause` meets its contract: when and unless are compared, and the effects.
use mathlib.Core.Path.{refl, sym, ◌∙◌}
use borrow.Author.Tests.{eqb-true}
use Rattle.standins.proofs.same_clause.Goals as goal
use Rattle.standins.proofs.same_clause.Goals.{then-masks-one, else-masks-one}

pub returns-then-masks-one-2 : goal.returns-then-masks-one-2
returns-then-masks-one-2 c =
    let effects = c.same_effects.ensures 0 0 in
    elim c.if-masks-one.branch [
      | then-masks-one w ↦ (
        λ e.
            let same = effects.0 e in
            record { when = w.if-masks-one.true; unless = eqb-true _ _ (sym w.value-is ∙ c.if-masks-one-2.true); put = same.put; drop = same.drop },
        λ h. effects.1 (record { when = refl; unless = refl; put = h.put; drop = h.drop }),
      )
      | else-masks-one w ↦ absurd (w.if-masks-one.false (eqb-true _ _ (sym w.value-is ∙ c.if-masks-one-2.true)))
    ]

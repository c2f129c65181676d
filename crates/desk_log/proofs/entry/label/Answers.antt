-- The room holds what was written, the label's number; so the line is that number, or the number of no label up to this one.
use Rattle.std.proofs.Common.{◌+◌, arith, refl, sym, ◌∙◌}
use Rattle.std.proofs.lemmas.Bool.Decides.{Decides-eqb}
use Rattle.std.proofs.lemmas.Slice.Eq.{slice_eq-Decides}
use Rattle.laws.proofs.Truth.{off_on}
use Rattle.desk_log.proofs.Spelled.{Passed, front_decimal, passed_more}
use Rattle.desk_log.proofs.entry.label.Goals as goal

pub slice_bounds-text-end : goal.slice_bounds-text-end
slice_bounds-text-end c = (front_decimal c.loop-k.k (omega arith) refl c.decimal-n.ensures).1

pub slice_bounds-eq-end : goal.slice_bounds-eq-end
slice_bounds-eq-end c = (front_decimal c.loop-k.k (omega arith) refl c.decimal-n.ensures).2

pub returns-then-eq : goal.returns-then-eq
returns-then-eq c =
    record {
      above = omega arith;
      within = omega arith;
      spells = (slice_eq-Decides Decides-eqb _ _ _ c.eq.ensures).0 c.if-eq.true ∙ (front_decimal c.loop-k.k (omega arith) refl c.decimal-n.ensures).0;
      first = c.loop-k.invariant;
    }

pub loop-k-preserved : goal.loop-k-preserved
loop-k-preserved c =
    let spelled = front_decimal c.loop-k.k (omega arith) refl c.decimal-n.ensures in
    passed_more c.loop-k.invariant (λ e. off_on c.if-eq.false ((slice_eq-Decides Decides-eqb _ _ _ c.eq.ensures).1 (e ∙ sym spelled.0)))

pub returns-else-eq : goal.returns-else-eq
returns-else-eq c =
    let spelled = front_decimal c.loop-k.k (omega arith) refl c.decimal-n.ensures in
    let passed : Passed c.args.line.now (c.loop-k.k + 1) =
    passed_more c.loop-k.invariant (λ e. off_on c.if-eq.false ((slice_eq-Decides Decides-eqb _ _ _ c.eq.ensures).1 (e ∙ sym spelled.0))) in
    λ k h l. passed k h (omega arith)

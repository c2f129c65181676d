-- `ask::reach` meets its contract: the refusal stands, or the evaluator's answer from one position is what the walk reaches.
use mathlib.Core.Path.{refl}
use mathlib.Core.Logic.{inl, inr}
use Rattle.std.proofs.lemmas.Result.{err_from_is_err_and}
use Rattle.ask.proofs.Answering.{walk_first, reach_right}
use Rattle.ask.proofs.reach.Goals as goal

pub walk-found-requires : goal.walk-found-requires
walk-found-requires c = walk_first c.in_ok-check.ensures c.lay_out.ensures

pub returns-in_err-check : goal.returns-in_err-check
returns-in_err-check c =
    let p = err_from_is_err_and c.from_residual.result c.from_residual.ensures.1 in
    rw (p.1, p.2) (inl (record { refused = c.in_err-check.ensures; blank = (refl, refl, refl) }))

pub returns : goal.returns
returns c = inr (record {
  none = refl;
  accepted = c.in_ok-check.ensures;
  right =
      reach_right c.in_ok-check.ensures c.lay_out.ensures c.at-from.result c.walk-found.result c.at-from.ensures c.walk-found.ensures
      c.word.ensures c.count.ensures c.earliest.ensures;
})

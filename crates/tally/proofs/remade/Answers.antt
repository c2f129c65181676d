-- `tally::remade` meets its contract: the world's number stands, and past it the log is gone over.
use mathlib.Core.Path.{refl}
use mathlib.Core.Logic.{inl}
use Rattle.std.proofs.lemmas.Result.{err_from_is_err_and}
use Rattle.tally.proofs.remade.Goals as goal

pub returns-in_err-check_world : goal.returns-in_err-check_world
returns-in_err-check_world c =
    let wrong = rw c.of-setting.ensures at c.in_err-check_world.ensures in
    let p = err_from_is_err_and c.from_residual.result c.from_residual.ensures.1 in
    rw (p.1, p.2) (inl (record { refused = wrong; blank = refl }))

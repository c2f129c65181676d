-- `theory::state` meets its contract: the world's number stands, then the position decides, and past both the state is read off the log.
use mathlib.Core.Path.{refl}
use mathlib.Core.Logic.{inl}
use Rattle.std.proofs.lemmas.Result.{err_from_is_err_and}
use Rattle.meaning.proofs.Refusal.{refused_first}
use Rattle.theory.specs.Subject.{Subject, plain_subject}
use Rattle.theory.specs.Rows.{world_rows, position_rows}
use Rattle.theory.proofs.state.Goals as goal

pub returns-in_err-check_world : goal.returns-in_err-check_world
returns-in_err-check_world c =
    let subject : Subject = plain_subject c.args.asked in
    let told = rw c.unvalued-setting.ensures at c.in_err-check_world.ensures in
    let p = err_from_is_err_and c.from_residual.result c.from_residual.ensures.1 in
    rw (p.1, p.2)
    (inl (record { refused = refused_first (world_rows subject) (position_rows subject c.args.position) told; blank = refl }))

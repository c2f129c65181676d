-- `finish::finish` meets its contract: the checks decide, and past them the search.
use mathlib.Core.Path.{refl}
use mathlib.Core.Logic.{inl}
use lib.ListN.{length}
use Rattle.std.proofs.lemmas.Result.{err_from_is_err_and}
use Rattle.meaning.proofs.Refusal.{refused_first}
use Rattle.theory.specs.Subject.{Subject, subject}
use Rattle.finish.specs.Rows.{check_rows, search_rows}
use Rattle.finish.proofs.Checking.{sought_answered}
use Rattle.finish.proofs.finish.Goals as goal

pub returns-in_err-check : goal.returns-in_err-check
returns-in_err-check c =
    let a = c.args in
    let subject : Subject = subject a.asked in
    let p = err_from_is_err_and c.from_residual.result c.from_residual.ensures.1 in
    rw (p.1, p.2)
    (inl (record {
      refused = refused_first (check_rows subject a.job.now a.more (length a.out.now)) (search_rows subject a.job.now a.more) c.in_err-check.ensures;
      blank = (refl, refl);
    }))

pub returns : goal.returns
returns c =
    let a = c.args in
    sought_answered (subject a.asked) a.job.now a.more a.out.now c.seek.new.out c.seek.result c.in_ok-check.ensures c.seek.ensures

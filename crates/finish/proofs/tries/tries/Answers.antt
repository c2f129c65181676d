-- `finish::tries::tries` meets its contract: an action that is not possible, or that the job does not ask for, begins no rest.
use mathlib.Core.Path.{refl}
use native.Mathlib.Omega.{arith}
use lib.ListN.{length}
use Rattle.meaning.specs.Theory.{now_step, as_job}
use Rattle.meaning.specs.Lengths.{allows}
use Rattle.runs.specs.Values.{unbound}
use Rattle.runs.specs.Found.{Tabled}
use Rattle.runs.proofs.Bound.{bears_none}
use Rattle.theory.specs.Subject.{subject, world_of}
use Rattle.tables.proofs.Transposed.{described_owning}
use Rattle.finish.proofs.LeftOut.{asked_able, asked_next}
use Rattle.finish.proofs.tries.tries.Goals as goal

pub returns : goal.returns
returns c =
    let a = c.args in
    let subject = subject a.asked in
    let asked = c.asked-waited in
    let tabled : Tabled (as_job (world_of subject)) a.rows.now (unbound a.asked.setting.counts.domain 0 a.asked.setting.reading) (length a.asked.log.now) =
    record {
      described = described_owning (world_of subject) now_step c.requires.1.described;
      logged = omega arith;
      room = c.requires.0.logged.short;
      bears = bears_none (as_job (world_of subject)) refl 0 a.asked.setting.reading refl refl;
    } in
    record {
      able = asked_able subject a.state c.doable-able.result asked.result c.requires.1.here c.doable-able.ensures;
      each = λ x j.
          asked_next (allows a.follow.now a.left) subject x a.state c.doable-able.result asked.result c.requires.0.logged.table.few c.requires.1.here c.doable-able.ensures
          (asked.ensures.each (as_job (world_of subject)) tabled x j.there);
    }

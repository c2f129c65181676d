-- `theory::faults::check_world` meets its contract: the theory's number stands, and where it has none the log decides.
use mathlib.Core.List.{List}
use Rattle.meaning.specs.Refusal.{Row}
use Rattle.meaning.proofs.Refusal.{here, refused_second}
use Rattle.theory.specs.Subject.{subject_of}
use Rattle.theory.specs.Rows.{theory_rows, log_rows}
use Rattle.theory.proofs.faults.check_world.Goals as goal

pub returns-then-bad_log : goal.returns-then-bad_log
returns-then-bad_log c =
    let first : List {1} Row = theory_rows c.args.asked.setting c.args.asked.masks.now in
    let second : List {1} Row = log_rows (subject_of c.args.asked.setting c.args.asked.masks.now c.args.asked.log.now) in
    refused_second first second c.in_ok-check_theory.ensures
    (here (c.bad_log.ensures.0 c.if-bad_log.true))

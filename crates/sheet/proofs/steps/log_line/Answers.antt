-- `sheet::steps::log_line` meets its contract. Assumes nothing.
use mathlib.Core.Path.{◌≡◌, refl, sym, ◌∙◌, subst}
use mathlib.Core.List.{List}
use Prim.Native.Nat.{ℕ, ◌≤◌}
use native.Mathlib.Omega.{arith}
use lib.ListN.{length, take}
use lib.Seq.{length-take-le}
use Rattle.std.specs.Prelude.{None, Some}
use Rattle.std.proofs.lemmas.Result.{err_from_is_err_and}
use Rattle.laws.proofs.Truth.{off_on}
use Rattle.meaning.specs.Limits.{log_limit}
use Rattle.meaning.specs.Refusal.{BadLog}
use Rattle.spelling.specs.Scan.{stretch}
use Rattle.spelling.proofs.LogText.{same_log}
use Rattle.sheet_lines.specs.Forms.{log_form}
use Rattle.sheet_lines.proofs.Forms.{log_clear}
use Rattle.sheet_lines.proofs.Say.{given, noted, unsaid, accepted}
use Rattle.sheet.specs.Log.{StepsAre, StepsRead}
use Rattle.sheet.proofs.LogSteps.{steps_few, steps_writable, other_limit}
use Rattle.sheet.proofs.steps.log_line.Goals as goal

pub returns-in_err-count : goal.returns-in_err-count
returns-in_err-count c =
    let a = c.args in
    let p = err_from_is_err_and c.from_residual-in_err-count.result c.from_residual-in_err-count.ensures.1 in
    let none : c.read_steps.result ≡ None = grind arith in
    let other = subst (StepsRead a.version.log (stretch a.sheet.now c.in_ok-c.c.start c.in_ok-c.c.end) a.log.now c.read_steps.new.log) none c.read_steps.ensures in
    let bad = given c.read_steps.result _ _ c.in_err-count.ensures.value in
    rw (p.1, p.2, ← bad) (
      (
        unsaid (log_form a.version a.actions) a.sheet.now a.at a.line c.in_ok-c.ensures.0
            (λ said good. other said (steps_few a.version.log a.actions said good) (steps_writable a.version.log a.actions said c.requires.2 good)),
        refl,
      ),
      tt,
    )

pub returns-then-bad_log : goal.returns-then-bad_log
returns-then-bad_log c =
    let a = c.args in
    let n = c.in_ok-count.count in
    let log : List ℕ = c.read_steps.new.log in
    let some : c.read_steps.result ≡ Some n = grind arith in
    let steps : StepsAre a.version.log (stretch a.sheet.now c.in_ok-c.c.start c.in_ok-c.c.end) a.log.now log n = subst (StepsRead a.version.log (stretch a.sheet.now c.in_ok-c.c.start c.in_ok-c.c.end) a.log.now log) some c.read_steps.ensures in
    let fits : n ≤ length log = omega (arith, steps.few, c.requires.1.short, c.requires.3, c.read_steps.auto) in
    let short : length (take n log) ≤ log_limit = omega (arith, length-take-le n log fits, steps.few, c.requires.1.short) in
    let bad = c.bad_log.ensures.0 c.if-bad_log.true in (
      (
        unsaid (log_form a.version a.actions) a.sheet.now a.at a.line c.in_ok-c.ensures.0
            (λ said good e.
            let same : said ≡ take n log = same_log said (take n log) (sym e ∙ steps.spelled) in
            good (subst (BadLog a.version.log a.actions) (sym same) (other_limit log_limit a.version.log a.actions (take n log) short bad))),
        refl,
      ),
      tt,
    )

pub returns : goal.returns
returns c =
    let a = c.args in
    let n = c.in_ok-count.count in
    let log : List ℕ = c.read_steps.new.log in
    let some : c.read_steps.result ≡ Some n = grind arith in
    let steps : StepsAre a.version.log (stretch a.sheet.now c.in_ok-c.c.start c.in_ok-c.c.end) a.log.now log n = subst (StepsRead a.version.log (stretch a.sheet.now c.in_ok-c.c.start c.in_ok-c.c.end) a.log.now log) some c.read_steps.ensures in
    let fits : n ≤ length log = omega (arith, steps.few, c.requires.1.short, c.requires.3, c.read_steps.auto) in
    let within : length (take n log) ≤ a.version.log = omega (arith, length-take-le n log fits, steps.few) in (
      accepted (log_form a.version a.actions) a.sheet.now a.at a.line (log_clear a.version a.actions) (noted n c.in_ok-c.ensures.0) (take n log)
          (λ bad.
          off_on c.if-bad_log.false
          (c.bad_log.ensures.1 (other_limit a.version.log log_limit a.actions (take n log) within bad)))
          steps.spelled
          tt,
      (steps.few, steps.back),
    )

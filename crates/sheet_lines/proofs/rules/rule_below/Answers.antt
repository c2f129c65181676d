-- `sheet_lines::rules::rule_below` meets its contract. Assumes nothing.
use Prim.Native.Nat.{◌+◌}
use Rattle.rule.specs.Outcome.{kind_of}
use Rattle.spelling.specs.Scan.{stretch}
use Rattle.std.specs.Prelude.{Ok}
use Rattle.sheet_lines.specs.Forms.{rule_form}
use Rattle.sheet_lines.proofs.Below.{read_below}
use Rattle.sheet_lines.proofs.RuleLine.{rule_refused, rule_fits}
use Rattle.sheet_lines.proofs.rules.rule_below.Goals as goal

pub returns-in-Err : goal.returns-in-Err
returns-in-Err c =
    let a = c.args in
    let stood = c.in_ok-c.ensures.0 in
    ((rule_refused a.key.now (kind_of a.kind) a.counts a.sheet.now (a.above.end + 1) (a.above.line + 1) _ stood c.requires.1 c.in-Err.ensures, stood.counted), tt)

pub returns-in-Ok : goal.returns-in-Ok
returns-in-Ok c =
    let a = c.args in
    let told = c.in_ok-c.ensures in (
      read_below (rule_form a.key.now (kind_of a.kind) a.counts) a.sheet.now a.above (λ c. stretch a.sheet.now c.start c.end) c.requires.0 (Ok c.in_ok-c.c)
          (rule_fits a.key.now (kind_of a.kind) a.counts a.sheet.now (a.above.end + 1) (a.above.line + 1) _ told.0 c.in-Ok.ensures),
      told.1,
    )

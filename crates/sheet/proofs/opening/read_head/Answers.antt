-- `sheet::opening::read_head` meets its contract: each line leads on to the next, and a refused one is the fault. Assumes nothing.
use mathlib.Core.Path.{sym, subst}
use Prim.Native.Nat.{◌+◌}
use native.Mathlib.Omega.{arith}
use Rattle.std.proofs.lemmas.Result.{err_from_is_err_and}
use Rattle.theory.specs.Subject.{setting_of}
use Rattle.sheet_lines.specs.Versions.{Usable, version_meant}
use Rattle.sheet_lines.specs.Forms.{version_form, fluents_form, actions_form, domain_form, start_form}
use Rattle.sheet_lines.proofs.Below.{below_line}
use Rattle.sheet_lines.proofs.VersionRows.{usable}
use Rattle.sheet.specs.Lines.{from_fluents, from_actions, from_domain, from_start, from_acts}
use Rattle.sheet.proofs.Order.{at_line, bad_line, bad_if, next_line, below_if}
use Rattle.sheet.proofs.First.{few_values, to_fluents, to_actions, to_domain, to_start}
use Rattle.sheet.proofs.opening.read_head.Goals as goal

pub returns-in_err-first : goal.returns-in_err-first
returns-in_err-first c =
    let p = err_from_is_err_and c.from_residual.result c.from_residual.ensures.1 in
    rw (p.1, p.2) (at_line version_form c.args.sheet.now 0 1 (λ number at. from_fluents (version_meant number)) c.in_err-first.ensures)

pub returns-in_err-fluents : goal.returns-in_err-fluents
returns-in_err-fluents c =
    let p = err_from_is_err_and c.from_residual-in_err-fluents.result c.from_residual-in_err-fluents.ensures.1 in
    let v = c.version_of-version.result in
    rw (p.1, p.2)
    (bad_line fluents_form (λ fluents at. from_actions v fluents)
    (to_fluents c.args.sheet.now v c.in_ok-first.first c.version_of-version.ensures c.in_ok-first.ensures)
    c.in_err-fluents.ensures)

pub returns-in_err-actions : goal.returns-in_err-actions
returns-in_err-actions c =
    let p = err_from_is_err_and c.from_residual-in_err-actions.result c.from_residual-in_err-actions.ensures.1 in
    let v = c.version_of-version.result in
    let two = c.in_ok-fluents in
    rw (p.1, p.2)
    (bad_line actions_form (λ actions at. from_domain v two.fluents.number actions)
    (to_actions c.args.sheet.now v c.in_ok-first.first c.version_of-version.ensures c.in_ok-first.ensures two.fluents two.ensures.0)
    c.in_err-actions.ensures)

pub returns-in_err-domain : goal.returns-in_err-domain
returns-in_err-domain c =
    let p = err_from_is_err_and c.from_residual-in_err-domain.result c.from_residual-in_err-domain.ensures.1 in
    let v = c.version_of-version.result in
    let two = c.in_ok-fluents in
    let three = c.in_ok-actions in
    rw (p.1, p.2)
    (bad_if v.valued domain_form 0 (λ domain. from_start v (record { fluents = two.fluents.number; actions = three.actions.number; domain = domain })) (λ c. c.number) three.actions c.in_err-domain.field-0.0
    (to_domain c.args.sheet.now v c.in_ok-first.first c.version_of-version.ensures c.in_ok-first.ensures two.fluents two.ensures.0 three.actions three.ensures.0)
    c.in_err-domain.ensures)

pub returns-in_err-last : goal.returns-in_err-last
returns-in_err-last c =
    let p = err_from_is_err_and c.from_residual-in_err-last.result c.from_residual-in_err-last.ensures.1 in
    let v = c.version_of-version.result in
    let two = c.in_ok-fluents in
    let three = c.in_ok-actions in
    let four = c.in_ok-domain in
    rw (p.1, p.2)
    (bad_line (start_form two.fluents.number) (λ start at. from_acts v (setting_of two.fluents.number three.actions.number four.domain.number start 0))
    (to_start c.args.sheet.now v c.in_ok-first.first c.version_of-version.ensures c.in_ok-first.ensures two.fluents two.ensures.0 three.actions three.ensures.0 four.domain four.ensures)
    c.in_err-last.ensures)

pub returns : goal.returns
returns c =
    let v = c.version_of-version.result in
    let two = c.in_ok-fluents in
    let three = c.in_ok-actions in
    let four = c.in_ok-domain in
    let last = c.in_ok-last.last in
    let form = start_form two.fluents.number in
    let below = below_if v.valued domain_form c.args.sheet.now (λ c. c.number) three.actions four.domain three.ensures.1 four.ensures in
    record {
      usable = subst Usable (sym c.version_of-version.ensures) (usable c.in_ok-first.first.number);
      ranged = record {
        few_fluents = two.ensures.0.says.in_range.1;
        some_actions = three.ensures.0.says.in_range.0;
        few_actions = three.ensures.0.says.in_range.1;
        few_values = few_values v.valued c.args.sheet.now three.actions four.domain four.ensures;
      };
      below = below_line form c.args.sheet.now (four.domain.end + 1) (four.domain.line + 1) last.number last c.in_ok-last.ensures (omega (arith, below.early));
      onward = next_line form (λ start at. from_acts v (setting_of two.fluents.number three.actions.number four.domain.number start 0)) last.number last
          (to_start c.args.sheet.now v c.in_ok-first.first c.version_of-version.ensures c.in_ok-first.ensures two.fluents two.ensures.0 three.actions three.ensures.0 four.domain four.ensures)
          c.in_ok-last.ensures;
    }

-- From the check of a rule's text to the line that holds it: the check's number is the line's, and a text that fits is a line without fault.
use mathlib.Core.Path.{refl, sym, subst}
use mathlib.Core.Logic.{⊎_elim}
use mathlib.Core.Bool.{true}
use mathlib.Core.List.{List}
use Prim.Native.Nat.{ℕ}
use native.Mathlib.Omega.{arith}
use Rattle.meaning.specs.Rule.{Kind}
use Rattle.meaning.specs.Refusal.{Refused, Accepted, BadRule}
use Rattle.meaning.proofs.Refusal.{rest_refused, not_first, not_rest}
use Rattle.theory.specs.Rows.{CountsOut}
use Rattle.theory.specs.declared.Counts.{Counts}
use Rattle.spelling.specs.Scan.{stretch}
use Rattle.rule.specs.Outcome.{rule_rows}
use Rattle.sheet_lines.specs.Line.{Form, line_rows}
use Rattle.sheet_lines.specs.Forms.{rule_form}
use Rattle.sheet_lines.specs.Found.{CursorAt, Accepts}
use Rattle.sheet_lines.specs.Ranged.{Ranged}
use Rattle.sheet_lines.specs.declared.Cursor.{Cursor}
use Rattle.sheet_lines.proofs.Forms.{rule_clear}
use Rattle.sheet_lines.proofs.Rows.{clean_by, judged_by}
use Rattle.sheet_lines.proofs.Say.{unsaid, says, accepted}

-- counts that a sheet's head says are in range
pub counts_good : (counts : Counts) → Ranged counts → CountsOut counts → ⊥
counts_good counts r =
    ⊎_elim (⊎_elim (λ h. omega (arith, r.few_fluents)) (⊎_elim (λ h. omega (arith, r.some_actions)) (λ h. omega (arith, r.few_actions))))
    (λ h. omega (arith, r.few_values))

module _ (key : List ℕ) (kind : Kind) (counts : Counts) (bytes : List ℕ) (at line : ℕ) (c : Cursor) (stands : CursorAt key bytes at line c) where
  abbrev form : Form
  form = rule_form key kind counts

  abbrev text : List ℕ
  text = stretch bytes c.start c.end

  pub rule_refused : Ranged counts → {N : ℕ} → Refused (rule_rows true kind text counts) N → Refused (line_rows form bytes at) N
  rule_refused ranged r =
      ⊎_elim
      (λ h. subst (Refused (line_rows form bytes at)) (sym h.0) (unsaid form bytes at line stands (λ said good e. good (subst (BadRule counts.domain kind) e h.1))))
      (λ h.
      judged_by form bytes at (rule_clear key kind counts) text (says form bytes at line stands text h.0 refl) (record { first = h.1 }))
      (rest_refused (counts_good counts ranged) r).first

  pub rule_fits : Accepted (rule_rows true kind text counts) → Accepts form bytes at line text c
  rule_fits all =
      let rest = not_rest all in
      accepted form bytes at line (rule_clear key kind counts) stands text (not_first rest) refl (clean_by form.judges text (not_rest rest))

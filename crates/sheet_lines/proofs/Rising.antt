-- The numbers of refusal of each line rise: "within it the smallest number" is the first row that holds.
use mathlib.Core.Path.{◌≡◌, refl}
use mathlib.Core.List.{List, []}
use Prim.Native.Nat.{ℕ}
use Rattle.meaning.specs.Rule.{Kind}
use Rattle.meaning.specs.Refusal.{falls}
use Rattle.theory.specs.declared.Counts.{Counts}
use Rattle.sheet_lines.specs.Line.{line_rows, end_rows}
use Rattle.sheet_lines.specs.Forms.{number_form, start_form, act_form, log_form, rule_form}
use Rattle.sheet_lines.specs.declared.Version.{Version}

module _ (bytes : List ℕ) (at : ℕ) where
  pub number_rises : (key : List ℕ) (width low high : ℕ) → falls (line_rows (number_form key width low high) bytes at) ≡ []
  number_rises key width low high = refl

  pub start_rises : (fluents : ℕ) → falls (line_rows (start_form fluents) bytes at) ≡ []
  start_rises fluents = refl

  pub act_rises : (v : Version) (fluents : ℕ) → falls (line_rows (act_form v fluents) bytes at) ≡ []
  act_rises v fluents = refl

  pub log_rises : (v : Version) (actions : ℕ) → falls (line_rows (log_form v actions) bytes at) ≡ []
  log_rises v actions = refl

  pub rule_rises : (key : List ℕ) (kind : Kind) (counts : Counts) → falls (line_rows (rule_form key kind counts) bytes at) ≡ []
  rule_rises key kind counts = refl

  pub end_rises : falls (end_rows bytes at) ≡ []
  end_rises = refl

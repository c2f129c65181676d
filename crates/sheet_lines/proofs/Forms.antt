-- Each form of a line is clear: two things in its range that are written alike are one.
use mathlib.Core.Path.{refl, ap}
use mathlib.Core.List.{List}
use Prim.Native.Nat.{ℕ, zero, suc, ◌<◌, ◌^◌}
use native.Mathlib.Omega.{arith}
use lib.ListN.{length}
use Rattle.meaning.specs.Rule.{Kind}
use Rattle.theory.specs.declared.Counts.{Counts}
use Rattle.spelling.proofs.Numeral.{same_number}
use Rattle.spelling.proofs.LogText.{same_log}
use Rattle.sheet_lines.specs.Forms.{number_form, start_form, act_form, log_form, now_form, rule_form}
use Rattle.sheet_lines.specs.declared.Version.{Version}
use Rattle.sheet_lines.proofs.MaskRow.{same_masks}
use Rattle.sheet_lines.proofs.Rows.{Clear}

pub number_clear : (key : List ℕ) (width low high : ℕ) → high < 10 ^ width → Clear (number_form key width low high)
number_clear key width low high room a b ra rb e = same_number 10 width a b (omega arith) (omega arith) (omega (arith, ra.1)) (omega (arith, rb.1)) e

pub start_clear : (fluents : ℕ) → Clear (start_form fluents)
start_clear fluents a b ra rb e = same_number 16 8 a b (omega arith) (omega arith) ra rb e

pub act_clear : (v : Version) (fluents : ℕ) → Clear (act_form v fluents)
act_clear v fluents = same_masks v.masks

pub log_clear : (v : Version) (actions : ℕ) → Clear (log_form v actions)
log_clear v actions a b ga gb e = same_log a b e

pub now_clear : Clear now_form
now_clear zero zero ra rb e = refl
now_clear zero (suc b) ra rb e = absurd (let long = ap length e in omega arith)
now_clear (suc a) zero ra rb e = absurd (let long = ap length e in omega arith)
now_clear (suc a) (suc b) ra rb e = omega (arith, ra, rb)

pub rule_clear : (key : List ℕ) (kind : Kind) (counts : Counts) → Clear (rule_form key kind counts)
rule_clear key kind counts a b ra rb e = e

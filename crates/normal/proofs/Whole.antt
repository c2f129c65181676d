-- The whole text as one rule of a kind: what the rewriter asks of it, and what its run over no output tells. Knows no code.
use mathlib.Core.Path.{◌≡◌, ap, ◌∙◌}
use mathlib.Core.List.{List, ◌++◌}
use Prim.Native.Nat.{ℕ, ◌+◌, ◌≤◌}
use native.Mathlib.Omega.{arith}
use lib.ListN.{length, replicate}
use lib.Seq.{sets}
use Rattle.std.specs.Prelude.{Ok}
use Rattle.std.proofs.lemmas.List.{nil_from_length}
use Rattle.meaning.specs.Limits.{text_limit}
use Rattle.meaning.specs.Rule.{Kind}
use Rattle.grammar.specs.Ends.{FillOutcome}
use Rattle.grammar.proofs.Widths.{ends_told}
use Rattle.normal.specs.Answer.{normal_text}
use Rattle.normal.specs.Whole.{ShortRule, SpelledWhole, RuleWritten, WrittenOut}

-- the table that a call fills says where each rule ends
pub marked_by : {kind : Kind} {bytes ends : List ℕ} (h : ShortRule kind bytes) → FillOutcome bytes (replicate (text_limit + 1) 0) ends → SpelledWhole kind bytes ends
marked_by {bytes = bytes} {ends = ends} h filled =
    record { rule = h.rule; spells = h.spells; marked = record { short = h.short; table = ends_told bytes ends h.short filled } }

-- A run over no output, which counts, and then what the count decides. The empty part is lent from the output's front and comes back.
module _ {kind : Kind} {bytes none dry out : List ℕ} {count : ℕ} (empty : length dry ≡ 0) (h : RuleWritten kind bytes none count dry) where
  same_out : dry ++ out ≡ out
  same_out = ap (λ (l : List ℕ). l ++ out) (nil_from_length dry empty)

  pub long_enough : {count' : ℕ} {after : List ℕ}
      → count ≤ length (dry ++ out)
      → RuleWritten kind bytes (dry ++ out) count' after
      → WrittenOut kind bytes out (Ok count) after
  long_enough l i = record {
    each = λ r o. (h.counted r o, omega (arith, ap length same_out), i.written r o ∙ ap (λ (x : List ℕ). sets x 0 (normal_text r)) same_out);
  }

-- What a caller of `answer` learns: the bytes counted are within the output, and they are the text of the outcome.
use mathlib.Core.Path.{◌≡◌, sym, ap, ◌∙◌}
use mathlib.Core.List.{List}
use Prim.Native.Nat.{ℕ, ◌≤◌}
use native.Mathlib.Omega.{arith}
use lib.ListN.{length, take, drop, length-append}
use lib.Seq.{take-append_seam}
use Rattle.answer.specs.Text.{text_of}
use Rattle.answer.specs.Written.{AnswerWritten}

module _ {sheet before after : List ℕ} {count : ℕ} (t : AnswerWritten sheet before after count) where
  pub told_text : take count after ≡ text_of t.told
  told_text = rw (t.counted, t.fronts) (take-append_seam (text_of t.told) (drop (length (text_of t.told)) before))

  pub told_counts : (count ≤ length after) × (count ≡ length (take count after))
  told_counts =
      let long = ap length t.fronts ∙ length-append (text_of t.told) (drop (length (text_of t.told)) before) in
      (omega (arith, long, t.counted), t.counted ∙ sym (ap length told_text))

-- Laws of what `normal` answers: its list is a rule's list and one row more, and the contract leaves one outcome. No code.
use mathlib.Core.Path.{◌≡◌, refl, sym, ap, subst₂, ◌∙◌}
use mathlib.Core.Logic.{inl, inr}
use mathlib.Core.Bool.{true}
use mathlib.Core.List.{List, [], ◌∷◌, ◌++◌}
use Prim.Native.Nat.{ℕ, ◌≤◌, ◌<◌}
use native.Mathlib.Omega.{arith}
use native.Mathlib.Nat.{zero-add}
use lib.ListN.{length, drop}
use lib.Seq.{sets, sets-eq}
use Rattle.std.specs.Prelude.{Result, Ok, Err}
use Rattle.meaning.specs.Rule.{Kind, Rule, Opens}
use Rattle.meaning.specs.Refusal.{Row, Accepted, falls, TooShort, no_count}
use Rattle.meaning.proofs.Refusal.{here, accepts, passes, refused_second, accepted_both, answered_determined}
use Rattle.meaning.proofs.Reading.{unique_reading}
use Rattle.refusal.specs.declared.Refusal.{Refusal}
use Rattle.refusal.specs.Given.{number_given, value_given}
use Rattle.refusal.proofs.Given.{same_given}
use Rattle.theory.specs.declared.Counts.{Counts}
use Rattle.rule.specs.Outcome.{Spelled, With, rule_rows}
use Rattle.normal.specs.Answer.{normal_text, output_rows, normal_rows, NormalAnswered}
use Rattle.normal.specs.Whole.{ByRoom}

-- What the checks make, one after the other.
module _ (kind : Kind) (bytes : List ℕ) (counts : Counts) (before : List ℕ) where
  abbrev first : List {1} Row
  first = rule_rows true kind bytes counts

  abbrev second : List {1} Row
  second = output_rows kind bytes (length before)

  module _ (ok : Accepted first) (rule : Rule) (spells : Opens kind bytes rule []) where
    -- the output is too short
    short_held : length before < length (normal_text rule) → NormalAnswered kind bytes counts before 12 no_count before
    short_held l = inl (record {
      refused = refused_second first second ok (here (record { rule = rule; spells = spells; faulty = l }));
      blank = record { none = refl; same = refl };
    })

    -- it is not, for whichever rule the bytes spell
    long_enough : length (normal_text rule) ≤ length before → With (Spelled true kind bytes) (λ r. TooShort (length before) (length (normal_text r))) → ⊥
    long_enough l w = omega (arith, w.faulty, ap (λ (r : Rule). length (normal_text r)) (unique_reading w.spells spells).0)

    written_out : {count : ℕ} {after : List ℕ} → count ≡ length (normal_text rule) → count ≤ length before → after ≡ sets before 0 (normal_text rule)
        → NormalAnswered kind bytes counts before 0 count after
    written_out {count} {after} c l w = inr (record {
      none = refl;
      accepted = accepted_both first second ok (passes (long_enough (omega arith)) accepts);
      right = record {
        rule = rule;
        spells = spells;
        counted = c;
        written = w ∙ sets-eq (normal_text rule) before 0 (omega arith) ∙ rw zero-add;
      };
    })

    -- whichever it is
    pub by_room : (a : Result ℕ Refusal) (after : List ℕ) → ByRoom rule before a after → NormalAnswered kind bytes counts before (number_given a) (value_given no_count a) after
    by_room (Err why) after h =
        subst₂ (λ (n : ℕ) (l : List ℕ). NormalAnswered kind bytes counts before n no_count l) (sym h.0) (sym h.2) (short_held h.1)
    by_room (Ok n) after h = written_out h.0 h.1 h.2

-- its numbers rise, but that 13 comes before 12
pub normal_rises : (kind : Kind) (bytes : List ℕ) (counts : Counts) (room : ℕ) → falls (normal_rows kind bytes counts room) ≡ (13, 12) ∷ []
normal_rises kind bytes counts room = refl

-- The contract leaves one outcome: number, count and bytes.
pub normal_determined : {kind : Kind} {bytes : List ℕ} {counts : Counts} {before : List ℕ} {number number' count count' : ℕ} {after after' : List ℕ}
    → NormalAnswered kind bytes counts before number count after → NormalAnswered kind bytes counts before number' count' after'
    → (number ≡ number') × (count ≡ count') × (after ≡ after')
normal_determined {before = before} o o' =
    answered_determined o o'
    (λ n h k. (n, h.none ∙ sym k.none, h.same ∙ sym k.same))
    (λ n h k.
    let e = (unique_reading h.spells k.spells).0 in (
      n,
      h.counted ∙ ap (λ (r : Rule). length (normal_text r)) e ∙ sym k.counted,
      h.written ∙ ap (λ (r : Rule). normal_text r ++ drop (length (normal_text r)) before) e ∙ sym k.written,
    ))

-- So it leaves one answer: the number and the count tell which.
pub answer_determined : {kind : Kind} {bytes : List ℕ} {counts : Counts} {before after after' : List ℕ} (a a' : Result ℕ Refusal)
    → NormalAnswered kind bytes counts before (number_given a) (value_given no_count a) after → NormalAnswered kind bytes counts before (number_given a') (value_given no_count a') after'
    → (a ≡ a') × (after ≡ after')
answer_determined a a' h h' = let (n, c, e) = normal_determined h h' in (same_given no_count a a' n c, e)

-- Laws of reading a log step by step: two digits a step, which go to the front of the lent log.
use mathlib.Core.Path.{◌≡◌, refl, sym, ap, ◌∙◌}
use mathlib.Core.Logic.{inl, inr}
use mathlib.Core.List.{List, [], ◌∷◌, ◌++◌}
use Prim.Native.Nat.{ℕ, ◌+◌, ◌-◌, ◌*◌, ◌≤◌, ◌<◌}
use native.Mathlib.Numerals.{add-one}
use native.Mathlib.Decide.{dec_lt}
use native.Mathlib.Omega.{arith}
use lib.ListN.{length, get_or, take, drop, set, length-set, take-append-drop}
use lib.Seq.{take-add, take-suc-set, drop-drop, drop-set-lt}
use Rattle.meaning.specs.Limits.{action_limit}
use Rattle.meaning.specs.Rule.{digits}
use Rattle.meaning.specs.Refusal.{BadLog}
use Rattle.spelling.specs.Numeral.{log_text}
use Rattle.spelling.specs.Scan.{stretch}
use Rattle.spelling.proofs.LogText.{log_long, log_append, step_in}
use Rattle.spelling.proofs.Stretch.{length_stretch, run_of}
use Rattle.sheet.specs.Log.{Writable}

-- The first steps of a value are read into the front of the log, and nothing else has changed.
pub record Steps (value entry log : List ℕ) (i : ℕ) : Type 0 where
  pub long : length log ≡ length entry
  pub read : take (2 * i) value ≡ log_text (take i log)
  pub back : drop i log ≡ drop i entry

pub steps_none : (value log : List ℕ) → Steps value log log 0
unfolding log_text
steps_none value log = record { long = refl; read = refl; back = refl }

one_step : (log : List ℕ) (a : ℕ) → log_text (log ++ (a ∷ [])) ≡ log_text log ++ digits a
unfolding log_text
one_step log a = log_append log (a ∷ [])

pub steps_more :
    (value entry log : List ℕ) (i n : ℕ) → i < length entry → Steps value entry log i → take 2 (drop (2 * i) value) ≡ digits n
    → Steps value entry (set log i n) (i + 1)
steps_more value entry log i n room s e =
    let long = s.long in
    let more : 2 * (i + 1) ≡ 2 * i + 2 = omega arith in
    record {
      long = length-set log i n ∙ s.long;
      read =
          ap (λ (k : ℕ). take k value) more
          ∙ take-add (2 * i) 2 value
          ∙ ap (λ (l : List ℕ). l ++ take 2 (drop (2 * i) value)) s.read
          ∙ ap (λ (l : List ℕ). log_text (take i log) ++ l) e
          ∙ sym (one_step (take i log) n)
          ∙ ap log_text (sym (take-suc-set log i n (omega arith)))
          ∙ ap (λ (k : ℕ). log_text (take k (set log i n))) (sym (add-one i));
      back =
          drop-set-lt (i + 1) log i n (omega arith)
          ∙ sym (drop-drop 1 i log)
          ∙ ap (drop 1) s.back
          ∙ drop-drop 1 i entry;
    }

-- the two digits at a step's place on the sheet are those of the value
pub step_of :
    (bytes rest : List ℕ) (start end i n : ℕ) → 2 * i + 2 ≤ end - start → drop (start + 2 * i) bytes ≡ digits n ++ rest
    → take 2 (drop (2 * i) (stretch bytes start end)) ≡ digits n
step_of bytes rest start end i n room e = run_of bytes start end (2 * i) 2 room ∙ ap (take 2) e

-- a stretch that is the text of a log has two bytes a step,
pub two_a_step :
    (bytes : List ℕ) (start end : ℕ) (log : List ℕ) → end ≤ length bytes → stretch bytes start end ≡ log_text log → end - start ≡ 2 * length log
two_a_step bytes start end log room e = sym (length_stretch bytes start end room) ∙ ap length e ∙ log_long log

-- and each step in its place
pub text_step :
    (bytes : List ℕ) (start end i : ℕ) (log : List ℕ) → end ≤ length bytes → i < length log → stretch bytes start end ≡ log_text log
    → drop (start + 2 * i) bytes ≡ digits (get_or log i 0) ++ drop 2 (drop (start + 2 * i) bytes)
text_step bytes start end i log room l e =
    let long = two_a_step bytes start end log room e in
    sym (take-append-drop 2 (drop (start + 2 * i) bytes))
    ∙ ap (λ (l : List ℕ). l ++ drop 2 (drop (start + 2 * i) bytes))
    (sym (run_of bytes start end (2 * i) 2 (omega arith)) ∙ ap (λ (l : List ℕ). take 2 (drop (2 * i) l)) e ∙ step_in log i l)

-- What a log that is not bad has: each step is an action of the theory, and there are few enough.
steps_known : (limit actions : ℕ) (log : List ℕ) → (BadLog limit actions log → ⊥) → (k : ℕ) → k < length log → get_or log k 0 < actions
steps_known limit actions log good k l = go (dec_lt (get_or log k 0) actions)
  where
    go : Dec (get_or log k 0 < actions) → get_or log k 0 < actions
    go (yes h) = h
    go (no h) = absurd (good (inr (record { place = k; there = l; lacking = omega arith })))

pub steps_few : (limit actions : ℕ) (log : List ℕ) → (BadLog limit actions log → ⊥) → length log ≤ limit
steps_few limit actions log good = go (dec_lt limit (length log))
  where
    go : Dec (limit < length log) → length log ≤ limit
    go (yes h) = absurd (good (inl h))
    go (no h) = omega arith

-- so two digits an action can write it
pub steps_writable : (limit actions : ℕ) (log : List ℕ) → actions ≤ action_limit → (BadLog limit actions log → ⊥) → Writable log
steps_writable limit actions log few good k l = let known = steps_known limit actions log good k l in omega arith

-- a log that is short enough for one limit is bad by it as by another
pub other_limit : (a b actions : ℕ) (log : List ℕ) → length log ≤ a → BadLog a actions log → BadLog b actions log
other_limit a b actions log short (inl h) = absurd (omega arith)
other_limit a b actions log short (inr h) = inr h

-- The P list of document 01 as one theorem, `all_cases`. Each case is computed by the evaluator, which is the meaning; a list with a wrong case is refused,
-- and the refusal shows the first wrong one with its number. Knows the evaluator and the reader.
use mathlib.Core.Path.{◌≡◌, refl, sym, ◌∙◌}
use mathlib.Core.Logic.Iff
use mathlib.Core.Bool.{Bool, true, false, not, ◌&&◌, false≢true}
use mathlib.Core.List.{List, [], ◌∷◌, map}
use Prim.Native.Nat.{ℕ, suc, ◌^◌, ◌<◌}
use native.Mathlib.Nat.{lt_of_lt_of_le}
use native.Mathlib.Omega.{arith}
use lib.Dec.{eqb, leb}
use lib.Pow.{pow_mono}
use Rattle.laws.specs.Bit.{on, gather, all_below, count_below, first_below}
use Rattle.laws.specs.Text.{bytes}
use Rattle.laws.proofs.On.{on_high}
use Rattle.laws.proofs.Gather.{on_gather, gather_lt}
use Rattle.meaning.specs.Limits.{places}
use Rattle.meaning.specs.Theory.{World, now_step, now_end, acts, after, run}
use Rattle.meaning.specs.Rule.{Walk, Rule, Kind, test_kind, walk_kind, job_kind, of_test, of_walk, text, walk_text}
use Rattle.meaning.specs.Leads.{Leads, Holds}
use Rattle.meaning.specs.Reach.{ReachedAs}
use Rattle.meaning.specs.Normal.{normal, normal_rule}
use Rattle.meaning.specs.Cases.{CaseVerdict, yes, no, CaseEnding, sequence, refusal, Case, reach, verdict, form, finish, cases, two_values, three_values, step_cases, end_cases, job_with}
use Rattle.meaning.specs.Cases.{SpelledAs, OfWalk, OfTest, IsSo, Finishing, CaseSays, AllSay, effect_cases, shown, walked}
use Rattle.meaning.proofs.Bounds.{leads_within}
use Rattle.laws.proofs.Count.{count_cut}
use Rattle.laws.proofs.First.{first_up_to, first_cut}
use Rattle.meaning.proofs.Tells.{Tells, eq_tells, le_tells, lt_tells, and_tells, not_tells, tells_as, same, same_tells}
use Rattle.meaning.proofs.Evaluate.{leads_grid, leads_draws, value_of, value_gives}
use Rattle.meaning.proofs.Endings.{first, first_true, nothing, nothing_true}
use Rattle.meaning.proofs.Reading.{walk_read, test_read, rule_read, opens_of_read, unique_reading}
use Rattle.meaning.proofs.Reading.Shapes.{Got, got, bad, read_number, read_variable}

-- The text spells the rule that is read from it

spelled : (Rule → Bool) → Got Rule → Bool
spelled test (got rule []) = test rule
spelled test (got rule (b ∷ rest)) = false
spelled test bad = false

spelled_true : {Said : Rule → Type 0} (kind : Kind) (l : List ℕ) (test : Rule → Bool) → ((rule : Rule) → test rule ≡ true → Said rule)
    → spelled test (rule_read kind l) ≡ true → SpelledAs kind l Said
unfolding spelled
spelled_true {Said} kind l test said = go (rule_read kind l) refl
  where
    go : (found : Got Rule) → rule_read kind l ≡ found → spelled test found ≡ true → SpelledAs kind l Said
    go (got rule []) r e =
        let opens = opens_of_read kind l rule [] r in
        record { rule = rule; opens = opens; only = λ other o. (unique_reading o opens).0; said = said rule e }
    go (got rule (b ∷ rest)) r e = absurd (false≢true e)
    go bad r e = absurd (false≢true e)

-- Each kind of case

module _ (w : World) (t n set count earliest : ℕ) where
  reaches : Rule → Bool
  unfolding leads_grid gather on count_below first_up_to first_below
  reaches (of_test x) = false
  reaches (of_walk x) =
      leb (suc n) places
      && (eqb set (gather (suc n) (leads_grid w x n t))
      && (eqb count (count_below (suc n) (on set)) && eqb earliest (first_up_to (suc n) places (on set))))

  set_tells : (x : Walk) (q : ℕ) → Tells (on (gather (suc n) (leads_grid w x n t)) q) (Leads w x t q n)
  set_tells x q =
      rw on_gather
      (tells_as (and_tells (lt_tells q (suc n)) (leads_draws w x t q n)) (λ h. h.1) (λ h. (omega (arith, leads_within w x t q n h), h)))

  reaches_true : (rule : Rule) → reaches rule ≡ true → OfWalk (λ x. ReachedAs w x t n set count earliest) rule
  unfolding reaches
  reaches_true (of_test x) e = absurd (false≢true e)
  reaches_true (of_walk x) e =
      let is =
      (and_tells (le_tells (suc n) places)
      (and_tells (eq_tells set (gather (suc n) (leads_grid w x n t)))
      (and_tells (eq_tells count (count_below (suc n) (on set))) (eq_tells earliest (first_up_to (suc n) places (on set)))))).0 e in
      let small : set < 2 ^ suc n = rw is.1.0 (gather_lt (suc n) (leads_grid w x n t)) in
      record {
        held = on set;
        written = record { width = lt_of_lt_of_le small (pow_mono is.0); bits = λ q. refl };
        reached =
            record {
              holds = λ q. rw is.1.0 (set_tells x q);
              counted = is.1.1.0 ∙ sym (count_cut (suc n) places (on set) (λ i. on_high (suc n) small) is.0);
              first = is.1.1.1 ∙ sym (first_cut (suc n) places (on set) (λ i. on_high (suc n) small) is.0);
            };
      }

module _ (w : World) (t n : ℕ) where
  told : CaseVerdict → Rule → Bool
  unfolding value_of
  told answer (of_walk x) = false
  told yes (of_test x) = value_of w x n t
  told no (of_test x) = not (value_of w x n t)

  told_true : (answer : CaseVerdict) (rule : Rule) → told answer rule ≡ true → OfTest (λ x. IsSo answer (Holds w x t n)) rule
  unfolding told
  told_true answer (of_walk x) e = absurd (false≢true e)
  told_true yes (of_test x) e = (value_gives w x t n).0 e
  told_true no (of_test x) e = (not_tells (value_gives w x t n)).0 e

module _ (w : World) (more : ℕ) where
  ends : CaseEnding → Rule → Bool
  unfolding first nothing
  ends ending (of_test x) = false
  ends (sequence s) (of_walk x) = first w x more s
  ends (refusal number) (of_walk x) = eqb number 11 && nothing w x more

  ends_true : (ending : CaseEnding) (rule : Rule) → ends ending rule ≡ true → OfWalk (Finishing w more ending) rule
  unfolding ends
  ends_true ending (of_test x) e = absurd (false≢true e)
  ends_true (sequence s) (of_walk x) e = first_true w x more s e
  ends_true (refusal number) (of_walk x) e =
      let is = (and_tells (eq_tells number 11) Iff.rfl).0 e in
      (is.0, nothing_true w x more is.1)

right : (List ℕ → World) → Case → Bool
unfolding spelled reaches told ends walk_read test_read read_number read_variable normal walk_text same
right of (reach log walk t n set count earliest) = spelled (reaches (of log) t n set count earliest) (rule_read walk_kind (bytes walk))
right of (verdict log test t n answer) = spelled (told (of log) t n answer) (rule_read test_kind (bytes test))
right of (form kind rule normal) = spelled (λ x. same (text (normal_rule x)) (bytes normal)) (rule_read kind (bytes rule))
right of (finish log job more ending) = spelled (ends (of log) more ending) (rule_read job_kind (bytes job))

right_says : (of : List ℕ → World) (c : Case) → right of c ≡ true → CaseSays of c
unfolding right
right_says of (reach log walk t n set count earliest) =
    spelled_true walk_kind (bytes walk) (reaches (of log) t n set count earliest) (reaches_true (of log) t n set count earliest)
right_says of (verdict log test t n answer) =
    spelled_true test_kind (bytes test) (told (of log) t n answer) (told_true (of log) t n answer)
right_says of (form kind rule normal) =
    spelled_true kind (bytes rule) (λ x. same (text (normal_rule x)) (bytes normal)) (λ x. (same_tells (text (normal_rule x)) (bytes normal)).0)
right_says of (finish log job more ending) =
    spelled_true job_kind (bytes job) (ends (of log) more ending) (ends_true (of log) more ending)

-- A list: all its cases are right, or the first wrong one with its number, counted from 1. (The refusal shows what it computes to as long as that takes
-- under 200,000 steps; the 23 cases of document 01 take some 133,000, for what is found has a name and is computed once.)

data Checked : Type 0 where
  all_right : Checked
  wrong : ℕ → Case → Checked

check : (List ℕ → World) → ℕ → List Case → Checked
check of k [] = all_right
check of k (c ∷ rest) = elim (right of c) [ true ↦ check of (suc k) rest | false ↦ wrong k c ]

all_say : (of : List ℕ → World) (k : ℕ) (cs : List Case) → check of k cs ≡ all_right → AllSay of cs
unfolding check
all_say of k [] e = tt
all_say of k (c ∷ rest) e = go (right of c) refl e (all_say of (suc k) rest)
  where
    go : (b : Bool) → right of c ≡ b → ◌≡◌ {A = Checked} (elim b [ true ↦ check of (suc k) rest | false ↦ wrong k c ]) all_right
        → (check of (suc k) rest ≡ all_right → AllSay of rest) → CaseSays of c × AllSay of rest
    go true r e further = (right_says of c r, further e)
    go false r e further = let z : ◌≡◌ {A = ℕ} 0 1 = cc in absurd (omega arith)

found : Checked
unfolding check right
found = check (job_with 0 now_step) 1 cases

checked : found ≡ all_right
unfolding found
checked = refl

pub all_cases : AllSay (job_with 0 now_step) cases
unfolding found
all_cases = all_say (job_with 0 now_step) 1 cases checked

-- and those of document 02, Q-2, with two values and with three
found_two : Checked
unfolding check right
found_two = check (job_with 2 now_step) 1 two_values

checked_two : found_two ≡ all_right
unfolding found_two
checked_two = refl

pub two_values_law : AllSay (job_with 2 now_step) two_values
unfolding found_two
two_values_law = all_say (job_with 2 now_step) 1 two_values checked_two

found_three : Checked
unfolding check right
found_three = check (job_with 3 now_step) 1 three_values

checked_three : found_three ≡ all_right
unfolding found_three
checked_three = refl

pub three_values_law : AllSay (job_with 3 now_step) three_values
unfolding found_three
three_values_law = all_say (job_with 3 now_step) 1 three_values checked_three

-- those of Q-7, under `step` and under `end`
found_step : Checked
unfolding check right
found_step = check (job_with 0 now_step) 1 step_cases

checked_step : found_step ≡ all_right
unfolding found_step
checked_step = refl

pub step_cases_law : AllSay (job_with 0 now_step) step_cases
unfolding found_step
step_cases_law = all_say (job_with 0 now_step) 1 step_cases checked_step

found_end : Checked
unfolding check right
found_end = check (job_with 0 now_end) 1 end_cases

checked_end : found_end ≡ all_right
unfolding found_end
checked_end = refl

pub end_cases_law : AllSay (job_with 0 now_end) end_cases
unfolding found_end
end_cases_law = all_say (job_with 0 now_end) 1 end_cases checked_end

-- and those of Q-6
pub effect_cases_law : map walked effect_cases ≡ map shown effect_cases
unfolding run acts after gather all_below on
effect_cases_law = refl

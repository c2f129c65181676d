-- The checks of the call, one after the other: which row gives the number, and what an acceptance leaves. Knows the rows of the list, one line for each.
use Rattle.std.specs.Prelude.{Result}
use Rattle.std.specs.Prelude.{Ok, Err}
use mathlib.Core.Path.{◌≡◌, refl, subst}
use mathlib.Core.Logic.{inl, inr}
use mathlib.Core.Bool.{true, false}
use mathlib.Core.List.{List, []}
use Prim.Native.Nat.{ℕ, ◌≤◌, ◌<◌}
use native.Mathlib.Omega.{arith}
use lib.ListN.{length}
use Rattle.laws.proofs.Truth.{no_truth}
use Rattle.meaning.specs.Limits.{text_limit, more_limit}
use Rattle.meaning.specs.Rule.{Walk, Rule, of_test, of_walk, job_kind, Opens, backward, backward_in}
use Rattle.meaning.specs.Finish.{First, None}
use Rattle.refusal.specs.declared.Refusal.{Refusal}
use Rattle.refusal.specs.Given.{number_given, value_given}
use Rattle.meaning.specs.Refusal.{Row, Accepted, BadMore, TooShort, no_count}
use Rattle.meaning.specs.Refusal.{Refused as RefusedBy}
use Rattle.meaning.proofs.Finish.{first_not_none}
use Rattle.meaning.proofs.Reading.{unique_reading}
use Rattle.meaning.proofs.Refusal.{here, past, rest_refused, accepts, passes, not_first, not_rest, refused_first, refused_second, accepted_both, accepted_parts}
use Rattle.theory.specs.Subject.{Subject, counts_of, world_of}
use Rattle.theory.specs.declared.Counts.{Counts}
use Rattle.theory.specs.Rows.{world_rows}
use Rattle.theory.specs.Check.{Settled}
use Rattle.theory.proofs.Reading.{checked}
use Rattle.rule.specs.Outcome.{With, Spelled, text_rows, rule_rows}
use Rattle.rule.proofs.Outcomes.{accepted_known}
use Rattle.finish.specs.Sound.{Logged, JobIs, Wanted}
use Rattle.finish.specs.Answer.{FinishAnswered}
use Rattle.finish.specs.Found.{Sought, SoughtTold}
use Rattle.finish.specs.Next.{next_rows}
use Rattle.finish.specs.Rows.{NoFinish, room_rows, check_rows, search_rows, finish_rows}

-- what an accepted job is
pub record Job (job : List ℕ) : Type 0 where
  pub walk : Walk
  pub spells : Opens job_kind job (of_walk walk) []
  pub onward : backward walk ≡ false
  pub short : length job ≤ text_limit

pub job_of : (job : List ℕ) (counts : Counts) → Accepted (text_rows true job_kind job counts) → Job job
job_of job counts a = let known = accepted_known true job_kind job counts a in go known.rule known.spells known.short (known.onward refl)
  where
    go : (r : Rule) → Opens job_kind job r [] → length job ≤ text_limit → (backward_in r ≡ true → ⊥) → Job job
    go (of_test t) h short onward = absurd h.fits
    go (of_walk x) h short onward = record { walk = x; spells = h; onward = no_truth (backward x) onward; short = short }

-- and where it stands
pub job_is : {job : List ℕ} (j : Job job) → JobIs job j.walk
job_is j =
    record {
      there = record { rest = []; spells = j.spells.spells; short_actions = j.spells.short_actions; short_fluents = j.spells.short_fluents };
      onward = j.onward;
    }

-- theory and log, then the job
module _ (s : Subject) (job : List ℕ) where
  abbrev Job-rows : List {1} Row
  Job-rows = text_rows true job_kind job (counts_of s)

  module _ (world : Accepted (world_rows s)) where
    -- 6 to 9, and 13
    pub job_refused : {N : ℕ} → RefusedBy (rule_rows true job_kind job (counts_of s)) N → RefusedBy (next_rows s job) N
    job_refused r = refused_second (world_rows s) Job-rows world (rest_refused (λ h. not_first world (inl (inl h))) r)

    pub job_accepted : Accepted (rule_rows true job_kind job (counts_of s)) → Accepted (next_rows s job)
    job_accepted sound = accepted_both (world_rows s) Job-rows world (not_rest sound)

    pub job_settled : (a : Result Unit Refusal) → Settled (rule_rows true job_kind job (counts_of s)) a → Settled (next_rows s job) a
    job_settled (Ok u) sound = job_accepted sound
    job_settled (Err r) refused = job_refused refused

  -- 3, 4, 5
  pub world_refused : {N : ℕ} → RefusedBy (world_rows s) N → RefusedBy (next_rows s job) N
  world_refused r = refused_first (world_rows s) Job-rows r

  module _ (passed : Accepted (next_rows s job)) where
    -- what they leave: a log of the theory, and a job
    pub logged_passed : Logged (counts_of s).actions s.masks s.log
    logged_passed =
        let c = checked s (accepted_parts (world_rows s) Job-rows passed).0 in
        record { table = record { few = c.few_actions; whole = c.table }; short = c.short; known = c.known }

    pub job_passed : Job job
    job_passed = job_of job (counts_of s) (accepted_parts (world_rows s) Job-rows passed).1

-- more before them, and the room behind
module _ (s : Subject) (job : List ℕ) (more room : ℕ) where
  abbrev All : List {1} Row
  All = check_rows s job more room

  -- 3: more
  pub more_refused : BadMore more → RefusedBy All 3
  more_refused h = here h

  module _ (few : BadMore more → ⊥) where
    pub call_refused : {N : ℕ} → RefusedBy (next_rows s job) N → RefusedBy All N
    call_refused r = past few (refused_first (next_rows s job) (room_rows more room) r)

    module _ (sound : Accepted (next_rows s job)) where
      -- 12
      pub short-refused : TooShort room more → RefusedBy All 12
      short-refused short = past few (refused_second (next_rows s job) (room_rows more room) sound (here short))

      pub all-passed : (TooShort room more → ⊥) → Accepted All
      all-passed long = passes few (accepted_both (next_rows s job) (room_rows more room) sound (passes long accepts))

  module _ (passed : Accepted All) where
    -- what the search is given
    job_there : Job job
    job_there = job_passed s job (accepted_parts (next_rows s job) (room_rows more room) (not_rest passed)).0

    pub wanted : Wanted (counts_of s).actions s.masks s.log job more room
    wanted =
        let parts = accepted_parts (next_rows s job) (room_rows more room) (not_rest passed) in
        let long : ¬ (room < more) = not_first parts.1 in
        let small : ¬ (more_limit < more) = not_first passed in
        record {
          logged = logged_passed s job parts.0;
          short = job_there.short;
          walk = job_there.walk;
          spelled = job_is job_there;
          few = omega arith;
          enough = omega arith;
        }

    -- 11, behind them
    pub none_refused : (x : Walk) → Opens job_kind job (of_walk x) [] → None (world_of s) x more → RefusedBy (finish_rows s job more room) 11
    none_refused x spells none =
        refused_second All (search_rows s job more) passed (here (record { rule = of_walk x; spells = spells; faulty = none }))

    pub all_accepted : (x : Walk) → Opens job_kind job (of_walk x) [] → (ending : List ℕ) → First (world_of s) x more ending
        → Accepted (finish_rows s job more room)
    all_accepted x spells ending first = accepted_both All (search_rows s job more) passed (passes found accepts)
      where
        found : With (Spelled true job_kind job) (NoFinish (world_of s) more) → ⊥
        found h =
            first_not_none (world_of s) x more ending first
            (subst (NoFinish (world_of s) more) (unique_reading h.spells spells).0 h.faulty)

-- what the search answers is what the call does
pub sought_answered :
    (s : Subject) (job : List ℕ) (more : ℕ) (before after : List ℕ) (answer : Result ℕ Refusal)
    → Accepted (check_rows s job more (length before)) → SoughtTold s job more before after answer
    → FinishAnswered s job more before (number_given answer) (value_given no_count answer) after
sought_answered s job more before after answer passed told = go answer (told.each j.walk (job_is j))
  where
    j : Job job
    j = job_there s job more (length before) passed

    go : (a : Result ℕ Refusal) → Sought a (world_of s) j.walk more before after → FinishAnswered s job more before (number_given a) (value_given no_count a) after
    go (Err r) f =
        inl
        (record {
          refused = rw f.0 (none_refused s job more (length before) passed j.walk j.spells f.1);
          blank = (refl, f.2);
        })
    go (Ok n) f =
        inr
        (record {
          none = refl;
          accepted = all_accepted s job more (length before) passed j.walk j.spells f.ending f.first;
          right = record { walk = j.walk; spells = j.spells; finished = f };
        })

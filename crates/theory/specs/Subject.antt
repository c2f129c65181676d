-- What a library call is asked of: the numbers that it is given by value, its mask table and its log; and the meaning's world of it. The mask table is one flat
-- list, ten masks an action in the order need, ban, then twice when, unless, put, drop. Knows the call's arguments and the meaning's World, and no code.
use Rattle.std.specs.Prelude.{List, ℕ, zero, suc, ◌+◌, ◌*◌, ◌≤◌, ◌<◌, length, get_or}
use Rattle.meaning.specs.Limits.{action_limit, log_limit}
use Rattle.meaning.specs.Theory.{Clause, Masks, Reading, now_step, now_end, World, clause_of, masks_of, no_values, stride}
use Rattle.theory.specs.declared.Counts.{Counts}
use Rattle.theory.specs.declared.Setting.{Setting}
use Rattle.theory.specs.declared.Asked.{Asked}

abbrev pub counted : ℕ → ℕ → ℕ → Counts
counted fluents actions domain = record { fluents = fluents; actions = actions; domain = domain }

abbrev pub setting_of : ℕ → ℕ → ℕ → ℕ → ℕ → Setting
setting_of fluents actions domain start reading =
    record { counts = counted fluents actions domain; start = start; reading = reading }

-- "calls without a rule .. have none": the same with no values for a variable, and no reading but the first
abbrev pub unvalued : Setting → Setting
unvalued s = setting_of s.counts.fluents s.counts.actions 0 s.start 0

-- A later request that varies what a call is asked of adds a field to Setting, or one here.
pub record Subject : Type 0 where
  pub setting : Setting
  pub masks : List ℕ
  pub log : List ℕ

abbrev pub subject_of : Setting → List ℕ → List ℕ → Subject
subject_of setting masks log = record { setting = setting; masks = masks; log = log }

-- the same of what a call is lent
abbrev pub subject : Asked → Subject
subject asked = subject_of asked.setting asked.masks.now asked.log.now

-- .. and without values, for a call without a rule
abbrev pub plain_subject : Asked → Subject
plain_subject asked = subject_of (unvalued asked.setting) asked.masks.now asked.log.now

abbrev pub counts_of : Subject → Counts
counts_of s = s.setting.counts

-- the clause whose masks stand from this place of the table on
abbrev pub clause_at : List ℕ → ℕ → Clause
clause_at masks at = clause_of (get_or masks at 0) (get_or masks (at + 1) 0) (get_or masks (at + 2) 0) (get_or masks (at + 3) 0)

-- action a of the table; one that the table lacks has empty masks
abbrev pub table_masks : List ℕ → ℕ → Masks
table_masks masks a =
    masks_of (get_or masks (stride * a) 0) (get_or masks (stride * a + 1) 0) (clause_at masks (stride * a + 2)) (clause_at masks (stride * a + 6))

-- how a test inside a walk is read: "0 is `step`, 1 is `end`"
abbrev pub reading_of : ℕ → Reading
reading_of zero = now_step
reading_of (suc n) = now_end

-- "Under `end`, a `?T` within a `<` walk, or in a walk question, has the outer now."
abbrev pub world_of : Subject → World
world_of s =
    record {
      fluents = (counts_of s).fluents;
      actions = (counts_of s).actions;
      masks = table_masks s.masks;
      start = s.setting.start;
      domain = (counts_of s).domain;
      values = no_values;
      own = reading_of s.setting.reading;
      inner = reading_of s.setting.reading;
      log = s.log;
    }

-- What a log needs to be gone through: it is short enough, its steps are actions, and the table has their masks. Every checked world has such a log.
pub record Readable (masks log : List ℕ) : Type 0 where
  pub short : length log ≤ log_limit
  pub known : (k : ℕ) → k < length log → get_or log k 0 < action_limit
  pub covered : (k : ℕ) → k < length log → stride * get_or log k 0 + stride ≤ length masks

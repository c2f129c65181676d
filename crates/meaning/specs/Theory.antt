-- Document 01, "Facts, actions, log": states, masks, possible, effects, and the state at a position. Document 02, Q-6: effects that depend on the state; Q-2: the
-- values of variables; Q-7: how much of the log a test inside a walk sees.
use Rattle.std.specs.Prelude.{◌≡◌, Bool, true, false, not, ◌&&◌, ◌||◌, List, [], ◌∷◌, ℕ, ◌+◌, ◌<◌, take}
use Rattle.std.proofs.Math.Option.{Option}
use Rattle.std.proofs.Math.ListN.{get_elem?}
use Rattle.laws.specs.Bit.{on, gather, all_below}
use Rattle.meaning.specs.Limits.{fluent_limit}
use Rattle.meaning.specs.Rule.{Variable, var_v, var_w, var_x, var_y, Name, plain, plus}

-- Document 02, Q-6: "ten masks: need, ban, then twice when, unless, put, drop." Bit i of a mask names fluent i. The last four are a clause of the action's effects.
pub record Clause : Type 0 where
  pub when : ℕ
  pub unless : ℕ
  pub put : ℕ
  pub drop : ℕ

pub record Masks : Type 0 where
  pub need : ℕ
  pub ban : ℕ
  pub one : Clause
  pub two : Clause

abbrev pub clause_of : ℕ → ℕ → ℕ → ℕ → Clause
clause_of when unless put drop = record { when = when; unless = unless; put = put; drop = drop }

abbrev pub masks_of : ℕ → ℕ → Clause → Clause → Masks
masks_of need ban one two = record { need = need; ban = ban; one = one; two = two }

-- so many numbers of a mask table belong to one action
abbrev pub stride : ℕ
stride = 10

-- "It is *possible* in a state when every need bit is on and every ban bit off."
pub record Possible (m : Masks) (state : ℕ) : Type 0 where
  pub needed : (i : ℕ) → on m.need i ≡ true → on state i ≡ true
  pub banned : (i : ℕ) → on m.ban i ≡ true → on state i ≡ false

-- "A clause acts if its when bits are on and its unless bits off before the step."
pub record Acts (c : Clause) (state : ℕ) : Type 0 where
  pub met : (i : ℕ) → i < fluent_limit → on c.when i ≡ true → on state i ≡ true
  pub clear : (i : ℕ) → i < fluent_limit → on c.unless i ≡ true → on state i ≡ false

-- the same as a test that computes, fluent by fluent
unfoldable pub acts : Clause → ℕ → Bool
acts c state = all_below fluent_limit (λ i. (not (on c.when i) || on state i) && (not (on c.unless i) || not (on state i)))

-- it acts, and puts the fluent; and drops it
abbrev pub clause_puts : Clause → ℕ → ℕ → Bool
clause_puts c state i = on c.put i && acts c state

abbrev pub clause_drops : Clause → ℕ → ℕ → Bool
clause_drops c state i = on c.drop i && acts c state

-- "an acting clause puts it"; "an acting clause drops it"
abbrev pub puts : Masks → ℕ → ℕ → Bool
puts m state i = clause_puts m.one state i || clause_puts m.two state i

abbrev pub drops : Masks → ℕ → ℕ → Bool
drops m state i = clause_drops m.one state i || clause_drops m.two state i

-- "A fluent is then on if an acting clause puts it, or it was on and no acting clause drops it." Both clauses look at the state before the step.
unfoldable pub after : Masks → ℕ → ℕ
after m state = gather fluent_limit (λ i. puts m state i || (on state i && not (drops m state i)))

-- what the four variables stand for
pub record Values : Type 0 where
  pub of_v : ℕ
  pub of_w : ℕ
  pub of_x : ℕ
  pub of_y : ℕ

abbrev pub stands_for : Values → Variable → ℕ
stands_for s var_v = s.of_v
stands_for s var_w = s.of_w
stands_for s var_x = s.of_x
stands_for s var_y = s.of_y

-- the same values with another for one variable
abbrev pub with_value : Values → Variable → ℕ → Values
with_value s var_v k = record { of_v = k; of_w = s.of_w; of_x = s.of_x; of_y = s.of_y }
with_value s var_w k = record { of_v = s.of_v; of_w = k; of_x = s.of_x; of_y = s.of_y }
with_value s var_x k = record { of_v = s.of_v; of_w = s.of_w; of_x = k; of_y = s.of_y }
with_value s var_y k = record { of_v = s.of_v; of_w = s.of_w; of_x = s.of_x; of_y = k }

-- where no variable is bound; a rule in which none stands free does not look at them
abbrev pub no_values : Values
no_values = record { of_v = 0; of_w = 0; of_x = 0; of_y = 0 }

-- "`bNNv` is action NN plus the value": the number that a name stands for
abbrev pub number_of : Values → Name → ℕ
number_of s (plain n) = n
number_of s (plus n v) = n + stands_for s v

-- "`now=step` or `now=end`": the now of a `?T` is its own position, or the outer now
pub data Reading : Type 0 where
  now_step : Reading
  now_end : Reading

-- What a question is asked of: how many fluents and actions there are, what each action does, the start state, how many values a variable has ("Values are
-- 0 to NN-1"), what the variables stand for, how a walk's own `?T`, "outside every `<`", is read, and how one "within a `<` walk" is, and the job's log, "one byte
-- each". A later request that varies the meaning adds a field here.
pub record World : Type 0 where
  pub fluents : ℕ
  pub actions : ℕ
  pub masks : ℕ → Masks
  pub start : ℕ
  pub domain : ℕ
  pub values : Values
  pub own : Reading
  pub inner : Reading
  pub log : List ℕ

-- the same world with another log
abbrev pub relog : World → List ℕ → World
relog w l =
    record {
      fluents = w.fluents;
      actions = w.actions;
      masks = w.masks;
      start = w.start;
      domain = w.domain;
      values = w.values;
      own = w.own;
      inner = w.inner;
      log = l;
    }

-- the same world with another domain and other values of the variables; with other values; with another value of one
abbrev pub varying : World → ℕ → Values → World
varying w d s =
    record {
      fluents = w.fluents;
      actions = w.actions;
      masks = w.masks;
      start = w.start;
      domain = d;
      values = s;
      own = w.own;
      inner = w.inner;
      log = w.log;
    }

abbrev pub revalue : World → Values → World
revalue w s = varying w w.domain s

abbrev pub bind : World → Variable → ℕ → World
bind w v k = revalue w (with_value w.values v k)

-- the same world with another reading of a walk's own `?T`
abbrev pub owning : World → Reading → World
owning w r =
    record {
      fluents = w.fluents;
      actions = w.actions;
      masks = w.masks;
      start = w.start;
      domain = w.domain;
      values = w.values;
      own = r;
      inner = w.inner;
      log = w.log;
    }

-- the world of a `<` walk; and of a job: "A job's own `?T`, outside every `<`, keeps its own position."
abbrev pub inside : World → World
inside w = owning w w.inner

abbrev pub as_job : World → World
as_job w = owning w now_step

-- the number that a name stands for in a world
abbrev pub number_in : World → Name → ℕ
number_in w a = number_of w.values a

-- "each step applies its effects even if it was not possible there": the state after these steps
unfoldable pub run : (ℕ → Masks) → ℕ → List ℕ → ℕ
run masks state [] = state
run masks state (a ∷ steps) = run masks (after (masks a) state) steps

-- "Position p .. stands before step p. State 0 is the start state": the state at position p, after the first p steps
abbrev pub state_before : World → ℕ → ℕ
state_before w p = run w.masks w.start (take p w.log)

-- step p of the log, if the log is so long
abbrev pub step_at : World → ℕ → Option ℕ
step_at w p = get_elem? w.log p

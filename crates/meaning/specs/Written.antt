-- Document 02, Q-2: "The meaning is the choice over all values, proved equal to the rule with values written in where that fits." What a rule is with a
-- value written in for a variable, and a choice of rules in the signs of document 01.
use Rattle.std.specs.Prelude.{cond, ℕ, zero, suc, ◌+◌}
use Rattle.meaning.specs.Rule.{Walk, Test, act, undo, next, prev, seq, alt, star, check, conv, pick, always, fluent, neg, both, diamond, exists}
use Rattle.meaning.specs.Rule.{Variable, is_variable, Name, plain, plus}

-- "NN plus the value", worked out
abbrev pub written_name : Variable → ℕ → Name → Name
written_name v k (plain n) = plain n
written_name v k (plus n u) = cond (is_variable u v) (plain (n + k)) (plus n u)

-- The value k stands wherever v stands free. "An inner binding hides an outer one of the same name": there nothing is written in.
unfoldable mutual
  pub written : Variable → ℕ → Walk → Walk
  written v k (act a) = act (written_name v k a)
  written v k (undo a) = undo (written_name v k a)
  written v k next = next
  written v k prev = prev
  written v k (seq x w) = seq (written v k x) (written v k w)
  written v k (alt x w) = alt (written v k x) (written v k w)
  written v k (star w) = star (written v k w)
  written v k (check t) = check (written_test v k t)
  written v k (conv w) = conv (written v k w)
  written v k (pick u w) = pick u (cond (is_variable u v) w (written v k w))

  pub written_test : Variable → ℕ → Test → Test
  written_test v k always = always
  written_test v k (fluent i) = fluent (written_name v k i)
  written_test v k (neg t) = neg (written_test v k t)
  written_test v k (both t u) = both (written_test v k t) (written_test v k u)
  written_test v k (diamond w t) = diamond (written v k w) (written_test v k t)
  written_test v k (exists u t) = exists u (cond (is_variable u v) t (written_test v k t))

-- the choice of a walk for each number from 0 to k: `||W0W1W2`
abbrev pub choice_to : (ℕ → Walk) → ℕ → Walk
choice_to walk zero = walk 0
choice_to walk (suc k) = alt (choice_to walk k) (walk (suc k))

-- that of a test, by the signs there are: `!&&!T0!T1!T2`, not none of them
abbrev pub none_to : (ℕ → Test) → ℕ → Test
none_to test zero = neg (test 0)
none_to test (suc k) = both (none_to test k) (neg (test (suc k)))

abbrev pub some_to : (ℕ → Test) → ℕ → Test
some_to test k = neg (none_to test k)

-- Every binder of a rule written out, where the values are 0 to d: the rule in the signs of document 01 that people wrote before, "Sixteen alternatives
-- per rule".
unfoldable mutual
  pub spelled_out : ℕ → Walk → Walk
  spelled_out d (act a) = act a
  spelled_out d (undo a) = undo a
  spelled_out d next = next
  spelled_out d prev = prev
  spelled_out d (seq v w) = seq (spelled_out d v) (spelled_out d w)
  spelled_out d (alt v w) = alt (spelled_out d v) (spelled_out d w)
  spelled_out d (star w) = star (spelled_out d w)
  spelled_out d (check t) = check (test_out d t)
  spelled_out d (conv w) = conv (spelled_out d w)
  spelled_out d (pick v w) = choice_to (λ k. written v k (spelled_out d w)) d

  pub test_out : ℕ → Test → Test
  test_out d always = always
  test_out d (fluent i) = fluent i
  test_out d (neg t) = neg (test_out d t)
  test_out d (both t u) = both (test_out d t) (test_out d u)
  test_out d (diamond w t) = diamond (spelled_out d w) (test_out d t)
  test_out d (exists v t) = some_to (λ k. written_test v k (test_out d t)) d

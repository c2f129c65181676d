-- Document 01, "Normal form of a rule": `-` is pushed inward until none is left.
use Rattle.std.specs.Prelude.{ℕ, suc, ◌+◌}
use Rattle.meaning.specs.Rule.{Walk, Test, Rule, act, undo, next, prev, seq, alt, star, check, conv, pick, always, fluent, neg, both, diamond, exists, Name, Variable, of_test, of_walk}

-- normal W is the normal form of W, turned W that of the converse of W: "Converse of `;VW` is the converse of W, then of V; of a choice, the choice of
-- converses in the same order; of `*W`, the star of the converse; `?T` stays, T being rewritten in itself; `--W` is W; `a` and `r` turn into each
-- other, so do `n` and `u`." "Normal form turns `b` and `s` into each other and passes through `p`."
unfoldable mutual
  pub normal : Walk → Walk
  normal (act a) = act a
  normal (undo a) = undo a
  normal next = next
  normal prev = prev
  normal (seq v w) = seq (normal v) (normal w)
  normal (alt v w) = alt (normal v) (normal w)
  normal (star w) = star (normal w)
  normal (check t) = check (normal_test t)
  normal (conv w) = turned w
  normal (pick v w) = pick v (normal w)

  pub turned : Walk → Walk
  turned (act a) = undo a
  turned (undo a) = act a
  turned next = prev
  turned prev = next
  turned (seq v w) = seq (turned w) (turned v)
  turned (alt v w) = alt (turned v) (turned w)
  turned (star w) = star (turned w)
  turned (check t) = check (normal_test t)
  turned (conv w) = normal w
  turned (pick v w) = pick v (turned w)

  pub normal_test : Test → Test
  normal_test always = always
  normal_test (fluent i) = fluent i
  normal_test (neg t) = neg (normal_test t)
  normal_test (both t u) = both (normal_test t) (normal_test u)
  normal_test (diamond w t) = diamond (normal w) (normal_test t)
  normal_test (exists v t) = exists v (normal_test t)

abbrev pub normal_rule : Rule → Rule
normal_rule (of_test t) = of_test (normal_test t)
normal_rule (of_walk w) = of_walk (normal w)

-- how many `-` stand in a rule
unfoldable mutual
  pub walk_signs : Walk → ℕ
  walk_signs (act a) = 0
  walk_signs (undo a) = 0
  walk_signs next = 0
  walk_signs prev = 0
  walk_signs (seq v w) = walk_signs v + walk_signs w
  walk_signs (alt v w) = walk_signs v + walk_signs w
  walk_signs (star w) = walk_signs w
  walk_signs (check t) = test_signs t
  walk_signs (conv w) = suc (walk_signs w)
  walk_signs (pick v w) = walk_signs w

  pub test_signs : Test → ℕ
  test_signs always = 0
  test_signs (fluent i) = 0
  test_signs (neg t) = test_signs t
  test_signs (both t u) = test_signs t + test_signs u
  test_signs (diamond w t) = walk_signs w + test_signs t
  test_signs (exists v t) = test_signs t

abbrev pub signs_in : Rule → ℕ
signs_in (of_test t) = test_signs t
signs_in (of_walk w) = walk_signs w

-- "Signs under no `-` stay as they are": the second rule has the signs of the first, one for one, but under a `-` of the first
mutual
  pub data WalkKept : Walk → Walk → Type 0 where
    act_kept : (a : Name) → WalkKept (act a) (act a)
    undo_kept : (a : Name) → WalkKept (undo a) (undo a)
    next_kept : WalkKept next next
    prev_kept : WalkKept prev prev
    seq_kept : {v v' w w' : Walk} → WalkKept v v' → WalkKept w w' → WalkKept (seq v w) (seq v' w')
    alt_kept : {v v' w w' : Walk} → WalkKept v v' → WalkKept w w' → WalkKept (alt v w) (alt v' w')
    star_kept : {w w' : Walk} → WalkKept w w' → WalkKept (star w) (star w')
    check_kept : {t t' : Test} → TestKept t t' → WalkKept (check t) (check t')
    under_conv : (w w' : Walk) → WalkKept (conv w) w'
    pick_kept : {w w' : Walk} (v : Variable) → WalkKept w w' → WalkKept (pick v w) (pick v w')

  pub data TestKept : Test → Test → Type 0 where
    always_kept : TestKept always always
    fluent_kept : (i : Name) → TestKept (fluent i) (fluent i)
    neg_kept : {t t' : Test} → TestKept t t' → TestKept (neg t) (neg t')
    both_kept : {t t' u u' : Test} → TestKept t t' → TestKept u u' → TestKept (both t u) (both t' u')
    diamond_kept : {w w' : Walk} {t t' : Test} → WalkKept w w' → TestKept t t' → TestKept (diamond w t) (diamond w' t')
    exists_kept : {t t' : Test} (v : Variable) → TestKept t t' → TestKept (exists v t) (exists v t')

-- From the sign at a place of a text to the parts of the rule that stands there, and where they stand. Knows document 01's text of a rule; no code.
use mathlib.Core.Path.{◌≡◌, sym, ap, subst, ◌∙◌}
use mathlib.Core.List.{List, [], ◌∷◌, ◌++◌, append_assoc}
use Prim.Native.Nat.{ℕ, ◌+◌, ◌≤◌, ◌<◌}
use native.Mathlib.Omega.{arith}
use lib.ListN.{length, drop, get_or, length-drop, length-append}
use lib.Seq.{drop-drop, drop-append_seam}
use Rattle.meaning.specs.Limits.{number_limit}
use Rattle.meaning.specs.Rule.{Walk, Test, Rule, act, undo, next, prev, seq, alt, star, check, conv, pick, always, fluent, neg, both, diamond, exists, Variable, plain, plus, digits, letter, as_written}
use Rattle.meaning.specs.Rule.{of_test, of_walk, text, walk_text, test_text, walk_names, actions_in, fluents_in}
use Rattle.std.specs.Prelude.{Some}
use Rattle.spelling.specs.Scan.{NumberAt}
use Rattle.grammar.specs.Letters.{Lettered}
use Rattle.grammar.specs.Standing.{Stands}
use Rattle.grammar.proofs.Numbers.{byte, after_part_law, number_there}

-- a rule has a byte at least, and stands within the text
pub some_text : (r : Rule) → 0 < length (text r)
unfolding walk_text
some_text (of_walk (act (plain a))) = omega arith
some_text (of_walk (act (plus a v))) = omega arith
some_text (of_walk (undo (plain a))) = omega arith
some_text (of_walk (undo (plus a v))) = omega arith
some_text (of_walk next) = omega arith
some_text (of_walk prev) = omega arith
some_text (of_walk (seq v w)) = omega arith
some_text (of_walk (alt v w)) = omega arith
some_text (of_walk (star w)) = omega arith
some_text (of_walk (check t)) = omega arith
some_text (of_walk (conv w)) = omega arith
some_text (of_walk (pick v w)) = omega arith
some_text (of_test always) = omega arith
some_text (of_test (fluent (plain i))) = omega arith
some_text (of_test (fluent (plus i v))) = omega arith
some_text (of_test (neg t)) = omega arith
some_text (of_test (both t u)) = omega arith
some_text (of_test (diamond w t)) = omega arith
some_text (of_test (exists v t)) = omega arith

pub inside : {bytes : List ℕ} {at : ℕ} {r : Rule} → Stands bytes at r → at + length (text r) ≤ length bytes
inside {bytes} {at} {r} h = omega (arith, some_text r, length-drop at bytes, ap length h.spells, length-append (text r) h.rest)

pub within : {bytes : List ℕ} {at : ℕ} {r : Rule} → Stands bytes at r → at < length bytes
within {r = r} h = omega (arith, some_text r, inside h)

-- The sign at a place and the rule that stands there: what its parts are, and where they stand. One row for each sign of the two tables.
pub data Spread (bytes : List ℕ) (at : ℕ) : ℕ → Rule → Type 0 where
  act_at : (a : ℕ) → NumberAt bytes (at + 1) (Some a) → Spread bytes at 97 (of_walk (act (plain a)))
  undo_at : (a : ℕ) → NumberAt bytes (at + 1) (Some a) → Spread bytes at 114 (of_walk (undo (plain a)))
  next_part_at : Spread bytes at 110 (of_walk next)
  prev_at : Spread bytes at 117 (of_walk prev)
  seq_at : (v w : Walk) → Stands bytes (at + 1) (of_walk v) → Stands bytes (at + 1 + length (walk_text v)) (of_walk w) → Spread bytes at 59 (of_walk (seq v w))
  alt_at : (v w : Walk) → Stands bytes (at + 1) (of_walk v) → Stands bytes (at + 1 + length (walk_text v)) (of_walk w) → Spread bytes at 124 (of_walk (alt v w))
  star_at : (w : Walk) → Stands bytes (at + 1) (of_walk w) → Spread bytes at 42 (of_walk (star w))
  check_at : (t : Test) → Stands bytes (at + 1) (of_test t) → Spread bytes at 63 (of_walk (check t))
  conv_at : (w : Walk) → Stands bytes (at + 1) (of_walk w) → Spread bytes at 45 (of_walk (conv w))
  always_at : Spread bytes at 49 (of_test always)
  fluent_at : (i : ℕ) → NumberAt bytes (at + 1) (Some i) → Spread bytes at 102 (of_test (fluent (plain i)))
  neg_at : (t : Test) → Stands bytes (at + 1) (of_test t) → Spread bytes at 33 (of_test (neg t))
  both_at : (t u : Test) → Stands bytes (at + 1) (of_test t) → Stands bytes (at + 1 + length (test_text t)) (of_test u) → Spread bytes at 38 (of_test (both t u))
  diamond_at : (w : Walk) (t : Test) → Stands bytes (at + 1) (of_walk w) → Stands bytes (at + 1 + length (walk_text w)) (of_test t) → Spread bytes at 60 (of_test (diamond w t))
  sum_act_at : (a : ℕ) (v : Variable) → NumberAt bytes (at + 1) (Some a) → Lettered bytes (at + 3) v → Spread bytes at 98 (of_walk (act (plus a v)))
  sum_undo_at : (a : ℕ) (v : Variable) → NumberAt bytes (at + 1) (Some a) → Lettered bytes (at + 3) v → Spread bytes at 115 (of_walk (undo (plus a v)))
  pick_at : (v : Variable) (w : Walk) → Lettered bytes (at + 1) v → Stands bytes (at + 2) (of_walk w) → Spread bytes at 112 (of_walk (pick v w))
  sum_fluent_at : (i : ℕ) (v : Variable) → NumberAt bytes (at + 1) (Some i) → Lettered bytes (at + 3) v → Spread bytes at 103 (of_test (fluent (plus i v)))
  exists_at : (v : Variable) (t : Test) → Lettered bytes (at + 1) v → Stands bytes (at + 2) (of_test t) → Spread bytes at 101 (of_test (exists v t))

module _ (bytes : List ℕ) (at : ℕ) where
  onward : {b : ℕ} {ys : List ℕ} → drop at bytes ≡ b ∷ ys → drop (at + 1) bytes ≡ ys
  onward e = sym (drop-drop 1 at bytes) ∙ ap (drop 1) e

  -- two parts: the second stands behind the first
  behind : (xs ys rest : List ℕ) → drop at bytes ≡ (xs ++ ys) ++ rest → drop (at + length xs) bytes ≡ ys ++ rest
  behind xs ys rest e =
      sym (drop-drop (length xs) at bytes) ∙ ap (drop (length xs)) (e ∙ append_assoc xs ys rest) ∙ drop-append_seam xs (ys ++ rest)

module _ (bytes : List ℕ) (at : ℕ) where
  -- a letter: what follows stands one further on
  lettered : (v : Variable) {ys : List ℕ} → drop at bytes ≡ letter v ∷ ys → Lettered bytes at v × (drop (at + 1) bytes ≡ ys)
  lettered v e = let rest = onward bytes at e in (e ∙ ap (λ (l : List ℕ). letter v ∷ l) (sym rest), rest)

module _ (bytes : List ℕ) (at : ℕ) where
  -- a number with a letter behind it, and a letter before a part
  sum_there : (b n : ℕ) (v : Variable) (rest : List ℕ) → n < number_limit → drop at bytes ≡ (b ∷ digits n ++ letter v ∷ []) ++ rest
      → NumberAt bytes (at + 1) (Some n) × Lettered bytes (at + 3) v
  sum_there b n v rest h e =
      let there : drop (at + 1) bytes ≡ digits n ++ (letter v ∷ rest) = onward bytes at e in
      let same : at + 3 ≡ at + 1 + 2 = omega arith in
      let behind-it : drop (at + 3) bytes ≡ letter v ∷ rest =
      ap (λ (k : ℕ). drop k bytes) same ∙ after_part_law bytes (digits n) (letter v ∷ rest) (at + 1) there in
      (number_there bytes (at + 1) n (letter v ∷ rest) h there, (lettered bytes (at + 3) v behind-it).0)

  bound_there : (b : ℕ) (v : Variable) (x : Rule) (rest : List ℕ) → actions_in as_written x ≤ number_limit → fluents_in as_written x ≤ number_limit
      → drop at bytes ≡ (b ∷ letter v ∷ text x) ++ rest → Lettered bytes (at + 1) v × Stands bytes (at + 2) x
  bound_there b v x rest a f e =
      let (there, behind-it) = lettered bytes (at + 1) v (onward bytes at e) in
      let same : at + 2 ≡ at + 1 + 1 = omega arith in
      let part : drop (at + 2) bytes ≡ text x ++ rest = ap (λ (k : ℕ). drop k bytes) same ∙ behind-it in
      (there, record { rest = rest; spells = part; short_actions = a; short_fluents = f })

module _ (bytes : List ℕ) (at : ℕ) where
  -- one part, and the first and the second of two, whose names are as short
  part_there : (x : Rule) (rest : List ℕ) → actions_in as_written x ≤ number_limit → fluents_in as_written x ≤ number_limit → drop at bytes ≡ text x ++ rest → Stands bytes at x
  part_there x rest a f e = record { rest = rest; spells = e; short_actions = a; short_fluents = f }

  parts_there : (x y : Rule) (rest : List ℕ) → actions_in as_written x ≤ number_limit → fluents_in as_written x ≤ number_limit → actions_in as_written y ≤ number_limit → fluents_in as_written y ≤ number_limit
      → drop at bytes ≡ (text x ++ text y) ++ rest → Stands bytes at x × Stands bytes (at + length (text x)) y
  parts_there x y rest a f b g e = (
    record { rest = text y ++ rest; spells = e ∙ append_assoc (text x) (text y) rest; short_actions = a; short_fluents = f },
    record { rest = rest; spells = behind bytes at (text x) (text y) rest e; short_actions = b; short_fluents = g },
  )

module _ (bytes : List ℕ) (at : ℕ) where
  found : {b : ℕ} {ys : List ℕ} {r : Rule} → drop at bytes ≡ b ∷ ys → Spread bytes at b r → Spread bytes at (get_or bytes at 0) r
  found {r = r} e = subst (λ (k : ℕ). Spread bytes at k r) (sym (byte bytes at e))

  spreads : (r : Rule) → Stands bytes at r → Spread bytes at (get_or bytes at 0) r
  unfolding walk_text walk_names
  spreads (of_walk (act (plain a))) h = found h.spells (act_at a (number_there bytes (at + 1) a h.rest (omega (arith, h.short_actions)) (onward bytes at h.spells)))
  spreads (of_walk (undo (plain a))) h = found h.spells (undo_at a (number_there bytes (at + 1) a h.rest (omega (arith, h.short_actions)) (onward bytes at h.spells)))
  spreads (of_walk next) h = found h.spells next_part_at
  spreads (of_walk prev) h = found h.spells prev_at
  spreads (of_walk (seq v w)) h =
      let (p, q) = parts_there bytes (at + 1) (of_walk v) (of_walk w) h.rest (omega arith) (omega arith) (omega arith) (omega arith) (onward bytes at h.spells) in
      found h.spells (seq_at v w p q)
  spreads (of_walk (alt v w)) h =
      let (p, q) = parts_there bytes (at + 1) (of_walk v) (of_walk w) h.rest (omega arith) (omega arith) (omega arith) (omega arith) (onward bytes at h.spells) in
      found h.spells (alt_at v w p q)
  spreads (of_walk (star w)) h = found h.spells (star_at w (part_there bytes (at + 1) (of_walk w) h.rest h.short_actions h.short_fluents (onward bytes at h.spells)))
  spreads (of_walk (check t)) h = found h.spells (check_at t (part_there bytes (at + 1) (of_test t) h.rest h.short_actions h.short_fluents (onward bytes at h.spells)))
  spreads (of_walk (conv w)) h = found h.spells (conv_at w (part_there bytes (at + 1) (of_walk w) h.rest h.short_actions h.short_fluents (onward bytes at h.spells)))
  spreads (of_test always) h = found h.spells always_at
  spreads (of_test (fluent (plain i))) h = found h.spells (fluent_at i (number_there bytes (at + 1) i h.rest (omega (arith, h.short_fluents)) (onward bytes at h.spells)))
  spreads (of_test (neg t)) h = found h.spells (neg_at t (part_there bytes (at + 1) (of_test t) h.rest h.short_actions h.short_fluents (onward bytes at h.spells)))
  spreads (of_test (both t u)) h =
      let (p, q) = parts_there bytes (at + 1) (of_test t) (of_test u) h.rest (omega arith) (omega arith) (omega arith) (omega arith) (onward bytes at h.spells) in
      found h.spells (both_at t u p q)
  spreads (of_test (diamond w t)) h =
      let (p, q) = parts_there bytes (at + 1) (of_walk w) (of_test t) h.rest (omega arith) (omega arith) (omega arith) (omega arith) (onward bytes at h.spells) in
      found h.spells (diamond_at w t p q)
  spreads (of_walk (act (plus a v))) h =
      let (p, q) = sum_there bytes at 98 a v h.rest (omega (arith, h.short_actions)) h.spells in
      found h.spells (sum_act_at a v p q)
  spreads (of_walk (undo (plus a v))) h =
      let (p, q) = sum_there bytes at 115 a v h.rest (omega (arith, h.short_actions)) h.spells in
      found h.spells (sum_undo_at a v p q)
  spreads (of_walk (pick v w)) h =
      let (p, q) = bound_there bytes at 112 v (of_walk w) h.rest h.short_actions h.short_fluents h.spells in
      found h.spells (pick_at v w p q)
  spreads (of_test (fluent (plus i v))) h =
      let (p, q) = sum_there bytes at 103 i v h.rest (omega (arith, h.short_fluents)) h.spells in
      found h.spells (sum_fluent_at i v p q)
  spreads (of_test (exists v t)) h =
      let (p, q) = bound_there bytes at 101 v (of_test t) h.rest h.short_actions h.short_fluents h.spells in
      found h.spells (exists_at v t p q)

-- the rule that stands where this byte is
pub spread : {bytes : List ℕ} {at : ℕ} {r : Rule} → Stands bytes at r → (b : ℕ) → get_or bytes at 0 ≡ b → Spread bytes at b r
spread {bytes} {at} {r} h b e = subst (λ (k : ℕ). Spread bytes at k r) e (spreads bytes at r h)

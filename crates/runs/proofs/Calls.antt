-- The evaluator's calls over the text: from a rule that stands at a place, and its sign, the parts that stand behind it, each further on. Knows the table of
-- ends; no set and no world.
use mathlib.Core.Path.{◌≡◌, refl, ap, subst, subst⁻¹, ◌∙◌}
use mathlib.Core.Bool.{Bool, true, false, cond}
use mathlib.Core.List.{List}
use Prim.Native.Nat.{ℕ, ◌+◌, ◌≤◌, ◌<◌}
use native.Mathlib.Omega.{arith}
use native.Mathlib.Decide.{dec_lt}
use lib.ListN.{length, get_or, get_or-eq_default}
use Rattle.meaning.specs.Rule.{Variable, Walk, Test, Rule, of_walk, of_test, text}
use Rattle.std.specs.declared.option.Option.TheVariants.{Some}
use Rattle.spelling.specs.Scan.{NumberAt}
use Rattle.grammar.specs.Letters.{Lettered}
use Rattle.grammar.specs.Standing.{Stands, Ends, Leaf}
use Rattle.runs.specs.Values.{SumHere, BinderHere}
use Rattle.runs.specs.Found.{WalkHere, TestHere, LeafHere, Numbered}
use Rattle.grammar.proofs.Spread.{Spread, spread}
use Rattle.grammar.proofs.Spread.{act_at, undo_at, next_part_at, prev_at, seq_at, alt_at, star_at, check_at, conv_at, always_at, fluent_at, neg_at, both_at, diamond_at}
use Rattle.grammar.proofs.Spread.{sum_act_at, sum_undo_at, pick_at, sum_fluent_at, exists_at, inside}

-- Behind a first part that stands at a place, the table has a further place: there stands what stands behind the part.
module _ {bytes ends : List ℕ} (marked : Ends bytes ends) {i : ℕ} {x : Rule} (first : Stands bytes i x) where
  pub end_inside : 0 < i → i < length ends
  end_inside some = go (dec_lt i (length ends))
    where
      go : Dec (i < length ends) → i < length ends
      go (yes h) = h
      go (no h) = absurd (omega (arith, get_or-eq_default ends 0 {n = i} (omega arith), marked.each i x first))

  pub end_after : (other : ℕ) → other ≡ get_or ends i 0 → i ≤ other
  end_after other e = omega (arith, marked.each i x first)

  pub end_there : (other : ℕ) → other ≡ get_or ends i 0 → i + length (text x) ≡ other
  end_there other e = omega (arith, marked.each i x first)

  pub end_stands : {y : Rule} (other : ℕ) → other ≡ get_or ends i 0 → Stands bytes (i + length (text x)) y → Stands bytes other y
  end_stands {y} other e h = subst (λ (k : ℕ). Stands bytes k y) (end_there other e) h

-- the second part's place, and that something stands there
pub record Behind (ends : List ℕ) (at : ℕ) (Here : ℕ → Type 0) : Type 0 where
  pub inside : at + 1 < length ends
  pub there : (other : ℕ) → other ≡ get_or ends (at + 1) 0 → (at < other) × Here other

walk_behind : {bytes ends : List ℕ} {at : ℕ} → Ends bytes ends → {x : Rule} → Stands bytes (at + 1) x → (y : Walk)
    → Stands bytes (at + 1 + length (text x)) (of_walk y) → Behind ends at (WalkHere bytes ends)
walk_behind m f y h = record {
  inside = end_inside m f (omega arith);
  there = λ other e. (omega (arith, end_after m f other e), record { walk = y; stands = end_stands m f other e h; marked = m });
}

test_behind : {bytes ends : List ℕ} {at : ℕ} → Ends bytes ends → {x : Rule} → Stands bytes (at + 1) x → (y : Test)
    → Stands bytes (at + 1 + length (text x)) (of_test y) → Behind ends at (TestHere bytes ends)
test_behind m f y h = record {
  inside = end_inside m f (omega arith);
  there = λ other e. (omega (arith, end_after m f other e), record { test = y; stands = end_stands m f other e h; marked = m });
}

-- A binder: its letter, and where its part ends.
pub record Binder (bytes : List ℕ) (at end : ℕ) : Type 0 where
  pub onward : at + 2 ≤ end
  pub here : BinderHere bytes at end

binder : {bytes ends : List ℕ} {at : ℕ} → Ends bytes ends → (v : Variable) (x : Rule) → Lettered bytes (at + 1) v → Stands bytes (at + 2) x → (end : ℕ)
    → end ≡ get_or ends (at + 1 + 1) 0 → Binder bytes at end
binder {bytes} {ends} {at} m v x l p end read =
    let same : at + 1 + 1 ≡ at + 2 = omega arith in
    let there : end ≡ get_or ends (at + 2) 0 = read ∙ ap (λ (i : ℕ). get_or ends i 0) same in
    record {
      onward = omega (arith, there, m.each (at + 2) x p);
      here = record {
        letter = record { variable = v; stands = l };
        inside = omega (arith, there, m.each (at + 2) x p, inside p);
        ends = λ y s. there ∙ m.each (at + 2) y s;
      };
    }

-- a number with a variable's letter behind it
pub sum_here : (bytes : List ℕ) (at n : ℕ) (v : Variable) → NumberAt bytes (at + 1) (Some n) → Lettered bytes (at + 3) v → SumHere bytes (at + 1)
sum_here bytes at n v d l =
    let same : at + 3 ≡ at + 1 + 2 = omega arith in
    record { number = n; digits = d; letter = record { variable = v; stands = subst (λ (i : ℕ). Lettered bytes i v) same l } }

-- The parts of a walk.
module _ {bytes ends : List ℕ} {at : ℕ} (h : WalkHere bytes ends at) where
  walk_one : {x : Walk} → Stands bytes (at + 1) (of_walk x) → WalkHere bytes ends (at + 1)
  walk_one {x} s = record { walk = x; stands = s; marked = h.marked }

  pub seq_first : get_or bytes at 0 ≡ 59 → WalkHere bytes ends (at + 1)
  seq_first e = go (spread h.stands 59 e)
    where
      go : {r : Rule} → Spread bytes at 59 r → WalkHere bytes ends (at + 1)
      go (seq_at v w p q) = walk_one p

  pub seq_second : get_or bytes at 0 ≡ 59 → Behind ends at (WalkHere bytes ends)
  seq_second e = go (spread h.stands 59 e)
    where
      go : {r : Rule} → Spread bytes at 59 r → Behind ends at (WalkHere bytes ends)
      go (seq_at v w p q) = walk_behind h.marked p w q

  -- the one of the two that is walked first, or then
  pub seq_either_here : get_or bytes at 0 ≡ 59 → (other : ℕ) → other ≡ get_or ends (at + 1) 0 → (back : Bool) (place : ℕ) → place ≡ cond back other (at + 1)
      → (at < place) × WalkHere bytes ends place
  seq_either_here e other there true place h = subst⁻¹ (λ (i : ℕ). (at < i) × WalkHere bytes ends i) h ((seq_second e).there other there)
  seq_either_here e other there false place h = subst⁻¹ (λ (i : ℕ). (at < i) × WalkHere bytes ends i) h (omega arith, seq_first e)

  pub alt_first : get_or bytes at 0 ≡ 124 → WalkHere bytes ends (at + 1)
  alt_first e = go (spread h.stands 124 e)
    where
      go : {r : Rule} → Spread bytes at 124 r → WalkHere bytes ends (at + 1)
      go (alt_at v w p q) = walk_one p

  pub alt_second : get_or bytes at 0 ≡ 124 → Behind ends at (WalkHere bytes ends)
  alt_second e = go (spread h.stands 124 e)
    where
      go : {r : Rule} → Spread bytes at 124 r → Behind ends at (WalkHere bytes ends)
      go (alt_at v w p q) = walk_behind h.marked p w q

  pub star_part : get_or bytes at 0 ≡ 42 → WalkHere bytes ends (at + 1)
  star_part e = go (spread h.stands 42 e)
    where
      go : {r : Rule} → Spread bytes at 42 r → WalkHere bytes ends (at + 1)
      go (star_at w p) = walk_one p

  pub check_part : get_or bytes at 0 ≡ 63 → TestHere bytes ends (at + 1)
  check_part e = go (spread h.stands 63 e)
    where
      go : {r : Rule} → Spread bytes at 63 r → TestHere bytes ends (at + 1)
      go (check_at t p) = record { test = t; stands = p; marked = h.marked }

  pub conv_part : get_or bytes at 0 ≡ 45 → WalkHere bytes ends (at + 1)
  conv_part e = go (spread h.stands 45 e)
    where
      go : {r : Rule} → Spread bytes at 45 r → WalkHere bytes ends (at + 1)
      go (conv_at w p) = walk_one p

  -- a binder's part, behind its letter
  pub pick_part : get_or bytes at 0 ≡ 112 → WalkHere bytes ends (at + 2)
  pick_part e = go (spread h.stands 112 e)
    where
      go : {r : Rule} → Spread bytes at 112 r → WalkHere bytes ends (at + 2)
      go (pick_at v w l p) = record { walk = w; stands = p; marked = h.marked }

  pub pick_binder : get_or bytes at 0 ≡ 112 → (end : ℕ) → end ≡ get_or ends (at + 1 + 1) 0 → Binder bytes at end
  pick_binder e end there = go (spread h.stands 112 e)
    where
      go : {r : Rule} → Spread bytes at 112 r → Binder bytes at end
      go (pick_at v w l p) = binder h.marked v (of_walk w) l p end there

-- The parts of a test.
module _ {bytes ends : List ℕ} {at : ℕ} (h : TestHere bytes ends at) where
  pub fluent_number : get_or bytes at 0 ≡ 102 → Numbered bytes (at + 1)
  fluent_number e = go (spread h.stands 102 e)
    where
      go : {r : Rule} → Spread bytes at 102 r → Numbered bytes (at + 1)
      go (fluent_at i d) = record { number = i; digits = d }

  pub neg_part : get_or bytes at 0 ≡ 33 → TestHere bytes ends (at + 1)
  neg_part e = go (spread h.stands 33 e)
    where
      go : {r : Rule} → Spread bytes at 33 r → TestHere bytes ends (at + 1)
      go (neg_at t p) = record { test = t; stands = p; marked = h.marked }

  pub both_first : get_or bytes at 0 ≡ 38 → TestHere bytes ends (at + 1)
  both_first e = go (spread h.stands 38 e)
    where
      go : {r : Rule} → Spread bytes at 38 r → TestHere bytes ends (at + 1)
      go (both_at t u p q) = record { test = t; stands = p; marked = h.marked }

  pub both_second : get_or bytes at 0 ≡ 38 → Behind ends at (TestHere bytes ends)
  both_second e = go (spread h.stands 38 e)
    where
      go : {r : Rule} → Spread bytes at 38 r → Behind ends at (TestHere bytes ends)
      go (both_at t u p q) = test_behind h.marked p u q

  pub diamond_first : get_or bytes at 0 ≡ 60 → WalkHere bytes ends (at + 1)
  diamond_first e = go (spread h.stands 60 e)
    where
      go : {r : Rule} → Spread bytes at 60 r → WalkHere bytes ends (at + 1)
      go (diamond_at w t p q) = record { walk = w; stands = p; marked = h.marked }

  pub diamond_second : get_or bytes at 0 ≡ 60 → Behind ends at (TestHere bytes ends)
  diamond_second e = go (spread h.stands 60 e)
    where
      go : {r : Rule} → Spread bytes at 60 r → Behind ends at (TestHere bytes ends)
      go (diamond_at w t p q) = test_behind h.marked p t q

  pub sum_fluent_here : get_or bytes at 0 ≡ 103 → SumHere bytes (at + 1)
  sum_fluent_here e = go (spread h.stands 103 e)
    where
      go : {r : Rule} → Spread bytes at 103 r → SumHere bytes (at + 1)
      go (sum_fluent_at i v d l) = sum_here bytes at i v d l

  pub exists_part : get_or bytes at 0 ≡ 101 → TestHere bytes ends (at + 2)
  exists_part e = go (spread h.stands 101 e)
    where
      go : {r : Rule} → Spread bytes at 101 r → TestHere bytes ends (at + 2)
      go (exists_at v t l p) = record { test = t; stands = p; marked = h.marked }

  pub exists_binder : get_or bytes at 0 ≡ 101 → (end : ℕ) → end ≡ get_or ends (at + 1 + 1) 0 → Binder bytes at end
  exists_binder e end there = go (spread h.stands 101 e)
    where
      go : {r : Rule} → Spread bytes at 101 r → Binder bytes at end
      go (exists_at v t l p) = binder h.marked v (of_test t) l p end there

-- Where the other signs do not stand, a walk has no part, and a test is a `<`.
abbrev pub NoSign : List ℕ → ℕ → ℕ → Type 0
NoSign bytes at sign = get_or bytes at 0 ≡ sign → ⊥

pub record NoParts (bytes : List ℕ) (at : ℕ) : Type 0 where
  pub no_seq : NoSign bytes at 59
  pub no_alt : NoSign bytes at 124
  pub no_star : NoSign bytes at 42
  pub no_check : NoSign bytes at 63
  pub no_conv : NoSign bytes at 45
  pub no_pick : NoSign bytes at 112

-- as a `match` on the six signs leaves it
pub left_over : {bytes : List ℕ} {at : ℕ}
    → ((((((Unit {0} × NoSign bytes at 59) × NoSign bytes at 124) × NoSign bytes at 42) × NoSign bytes at 63) × NoSign bytes at 45) × NoSign bytes at 112)
    → NoParts bytes at
left_over none = record {
  no_seq = none.0.0.0.0.0.1;
  no_alt = none.0.0.0.0.1;
  no_star = none.0.0.0.1;
  no_check = none.0.0.1;
  no_conv = none.0.1;
  no_pick = none.1;
}

pub no_parts : {bytes : List ℕ} {at : ℕ} → NoParts bytes at → (x : Walk) → Stands bytes at (of_walk x) → Leaf x
no_parts {bytes} {at} none x h = go (spread h (get_or bytes at 0) refl) refl
  where
    go : {b : ℕ} {y : Walk} → Spread bytes at b (of_walk y) → get_or bytes at 0 ≡ b → Leaf y
    go (act_at a d) e = tt
    go (undo_at a d) e = tt
    go next_part_at e = tt
    go prev_at e = tt
    go (seq_at v w p q) e = none.no_seq e
    go (alt_at v w p q) e = none.no_alt e
    go (star_at w p) e = none.no_star e
    go (check_at t p) e = none.no_check e
    go (conv_at w p) e = none.no_conv e
    go (sum_act_at a v d l) e = tt
    go (sum_undo_at a v d l) e = tt
    go (pick_at v w l p) e = none.no_pick e

pub leaf_part : {bytes ends : List ℕ} {at : ℕ} → WalkHere bytes ends at → NoParts bytes at → LeafHere bytes at
leaf_part h none = record { walk = h.walk; stands = h.stands; leaf = no_parts none h.walk h.stands }

pub last_sign : {bytes ends : List ℕ} {at : ℕ} → TestHere bytes ends at → NoSign bytes at 49 → NoSign bytes at 102 → NoSign bytes at 33 → NoSign bytes at 38
    → NoSign bytes at 103 → NoSign bytes at 101 → get_or bytes at 0 ≡ 60
last_sign {bytes} {at = at} h no-always no-fluent no-neg no_both no-sum no-exists = go (spread h.stands (get_or bytes at 0) refl) refl
  where
    go : {b : ℕ} {y : Test} → Spread bytes at b (of_test y) → get_or bytes at 0 ≡ b → get_or bytes at 0 ≡ 60
    go always_at e = absurd (no-always e)
    go (fluent_at i d) e = absurd (no-fluent e)
    go (neg_at t p) e = absurd (no-neg e)
    go (both_at t u p q) e = absurd (no_both e)
    go (diamond_at w t p q) e = e
    go (sum_fluent_at i v d l) e = absurd (no-sum e)
    go (exists_at v t l p) e = absurd (no-exists e)

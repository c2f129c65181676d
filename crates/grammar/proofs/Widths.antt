-- Laws of the table of ends: what it holds at a place follows from what it holds after it, and where a rule is spelled it is where that rule ends. No code.
use mathlib.Core.Path.{◌≡◌, refl, sym, ap, subst⁻¹, ◌∙◌}
use mathlib.Core.Logic.{◌⊎◌, inl, inr}
use mathlib.Core.List.{List, [], ◌∷◌, ◌++◌, append_assoc}
use Prim.Native.Nat.{ℕ, zero, suc, ◌+◌, ◌-◌, ◌≤◌, ◌<◌, min}
use native.Mathlib.Omega.{arith}
use native.Mathlib.Decide.{dec_le, dec_lt}
use lib.ListN.{length, drop, get_or, set, replicate, length-drop, length-append, length-set, length-replicate}
use lib.Seq.{drop-drop, drop-length, drop-append_seam, get_or-set_same, ext_get_or}
use Rattle.meaning.specs.Limits.{text_limit}
use Rattle.meaning.specs.Rule.{Walk, Test, act, undo, next, prev, seq, alt, star, check, conv, pick, always, fluent, neg, both, diamond, exists, Variable, plain, plus, letter, walk_text, test_text, of_test, of_walk, text}
use Rattle.meaning.specs.Rule as meaning
use Rattle.grammar.specs.declared.signs.Sign.{Sign}
use Rattle.grammar.specs.declared.signs.Sign.TheVariants.{Step, NamedStep, OverWalk, OverTest, TwoWalks, Constant, NamedFluent, Denial, TwoTests, WalkThenTest, SumStep, SomeWalk, SumFluent, SomeTest, Stranger}
use Rattle.grammar.specs.Signs.{sign_meant}
use Rattle.grammar.specs.Standing.{Stands, Ends}
use Rattle.grammar.specs.Ends.{one_rule, two_rules, letter_and_rule, width_by, widths, end_at, TableFrom, Filled, FillOutcome}
use Rattle.spelling.proofs.TwoDigits.{here}
use Rattle.grammar.proofs.Spread.{some_text}

-- Widths.
abbrev width : List ℕ → ℕ
width l = get_or (widths l) 0 0

width_drop : (l : List ℕ) (n : ℕ) → n ≤ length l → get_or (widths l) n 0 ≡ width (drop n l)
unfolding widths
width_drop [] zero h = refl
width_drop [] (suc n) h = absurd (omega arith)
width_drop (b ∷ l) zero h = refl
width_drop (b ∷ l) (suc n) h = width_drop l n (omega arith)

-- no width passes the end
widths_inside : (l : List ℕ) (n : ℕ) → n ≤ length l → n + get_or (widths l) n 0 ≤ length l
unfolding widths
widths_inside [] zero h = omega arith
widths_inside [] (suc n) h = absurd (omega arith)
widths_inside (b ∷ l) zero h = go (sign_meant b) (widths_inside l 0 (omega arith)) (widths_inside l (width l))
  where
    go : (f : Sign) → 0 + width l ≤ length l → (width l ≤ length l → width l + get_or (widths l) (width l) 0 ≤ length l) → 0 + width_by f (suc (length l)) (widths l) ≤ suc (length l)
    go Step one two = omega arith
    go NamedStep one two = omega arith
    go OverWalk one two = omega arith
    go OverTest one two = omega arith
    go TwoWalks one two = omega (arith, two (omega arith))
    go Constant one two = omega arith
    go NamedFluent one two = omega arith
    go Denial one two = omega arith
    go TwoTests one two = omega (arith, two (omega arith))
    go WalkThenTest one two = omega (arith, two (omega arith))
    go SumStep one two = omega arith
    go SomeWalk one two = omega arith
    go SumFluent one two = omega arith
    go SomeTest one two = omega arith
    go Stranger one two = omega arith
widths_inside (b ∷ l) (suc n) h = omega (arith, widths_inside l n (omega arith))

-- How wide a sign is, with what follows it: alone, with so many bytes, over one rule, over one behind a letter, over two.
abbrev pub Alone : Sign → Type 0
Alone s = (left : ℕ) (after : List ℕ) → width_by s left after ≡ 1

abbrev pub Named : ℕ → Sign → Type 0
Named many s = (left : ℕ) (after : List ℕ) → width_by s left after ≡ min many left

abbrev pub OverOne : Sign → Type 0
OverOne s = (left : ℕ) (after : List ℕ) → width_by s left after ≡ one_rule after

abbrev pub OverLettered : Sign → Type 0
OverLettered s = (left : ℕ) (after : List ℕ) → width_by s left after ≡ letter_and_rule left after

abbrev pub OverTwo : Sign → Type 0
OverTwo s = (left : ℕ) (after : List ℕ) → width_by s left after ≡ two_rules after

-- The end at a place, by its sign and by the ends after it.
module _ (bytes : List ℕ) (at : ℕ) where
  pub end_inside : at ≤ length bytes → end_at bytes at ≤ length bytes
  end_inside h = omega (arith, widths_inside (drop at bytes) 0 (omega arith), length-drop at bytes)

  module _ (h : at < length bytes) (s : Sign) (e : s ≡ sign_meant (get_or bytes at 0)) where
    abbrev left : ℕ
    left = suc (length (drop (at + 1) bytes))

    abbrev after : List ℕ
    after = widths (drop (at + 1) bytes)

    end_by : end_at bytes at ≡ at + width_by s left after
    unfolding widths
    end_by = ap (λ (l : List ℕ). at + width l) (here bytes at h) ∙ ap (λ (x : Sign). at + width_by x left after) (sym e)

    pub end_leaf : Alone s → at + 1 ≡ end_at bytes at
    end_leaf w = omega (arith, end_by, w left after)

    pub end_digits : (many : ℕ) → Named many s → at + min many (length bytes - at) ≡ end_at bytes at
    end_digits many w = omega (arith, end_by, w left after, length-drop (at + 1) bytes)

    end_cut : OverLettered s → length bytes < at + 2 → length bytes ≡ end_at bytes at
    end_cut w l = omega (arith, end_by, w left after, length-drop (at + 1) bytes)

    -- behind a letter
    end_lettered : OverLettered s → at + 2 ≤ length bytes → end_at bytes (at + 2) ≡ end_at bytes at
    end_lettered w l =
        let rest = drop (at + 1) bytes in
        let same : at + 2 ≡ at + 1 + 1 = omega arith in
        let there : drop (at + 2) bytes ≡ drop 1 rest = ap (λ (k : ℕ). drop k bytes) same ∙ sym (drop-drop 1 (at + 1) bytes) in
        let second : width (drop (at + 2) bytes) ≡ get_or (widths rest) 1 0 = ap width there ∙ sym (width_drop rest 1 (omega (arith, length-drop (at + 1) bytes))) in
        omega (arith, second, end_by, w left after, length-drop (at + 1) bytes, widths_inside rest 1 (omega (arith, length-drop (at + 1) bytes)))

    end_rule : OverOne s → end_at bytes (at + 1) ≡ end_at bytes at
    end_rule w = omega (arith, end_by, w left after)

    end_rules : OverTwo s → end_at bytes (end_at bytes (at + 1)) ≡ end_at bytes at
    end_rules w =
        let l = drop (at + 1) bytes in
        let inside = widths_inside l 0 (omega arith) in
        let there : drop (end_at bytes (at + 1)) bytes ≡ drop (width l) l = sym (drop-drop (width l) (at + 1) bytes) in
        let second : width (drop (end_at bytes (at + 1)) bytes) ≡ get_or (widths l) (width l) 0 = ap width there ∙ sym (width_drop l (width l) (omega arith)) in
        omega (arith, second, end_by, w left after)

-- the end of what is no sign, behind the last byte
end_at_end : (bytes : List ℕ) → end_at bytes (length bytes) ≡ length bytes
unfolding widths
end_at_end bytes = ap (λ (l : List ℕ). length bytes + width l) (drop-length bytes) ∙ omega arith

-- and by a table of the ends after it
module _ (bytes ends : List ℕ) (at : ℕ) (t : TableFrom bytes ends at) where
  pub middle_inside : get_or ends (at + 1) 0 ≤ length bytes
  middle_inside = omega (arith, t.told (at + 1) (omega arith) (omega (arith, t.inside)), end_inside bytes (at + 1) (omega (arith, t.inside)))

  module _ (s : Sign) (e : s ≡ sign_meant (get_or bytes at 0)) where
    pub table_rule : OverOne s → get_or ends (at + 1) 0 ≡ end_at bytes at
    table_rule w = t.told (at + 1) (omega arith) (omega (arith, t.inside)) ∙ end_rule bytes at t.inside s e w

    pub table_lettered : OverLettered s → get_or ends (min (length bytes) (at + 2)) 0 ≡ end_at bytes at
    table_lettered w = go (dec_le (at + 2) (length bytes))
      where
        go : Dec (at + 2 ≤ length bytes) → get_or ends (min (length bytes) (at + 2)) 0 ≡ end_at bytes at
        go (yes l) =
            let there : min (length bytes) (at + 2) ≡ at + 2 = omega arith in
            rw there (t.told (at + 2) (omega arith) l ∙ end_lettered bytes at t.inside s e w l)
        go (no l) =
            let there : min (length bytes) (at + 2) ≡ length bytes = omega arith in
            rw there (t.told (length bytes) t.inside (omega arith) ∙ end_at_end bytes ∙ end_cut bytes at t.inside s e w (omega arith))

    pub table_rules : OverTwo s → get_or ends (get_or ends (at + 1) 0) 0 ≡ end_at bytes at
    table_rules w =
        let middle = t.told (at + 1) (omega arith) (omega (arith, t.inside)) in
        t.told (get_or ends (at + 1) 0) (omega arith) middle_inside ∙ ap (end_at bytes) middle ∙ end_rules bytes at t.inside s e w

-- Where a rule is spelled, its end is where that rule ends.
one_wide : (b : ℕ) (x rest : List ℕ) → OverOne (sign_meant b) → width (x ++ rest) ≡ length x → width (b ∷ (x ++ rest)) ≡ suc (length x)
unfolding widths
one_wide b x rest w e = w (suc (length (x ++ rest))) (widths (x ++ rest)) ∙ omega arith

lettered_wide : (b : ℕ) (v : Variable) (x rest : List ℕ) → OverLettered (sign_meant b) → width (x ++ rest) ≡ length x
    → width (b ∷ (letter v ∷ (x ++ rest))) ≡ suc (suc (length x))
unfolding widths
lettered_wide b v x rest w e =
    w (suc (suc (length (x ++ rest)))) (widths (letter v ∷ (x ++ rest))) ∙ omega (arith, length-append x rest)

two_wide : (b : ℕ) (x y rest : List ℕ) → OverTwo (sign_meant b) → width (x ++ (y ++ rest)) ≡ length x → width (y ++ rest) ≡ length y
    → width (b ∷ ((x ++ y) ++ rest)) ≡ suc (length (x ++ y))
unfolding widths
two_wide b x y rest w p q =
    let l = (x ++ y) ++ rest in
    let same : l ≡ x ++ (y ++ rest) = append_assoc x y rest in
    let first : width l ≡ length x = ap width same ∙ p in
    let inside : length x ≤ length l = omega (arith, ap length same, length-append x (y ++ rest)) in
    let second : get_or (widths l) (width l) 0 ≡ length y =
    ap (λ (n : ℕ). get_or (widths l) n 0) first ∙ width_drop l (length x) inside ∙ ap (λ (m : List ℕ). width (drop (length x) m)) same ∙ ap width (drop-append_seam x (y ++ rest)) ∙ q in
    w (suc (length l)) (widths l) ∙ omega (arith, first, second, length-append x y)

mutual
  unfolding walk_text widths sign_meant

  walk_wide : (w : Walk) (rest : List ℕ) → width (walk_text w ++ rest) ≡ length (walk_text w)
  walk_wide (act (plain a)) rest = omega arith
  walk_wide (act (plus a v)) rest = omega arith
  walk_wide (undo (plain a)) rest = omega arith
  walk_wide (undo (plus a v)) rest = omega arith
  walk_wide next rest = refl
  walk_wide prev rest = refl
  walk_wide (seq v w) rest = two_wide 59 (walk_text v) (walk_text w) rest (λ l a. refl) (walk_wide v (walk_text w ++ rest)) (walk_wide w rest)
  walk_wide (alt v w) rest = two_wide 124 (walk_text v) (walk_text w) rest (λ l a. refl) (walk_wide v (walk_text w ++ rest)) (walk_wide w rest)
  walk_wide (star w) rest = one_wide 42 (walk_text w) rest (λ l a. refl) (walk_wide w rest)
  walk_wide (check t) rest = one_wide 63 (test_text t) rest (λ l a. refl) (test_wide t rest)
  walk_wide (conv w) rest = one_wide 45 (walk_text w) rest (λ l a. refl) (walk_wide w rest)
  walk_wide (pick v w) rest = lettered_wide 112 v (walk_text w) rest (λ l a. refl) (walk_wide w rest)

  test_wide : (t : Test) (rest : List ℕ) → width (test_text t ++ rest) ≡ length (test_text t)
  test_wide always rest = refl
  test_wide (fluent (plain i)) rest = omega arith
  test_wide (fluent (plus i v)) rest = omega arith
  test_wide (neg t) rest = one_wide 33 (test_text t) rest (λ l a. refl) (test_wide t rest)
  test_wide (both t u) rest = two_wide 38 (test_text t) (test_text u) rest (λ l a. refl) (test_wide t (test_text u ++ rest)) (test_wide u rest)
  test_wide (diamond w t) rest = two_wide 60 (walk_text w) (test_text t) rest (λ l a. refl) (walk_wide w (test_text t ++ rest)) (test_wide t rest)
  test_wide (exists v t) rest = lettered_wide 101 v (test_text t) rest (λ l a. refl) (test_wide t rest)

pub walk_end : (bytes : List ℕ) (at : ℕ) (w : Walk) (rest : List ℕ) → drop at bytes ≡ walk_text w ++ rest → end_at bytes at ≡ at + length (walk_text w)
walk_end bytes at w rest e = ap (λ (l : List ℕ). at + width l) e ∙ ap (λ (n : ℕ). at + n) (walk_wide w rest)

pub test_end : (bytes : List ℕ) (at : ℕ) (t : Test) (rest : List ℕ) → drop at bytes ≡ test_text t ++ rest → end_at bytes at ≡ at + length (test_text t)
test_end bytes at t rest e = ap (λ (l : List ℕ). at + width l) e ∙ ap (λ (n : ℕ). at + n) (test_wide t rest)

-- The table as it is filled: from a place on it holds the ends, and past the text what it held before.
pub record Filling (bytes before ends : List ℕ) (at : ℕ) : Type 0 where
  pub inside : at ≤ length bytes
  pub short : length bytes ≤ text_limit
  pub room : length bytes < length ends
  pub long : length ends ≡ length before
  pub told : (i : ℕ) → at ≤ i → i ≤ length bytes → get_or ends i 0 ≡ end_at bytes i
  pub kept : (i : ℕ) → length bytes < i → get_or ends i 0 ≡ get_or before i 0

-- first the text's own end
abbrev begun : List ℕ → List ℕ → List ℕ
begun bytes before = set before (length bytes) (length bytes)

pub filling_starts : (bytes before : List ℕ) → length bytes ≤ text_limit → length bytes < length before → Filling bytes (begun bytes before) (begun bytes before) (length bytes)
filling_starts bytes before short room = record {
  inside = omega arith;
  short = short;
  room = rw length-set room;
  long = refl;
  told = λ i h l.
      let e : i ≡ length bytes = omega arith in
      subst⁻¹ (λ (k : ℕ). get_or (begun bytes before) k 0 ≡ end_at bytes k) e (get_or-set_same before (length bytes) (length bytes) 0 room ∙ sym (end_at_end bytes));
  kept = λ i h. refl;
}

-- The contract of `fill_ends` leaves one table.
same_filled : (bytes before after after' : List ℕ) → Filled bytes before after → Filled bytes before after' → after ≡ after'
same_filled bytes before after after' f f' = ext_get_or 0 after after' (f.long ∙ sym f'.long) (λ i l. at i (dec_le i (length bytes)))
  where
    at : (i : ℕ) → Dec (i ≤ length bytes) → get_or after i 0 ≡ get_or after' i 0
    at i (yes h) = f.told i h ∙ sym (f'.told i h)
    at i (no h) = f.kept i (omega arith) ∙ sym (f'.kept i (omega arith))

pub fill_ends_determined : (bytes before after after' : List ℕ) → FillOutcome bytes before after → FillOutcome bytes before after' → after ≡ after'
fill_ends_determined bytes before after after' o o' = go (dec_le (length bytes) text_limit) (dec_lt (length bytes) (length before))
  where
    left : (text_limit < length bytes) ⊎ (length before ≤ length bytes) → after ≡ after'
    left h = o.untouched h ∙ sym (o'.untouched h)

    go : Dec (length bytes ≤ text_limit) → Dec (length bytes < length before) → after ≡ after'
    go (yes h) (yes r) = same_filled bytes before after after' (o.filled h r) (o'.filled h r)
    go (yes h) (no r) = left (inr (omega arith))
    go (no h) d = left (inl (omega arith))

-- What a filled table tells: where a rule is spelled, it holds where that rule ends.
spelled_inside : (bytes : List ℕ) (at : ℕ) (r : meaning.Rule) (rest : List ℕ) → drop at bytes ≡ text r ++ rest → at ≤ length bytes
spelled_inside bytes at r rest e = omega (arith, ap length e, length-append (text r) rest, length-drop at bytes, some_text r)

walk_told : (bytes before ends : List ℕ) → Filled bytes before ends → (at : ℕ) (w : Walk) (rest : List ℕ) → drop at bytes ≡ walk_text w ++ rest → get_or ends at 0 ≡ at + length (walk_text w)
walk_told bytes before ends f at w rest e = f.told at (spelled_inside bytes at (of_walk w) rest e) ∙ walk_end bytes at w rest e

test_told : (bytes before ends : List ℕ) → Filled bytes before ends → (at : ℕ) (t : Test) (rest : List ℕ) → drop at bytes ≡ test_text t ++ rest → get_or ends at 0 ≡ at + length (test_text t)
test_told bytes before ends f at t rest e = f.told at (spelled_inside bytes at (of_test t) rest e) ∙ test_end bytes at t rest e

-- so a new table, filled for a text of a rule's length, is the text's
pub ends_told : (bytes ends : List ℕ) → length bytes ≤ text_limit → FillOutcome bytes (replicate (text_limit + 1) 0) ends → Ends bytes ends
ends_told bytes ends short o = record { each = go }
  where
    filled : Filled bytes (replicate (text_limit + 1) 0) ends
    filled = o.filled short (omega (arith, length-replicate {A = ℕ} (text_limit + 1) 0))

    go : (at : ℕ) (r : meaning.Rule) → Stands bytes at r → get_or ends at 0 ≡ at + length (text r)
    go at (of_walk w) h = walk_told bytes (replicate (text_limit + 1) 0) ends filled at w h.rest h.spells
    go at (of_test t) h = test_told bytes (replicate (text_limit + 1) 0) ends filled at t h.rest h.spells

-- What the rewriter asks of a part, sign by sign: the part stands where it is looked for, there is a number for each place that it may be written to, and it
-- begins behind the sign. Knows no code.
use mathlib.Core.Path.{◌≡◌, refl, sym, ap, subst, subst⁻¹}
use mathlib.Core.Bool.{Bool, true, false}
use mathlib.Core.List.{List}
use Prim.Native.Nat.{ℕ, ◌+◌, ◌^◌, ◌≤◌, ◌<◌}
use native.Mathlib.Omega.{arith}
use lib.ListN.{length, get_or, length-append}
use Rattle.meaning.specs.Limits.{text_limit}
use Rattle.meaning.specs.Rule.{Walk, Test, of_test, of_walk, walk_text, test_text, other}
use Rattle.meaning.specs.Normal.{normal_test}
use Rattle.meaning.proofs.Rewriting.{normal_figures, turned_figures, test_figures}
use Rattle.grammar.specs.declared.signs.Sign.TheVariants.{NamedStep, OverWalk, OverTest, TwoWalks, NamedFluent, Denial, TwoTests, WalkThenTest, SumStep, SomeWalk, SumFluent, SomeTest}
use Rattle.grammar.specs.Signs.{sign_meant}
use Rattle.grammar.specs.Standing.{Stands}
use Rattle.grammar.proofs.SignTable.{SignIs, sign_is, act_sign, undo_sign, seq_sign, alt_sign, star_sign, conv_sign, check_sign, fluent_sign, neg_sign, both_sign, diamond_sign, sum_act_sign, sum_undo_sign, pick_sign, sum_fluent_sign, exists_sign}
use Rattle.grammar.proofs.Spread.{Spread, spread, some_text, inside, within}
use Rattle.grammar.proofs.Spread.{act_at, undo_at, seq_at, alt_at, star_at, check_at, conv_at, fluent_at, neg_at, both_at, diamond_at, sum_act_at, sum_undo_at, pick_at, sum_fluent_at, exists_at}
use Rattle.normal.specs.declared.rewrite.Parts.{Parts}
use Rattle.normal.specs.Place.{WalkToWrite, TestToWrite, NumberHere, LetterHere, facing, WalkWritten, TestWritten, NumberWritten, LetterWritten}
use Rattle.normal.specs.Sign.{signs_in_order}
use Rattle.normal.proofs.Standing.{behind}

-- no rewriting makes a walk or a test longer
facing_short : (back : Bool) (x : Walk) → length (walk_text (facing back x)) ≤ length (walk_text x)
facing_short false x = omega (arith, (normal_figures other other x).shorter)
facing_short true x = omega (arith, (turned_figures other other x).shorter)

test_short : (t : Test) → length (test_text (normal_test t)) ≤ length (test_text t)
test_short t = omega (arith, (test_figures other other t).shorter)

-- where a walk is rewritten
module _ {bytes ends : List ℕ} {at to : ℕ} (h : WalkToWrite bytes ends at to) where
  -- the text is read within it, the sign has a place in the output, and the part behind it one in the table
  pub walk_in : at < length bytes
  walk_in = within h.stands

  pub walk_room : to + 1 < 2 ^ 64
  walk_room = omega (arith, h.low, some_text (of_walk h.walk))

  pub walk_next : at + 1 ≤ text_limit
  walk_next = omega (arith, walk_in, h.marked.short)

  pub conv_here : get_or bytes at 0 ≡ 45 → WalkToWrite bytes ends (at + 1) to
  unfolding walk_text
  conv_here e = go (spread h.stands 45 e) h.low
    where
      go : {x : Walk} → Spread bytes at 45 (of_walk x) → to + length (walk_text x) < 2 ^ 64 → WalkToWrite bytes ends (at + 1) to
      go (conv_at w s) low = record { marked = h.marked; walk = w; stands = s; low = omega arith }

  pub star_here : OverWalk ≡ sign_meant (get_or bytes at 0) → (get_or bytes at 0 ≡ 45 → ⊥) → WalkToWrite bytes ends (at + 1) (to + 1)
  unfolding walk_text
  star_here s n = go (sign_is s) refl (spread h.stands _ refl) h.low
    where
      go : {b : ℕ} {x : Walk} → SignIs b OverWalk → get_or bytes at 0 ≡ b → Spread bytes at b (of_walk x) → to + length (walk_text x) < 2 ^ 64 → WalkToWrite bytes ends (at + 1) (to + 1)
      go star_sign e (star_at w s) low = record { marked = h.marked; walk = w; stands = s; low = omega arith }
      go conv_sign e (conv_at w s) low = absurd (n e)

  pub check_here : OverTest ≡ sign_meant (get_or bytes at 0) → TestToWrite bytes ends (at + 1) (to + 1)
  unfolding walk_text
  check_here s = go (sign_is s) (spread h.stands _ refl) h.low
    where
      go : {b : ℕ} {x : Walk} → SignIs b OverTest → Spread bytes at b (of_walk x) → to + length (walk_text x) < 2 ^ 64 → TestToWrite bytes ends (at + 1) (to + 1)
      go check_sign (check_at t s) low = record { marked = h.marked; test = t; stands = s; low = omega arith }

  pub named_here : NamedStep ≡ sign_meant (get_or bytes at 0) → NumberHere bytes (at + 1) (to + 1)
  unfolding walk_text
  named_here s = go (sign_is s) (spread h.stands _ refl) h.low (inside h.stands)
    where
      go : {b : ℕ} {x : Walk} → SignIs b NamedStep → Spread bytes at b (of_walk x) → to + length (walk_text x) < 2 ^ 64 → at + length (walk_text x) ≤ length bytes → NumberHere bytes (at + 1) (to + 1)
      go act_sign (act_at a d) low i = record { within = omega arith; low = omega arith }
      go undo_sign (undo_at a d) low i = record { within = omega arith; low = omega arith }

  -- `bNNv`, `sNNv`: the number, and the letter behind it
  pub sum_here : SumStep ≡ sign_meant (get_or bytes at 0) → NumberHere bytes (at + 1) (to + 1) × LetterHere bytes (at + 3) (to + 3)
  unfolding walk_text
  sum_here s = go (sign_is s) (spread h.stands _ refl) h.low (inside h.stands)
    where
      go : {b : ℕ} {x : Walk} → SignIs b SumStep → Spread bytes at b (of_walk x) → to + length (walk_text x) < 2 ^ 64 → at + length (walk_text x) ≤ length bytes
          → NumberHere bytes (at + 1) (to + 1) × LetterHere bytes (at + 3) (to + 3)
      go sum_act_sign (sum_act_at a v d l) low i = (record { within = omega arith; low = omega arith }, record { within = omega arith; low = omega arith })
      go sum_undo_sign (sum_undo_at a v d l) low i = (record { within = omega arith; low = omega arith }, record { within = omega arith; low = omega arith })

  -- `pvW`: the letter, and the part behind it
  pub pick_here : SomeWalk ≡ sign_meant (get_or bytes at 0) → LetterHere bytes (at + 1) (to + 1) × WalkToWrite bytes ends (at + 2) (to + 2)
  unfolding walk_text
  pick_here s = go (sign_is s) (spread h.stands _ refl) h.low (inside h.stands)
    where
      go : {b : ℕ} {x : Walk} → SignIs b SomeWalk → Spread bytes at b (of_walk x) → to + length (walk_text x) < 2 ^ 64 → at + length (walk_text x) ≤ length bytes
          → LetterHere bytes (at + 1) (to + 1) × WalkToWrite bytes ends (at + 2) (to + 2)
      go pick_sign (pick_at v w l k) low i = (record { within = omega arith; low = omega arith }, record { marked = h.marked; walk = w; stands = k; low = omega arith })

  -- Of two parts, in whichever order: the one that is written first, and the other, which is written behind it.
  module _ (p : Parts) (exchanged : Bool) (order : p ≡ signs_in_order exchanged (at + 1) (get_or ends (at + 1) 0)) where
    record Both : Type 0 where
      one : Walk
      other : Walk
      there : Stands bytes p.first (of_walk one)
      beside : Stands bytes p.second (of_walk other)
      past : at < p.first
      past' : at < p.second
      low : to + 1 + (length (walk_text one) + length (walk_text other)) < 2 ^ 64

    both : (v w : Walk) → Stands bytes (at + 1) (of_walk v) → Stands bytes (at + 1 + length (walk_text v)) (of_walk w) → to + 1 + (length (walk_text v) + length (walk_text w)) < 2 ^ 64
        → (t : Bool) → p ≡ signs_in_order t (at + 1) (get_or ends (at + 1) 0) → Both
    both v w s t low false o = record {
      one = v;
      other = w;
      there = subst (λ (q : Parts). Stands bytes q.first (of_walk v)) (sym o) s;
      beside = subst (λ (q : Parts). Stands bytes q.second (of_walk w)) (sym o) (behind h.marked.table s t);
      past = omega (arith, ap (λ (q : Parts). q.first) o);
      past' = omega (arith, ap (λ (q : Parts). q.second) o, h.marked.table.each (at + 1) (of_walk v) s);
      low = low;
    }
    both v w s t low true o = record {
      one = w;
      other = v;
      there = subst (λ (q : Parts). Stands bytes q.first (of_walk w)) (sym o) (behind h.marked.table s t);
      beside = subst (λ (q : Parts). Stands bytes q.second (of_walk v)) (sym o) s;
      past = omega (arith, ap (λ (q : Parts). q.first) o, h.marked.table.each (at + 1) (of_walk v) s);
      past' = omega (arith, ap (λ (q : Parts). q.second) o);
      low = omega arith;
    }

    both_here : TwoWalks ≡ sign_meant (get_or bytes at 0) → Both
    unfolding walk_text
    both_here s = go (sign_is s) (spread h.stands _ refl) h.low
      where
        go : {b : ℕ} {x : Walk} → SignIs b TwoWalks → Spread bytes at b (of_walk x) → to + length (walk_text x) < 2 ^ 64 → Both
        go seq_sign (seq_at v w s t) low = both v w s t (omega (arith, length-append (walk_text v) (walk_text w))) exchanged order
        go alt_sign (alt_at v w s t) low = both v w s t (omega (arith, length-append (walk_text v) (walk_text w))) exchanged order

    pub first_here : TwoWalks ≡ sign_meant (get_or bytes at 0) → WalkToWrite bytes ends p.first (to + 1) × (at < p.first)
    first_here s = let b = both_here s in (record { marked = h.marked; walk = b.one; stands = b.there; low = omega (arith, b.low) }, b.past)

    pub second_here : (back : Bool) {to₁ : ℕ} {mid after : List ℕ} → TwoWalks ≡ sign_meant (get_or bytes at 0) → WalkWritten bytes back p.first (to + 1) mid to₁ after
        → WalkToWrite bytes ends p.second to₁ × (at < p.second)
    second_here back s i =
        let b = both_here s in
        let k = i.each b.one b.there in
        (record { marked = h.marked; walk = b.other; stands = b.beside; low = omega (arith, b.low, k.wrote, facing_short back b.one) }, b.past')

-- where a test is rewritten
module _ {bytes ends : List ℕ} {at to : ℕ} (h : TestToWrite bytes ends at to) where
  pub test_in : at < length bytes
  test_in = within h.stands

  pub test_room : to + 1 < 2 ^ 64
  test_room = omega (arith, h.low, some_text (of_test h.test))

  pub test_next : at + 1 ≤ text_limit
  test_next = omega (arith, test_in, h.marked.short)

  pub fluent_here : NamedFluent ≡ sign_meant (get_or bytes at 0) → NumberHere bytes (at + 1) (to + 1)
  unfolding walk_text
  fluent_here s = go (sign_is s) (spread h.stands _ refl) h.low (inside h.stands)
    where
      go : {b : ℕ} {t : Test} → SignIs b NamedFluent → Spread bytes at b (of_test t) → to + length (test_text t) < 2 ^ 64 → at + length (test_text t) ≤ length bytes → NumberHere bytes (at + 1) (to + 1)
      go fluent_sign (fluent_at i d) low k = record { within = omega arith; low = omega arith }

  pub denial_here : Denial ≡ sign_meant (get_or bytes at 0) → TestToWrite bytes ends (at + 1) (to + 1)
  unfolding walk_text
  denial_here s = go (sign_is s) (spread h.stands _ refl) h.low
    where
      go : {b : ℕ} {t : Test} → SignIs b Denial → Spread bytes at b (of_test t) → to + length (test_text t) < 2 ^ 64 → TestToWrite bytes ends (at + 1) (to + 1)
      go neg_sign (neg_at t s) low = record { marked = h.marked; test = t; stands = s; low = omega arith }

  -- `gNNv`, and `evT`
  pub sum_fluent_here : SumFluent ≡ sign_meant (get_or bytes at 0) → NumberHere bytes (at + 1) (to + 1) × LetterHere bytes (at + 3) (to + 3)
  unfolding walk_text
  sum_fluent_here s = go (sign_is s) (spread h.stands _ refl) h.low (inside h.stands)
    where
      go : {b : ℕ} {t : Test} → SignIs b SumFluent → Spread bytes at b (of_test t) → to + length (test_text t) < 2 ^ 64 → at + length (test_text t) ≤ length bytes
          → NumberHere bytes (at + 1) (to + 1) × LetterHere bytes (at + 3) (to + 3)
      go sum_fluent_sign (sum_fluent_at a v d l) low i = (record { within = omega arith; low = omega arith }, record { within = omega arith; low = omega arith })

  pub exists_here : SomeTest ≡ sign_meant (get_or bytes at 0) → LetterHere bytes (at + 1) (to + 1) × TestToWrite bytes ends (at + 2) (to + 2)
  unfolding walk_text
  exists_here s = go (sign_is s) (spread h.stands _ refl) h.low (inside h.stands)
    where
      go : {b : ℕ} {t : Test} → SignIs b SomeTest → Spread bytes at b (of_test t) → to + length (test_text t) < 2 ^ 64 → at + length (test_text t) ≤ length bytes
          → LetterHere bytes (at + 1) (to + 1) × TestToWrite bytes ends (at + 2) (to + 2)
      go exists_sign (exists_at v t l k) low i = (record { within = omega arith; low = omega arith }, record { marked = h.marked; test = t; stands = k; low = omega arith })

  -- `&TU`
  pub both_first : TwoTests ≡ sign_meant (get_or bytes at 0) → TestToWrite bytes ends (at + 1) (to + 1)
  unfolding walk_text
  both_first s = go (sign_is s) (spread h.stands _ refl) h.low
    where
      go : {b : ℕ} {t : Test} → SignIs b TwoTests → Spread bytes at b (of_test t) → to + length (test_text t) < 2 ^ 64 → TestToWrite bytes ends (at + 1) (to + 1)
      go both_sign (both_at t u p q) low = record { marked = h.marked; test = t; stands = p; low = omega (arith, length-append (test_text t) (test_text u)) }

  pub both_second : {middle to₁ : ℕ} {mid after : List ℕ} → TwoTests ≡ sign_meant (get_or bytes at 0) → middle ≡ get_or ends (at + 1) 0 → TestWritten bytes (at + 1) (to + 1) mid to₁ after
      → TestToWrite bytes ends middle to₁ × (at < middle)
  unfolding walk_text
  both_second {middle} {to₁} s m i = subst⁻¹ (λ (k : ℕ). TestToWrite bytes ends k to₁ × (at < k)) m (go (sign_is s) (spread h.stands _ refl) h.low)
    where
      go : {b : ℕ} {t : Test} → SignIs b TwoTests → Spread bytes at b (of_test t) → to + length (test_text t) < 2 ^ 64 → TestToWrite bytes ends (get_or ends (at + 1) 0) to₁ × (at < get_or ends (at + 1) 0)
      go both_sign (both_at t u p q) low = let k = i.each t p in (
        record { marked = h.marked; test = u; stands = behind h.marked.table p q; low = omega (arith, length-append (test_text t) (test_text u), k.wrote, test_short t) },
        omega (arith, h.marked.table.each (at + 1) (of_test t) p),
      )

  -- `<WT`
  pub diamond_first : WalkThenTest ≡ sign_meant (get_or bytes at 0) → WalkToWrite bytes ends (at + 1) (to + 1)
  unfolding walk_text
  diamond_first s = go (sign_is s) (spread h.stands _ refl) h.low
    where
      go : {b : ℕ} {t : Test} → SignIs b WalkThenTest → Spread bytes at b (of_test t) → to + length (test_text t) < 2 ^ 64 → WalkToWrite bytes ends (at + 1) (to + 1)
      go diamond_sign (diamond_at w t p q) low = record { marked = h.marked; walk = w; stands = p; low = omega (arith, length-append (walk_text w) (test_text t)) }

  pub diamond_second : {middle to₁ : ℕ} {mid after : List ℕ} → WalkThenTest ≡ sign_meant (get_or bytes at 0) → middle ≡ get_or ends (at + 1) 0 → WalkWritten bytes false (at + 1) (to + 1) mid to₁ after
      → TestToWrite bytes ends middle to₁ × (at < middle)
  unfolding walk_text
  diamond_second {middle} {to₁} s m i = subst⁻¹ (λ (k : ℕ). TestToWrite bytes ends k to₁ × (at < k)) m (go (sign_is s) (spread h.stands _ refl) h.low)
    where
      go : {b : ℕ} {t : Test} → SignIs b WalkThenTest → Spread bytes at b (of_test t) → to + length (test_text t) < 2 ^ 64 → TestToWrite bytes ends (get_or ends (at + 1) 0) to₁ × (at < get_or ends (at + 1) 0)
      go diamond_sign (diamond_at w t p q) low = let k = i.each w p in (
        record { marked = h.marked; test = t; stands = behind h.marked.table p q; low = omega (arith, length-append (walk_text w) (test_text t), k.wrote, facing_short false w) },
        omega (arith, h.marked.table.each (at + 1) (of_walk w) p),
      )

-- behind what is written
pub letter_next : (to : ℕ) {bytes mid after : List ℕ} {at at₁ to₁ : ℕ} → NumberWritten bytes at (to + 1) mid to₁ after → LetterHere bytes at₁ (to + 3) → LetterHere bytes at₁ to₁
letter_next to w h = record { within = h.within; low = omega (arith, w.wrote, h.low) }

pub walk_behind : (to : ℕ) {bytes ends mid after : List ℕ} {at at₁ to₁ : ℕ} → LetterWritten bytes at (to + 1) mid to₁ after → WalkToWrite bytes ends at₁ (to + 2) → WalkToWrite bytes ends at₁ to₁
walk_behind to w h = record { marked = h.marked; walk = h.walk; stands = h.stands; low = omega (arith, w.wrote, h.low) }

pub test_behind : (to : ℕ) {bytes ends mid after : List ℕ} {at at₁ to₁ : ℕ} → LetterWritten bytes at (to + 1) mid to₁ after → TestToWrite bytes ends at₁ (to + 2) → TestToWrite bytes ends at₁ to₁
test_behind to w h = record { marked = h.marked; test = h.test; stands = h.stands; low = omega (arith, w.wrote, h.low) }

-- The evaluator's arms over the text: from the sign at a place and what was found for the parts behind it, what is found for the whole rule there, with what
-- is kept on the way. A line of the cycle's proof cites one law of this file or of Rounds.
use mathlib.Core.Path.{◌≡◌, refl, sym, ap, subst, ◌∙◌}
use mathlib.Core.Logic.{◌⊎◌, inl, inr, ⊎_elim}
use mathlib.Core.Bool.{Bool, true, false, not, false≢true, cond, ◌&&◌, ◌||◌}
use mathlib.Core.List.{List}
use Prim.Native.Nat.{ℕ, zero, suc, ◌+◌, ◌-◌, ◌≤◌, ◌<◌}
use native.Mathlib.Omega.{arith}
use lib.Dec.{leb, ltb}
use lib.ListN.{length, get_or}
use borrow.Author.Tests.{leb-true}
use Rattle.laws.proofs.Truth.{true_or_false, and_iff, or_iff}
use Rattle.meaning.specs.Limits.{places}
use Rattle.meaning.specs.Theory.{World}
use Rattle.meaning.specs.Rule.{Walk, Test, seq, alt, star, of_walk, of_test, walk_text, test_text}
use Rattle.meaning.specs.Leads.{Leads, Holds, stay}
use Rattle.runs.specs.Image.{Set, UpTo, Image, Sifted, Way}
use Rattle.runs.specs.Slots.{Outside, Cleared, StarsTo}
use Rattle.runs.specs.Run.{Ground, start, led, Seen, Told, Covers, Begun, Walked, Tested, WalkKept, TestKept}
use Rattle.grammar.specs.Standing.{Stands, Ends, Leaf}
use Rattle.runs.specs.Found.{Tabled, WalkHere, LeafFound, TestFound}
use Rattle.runs.proofs.Image.{sifted_up_to}
use Rattle.runs.proofs.Arms.{alt_way, conv_way, star_way, star_more, stars_flat, always_keeps, neg_keeps, both_keeps, diamond_keeps}
use Rattle.grammar.proofs.Spread.{Spread, spread, seq_at, alt_at, star_at, conv_at, always_at, neg_at, both_at, diamond_at}
use Rattle.runs.proofs.Calls.{end_there, NoParts, no_parts, star_part}
use Rattle.runs.proofs.Keeping.{outside_more, outside_none, outside_then}
use Rattle.runs.proofs.Leaf.{AllTo, all_to}
use Rattle.runs.proofs.Seen.{seq_long, alt_long, star_long, conv_long, neg_long, both_long, diamond_long, chained_same, seen_same, seen_none, told_same, lies_low}

-- what an answer holds is at or before now
pub walked_low : {w : World} {bytes : List ℕ} {scope : Set} {n at : ℕ} {x : Walk} {back : Bool} {g : Ground} {before after : List ℕ} {from answer : Set}
    → Walked w bytes scope n at x back g before after from answer → UpTo n answer
walked_low {w} {n = n} {x = x} {back = back} {g = g} k q h = lies_low w n g x back q (k.most q h)

-- what a part has seen, where a part beside it was walked
pub seen_beside : (w : World) (n : ℕ) {l m : List ℕ} {a b : ℕ} (x : Walk) (back : Bool) (g : Ground) (at : ℕ) → Outside a b l m
    → (at + length (walk_text x) ≤ a) ⊎ (b ≤ at) → Seen w n l at x back g → Seen w n m at x back g
seen_beside w n {l} {m} x back g at o apart h =
    seen_same w n l m x back g at (λ j low high. o.same j (⊎_elim (λ k. inl (omega arith)) (λ k. inr (omega arith)) apart)) h

-- Two parts, the one at the next place and the other behind it.
abbrev behind : ℕ → Walk → ℕ
behind at v = at + 1 + length (walk_text v)

module _ {bytes rows bound : List ℕ} {n at : ℕ} (w : World) (scope : Set) (v x : Walk) where
  seq_walked : (back : Bool) (g : Ground) {one two three : List ℕ} {s a r : Set} → back ≡ false → Begun w bytes scope rows bound n at (seq v x) back g one s
      → Stands bytes (at + 1) (of_walk v) → Stands bytes (behind at v) (of_walk x) → WalkKept bytes (at + 1) back rows bound n one two s a
      → WalkKept bytes (behind at v) back rows bound n two three a r → Walked w bytes scope n at (seq v x) back g one three s r
  unfolding Leads Seen
  seq_walked true g ahead b p q f k = absurd (false≢true (sym ahead))
  seq_walked false g ahead b p q f k =
      let u = f.found w scope v g (record { tabled = b.tabled; low = b.low; stands = p; ground = b.ground; covers = λ i low high. b.covers i (omega arith) (omega (arith, seq_long v x)); told = b.told; seen = b.seen.0 }) in
      let next = seen_beside w n x false (led g v false) (behind at v) u.outside (inr (omega arith)) b.seen.1 in
      let t = k.found w scope x (led g v false) (record { tabled = b.tabled; low = walked_low u; stands = q; ground = u.most; covers = λ i low high. b.covers i (omega arith) (omega (arith, seq_long v x)); told = u.told; seen = next }) in
      record {
        least = λ p q i h. t.least h.0 q (u.least p h.0 i h.1) h.2;
        most = λ q i. let (m, (p, on, first), second) = t.most q i in (p, on, (m, first, second));
        told = t.told;
        seen = (seen_beside w n v false g (at + 1) t.outside (inl (omega arith)) u.seen, t.seen);
        outside = outside_then (outside_more (omega arith) (omega (arith, seq_long v x)) u.outside)
            (outside_more (omega arith) (omega (arith, seq_long v x)) t.outside);
      }

  seq_turned : (back : Bool) (g : Ground) {one two three : List ℕ} {s a r : Set} → back ≡ true → Begun w bytes scope rows bound n at (seq v x) back g one s
      → Stands bytes (at + 1) (of_walk v) → Stands bytes (behind at v) (of_walk x) → WalkKept bytes (behind at v) back rows bound n one two s a
      → WalkKept bytes (at + 1) back rows bound n two three a r → Walked w bytes scope n at (seq v x) back g one three s r
  unfolding Leads Seen
  seq_turned false g turned b p q f k = absurd (false≢true turned)
  seq_turned true g turned b p q f k =
      let u = f.found w scope x g (record { tabled = b.tabled; low = b.low; stands = q; ground = b.ground; covers = λ i low high. b.covers i (omega arith) (omega (arith, seq_long v x)); told = b.told; seen = b.seen.0 }) in
      let next = seen_beside w n v true (led g x true) (at + 1) u.outside (inl (omega arith)) b.seen.1 in
      let t = k.found w scope v (led g x true) (record { tabled = b.tabled; low = walked_low u; stands = p; ground = u.most; covers = λ i low high. b.covers i (omega arith) (omega (arith, seq_long v x)); told = u.told; seen = next }) in
      record {
        least = λ p q i h. t.least h.0 q (u.least p h.0 i h.1) h.2;
        most = λ q i. let (m, (p, on, first), second) = t.most q i in (p, on, (m, first, second));
        told = t.told;
        seen = (seen_beside w n x true g (behind at v) t.outside (inr (omega arith)) u.seen, t.seen);
        outside = outside_then (outside_more (omega arith) (omega (arith, seq_long v x)) u.outside)
            (outside_more (omega arith) (omega (arith, seq_long v x)) t.outside);
      }

  alt_walked : (back : Bool) (g : Ground) {one two three : List ℕ} {s a c r : Set} → ((q : ℕ) → r q ≡ (a q || c q)) → Begun w bytes scope rows bound n at (alt v x) back g one s
      → Stands bytes (at + 1) (of_walk v) → Stands bytes (behind at v) (of_walk x) → WalkKept bytes (at + 1) back rows bound n one two s a
      → WalkKept bytes (behind at v) back rows bound n two three s c → Walked w bytes scope n at (alt v x) back g one three s r
  unfolding Seen
  alt_walked back g {a = a} {c = c} join b p q f k =
      let u = f.found w scope v g (record { tabled = b.tabled; low = b.low; stands = p; ground = b.ground; covers = λ i low high. b.covers i (omega arith) (omega (arith, alt_long v x)); told = b.told; seen = b.seen.0 }) in
      let next = seen_beside w n x back g (behind at v) u.outside (inr (omega arith)) b.seen.1 in
      let t = k.found w scope x g (record { tabled = b.tabled; low = b.low; stands = q; ground = b.ground; covers = λ i low high. b.covers i (omega arith) (omega (arith, alt_long v x)); told = u.told; seen = next }) in
      record {
        least = λ p q i h. join q ∙ (or_iff (a q) (c q)).1 (⊎_elim (λ e. inl (u.least p q i e)) (λ e. inr (t.least p q i e)) ((alt_way w v x back p q n).0 h));
        most = λ q i. ⊎_elim
            (λ e. let (p, on, step) = u.most q e in (p, on, (alt_way w v x back p q n).1 (inl step)))
            (λ e. let (p, on, step) = t.most q e in (p, on, (alt_way w v x back p q n).1 (inr step)))
            ((or_iff (a q) (c q)).0 (sym (join q) ∙ i));
        told = t.told;
        seen = (seen_beside w n v back g (at + 1) t.outside (inl (omega arith)) u.seen, t.seen);
        outside = outside_then (outside_more (omega arith) (omega (arith, alt_long v x)) u.outside)
            (outside_more (omega arith) (omega (arith, alt_long v x)) t.outside);
      }

moved : {bytes : List ℕ} {i j : ℕ} {back : Bool} {rows bound : List ℕ} {n : ℕ} {one two : List ℕ} {s r : Set} → WalkKept bytes i back rows bound n one two s r → i ≡ j
    → WalkKept bytes j back rows bound n one two s r
moved {bytes} {back = back} {rows = rows} {bound = bound} {n = n} {one = one} {two = two} {s = s} {r = r} f e = subst (λ (k : ℕ). WalkKept bytes k back rows bound n one two s r) e f

second_at : {bytes ends : List ℕ} → Ends bytes ends → (at other : ℕ) → other ≡ get_or ends (at + 1) 0 → {back : Bool} {rows bound : List ℕ} {n : ℕ} {v : Walk}
    {one two : List ℕ} {s r : Set} → Stands bytes (at + 1) (of_walk v) → WalkKept bytes other back rows bound n one two s r
    → WalkKept bytes (behind at v) back rows bound n one two s r
second_at marked at other there p f = moved f (sym (end_there marked p other there))

module _ {bytes ends : List ℕ} (marked : Ends bytes ends) {at other : ℕ} (there : other ≡ get_or ends (at + 1) 0) {back : Bool} {rows bound : List ℕ} {n : ℕ} where
  -- `;VW`, ahead
  seq_kept : {one two three : List ℕ} {s a r : Set} → get_or bytes at 0 ≡ 59 → back ≡ false → WalkKept bytes (at + 1) back rows bound n one two s a
      → WalkKept bytes other back rows bound n two three a r → WalkKept bytes at back rows bound n one three s r
  seq_kept {one} {two} {three} {s} {a} {r} sign ahead f k = record { found = λ w scope x g b. go w scope g (spread b.stands 59 sign) b }
    where
      go : (w : World) (scope : Set) (g : Ground) {x : Walk} → Spread bytes at 59 (of_walk x) → Begun w bytes scope rows bound n at x back g one s → Walked w bytes scope n at x back g one three s r
      go w scope g (seq_at v x p q) b = seq_walked w scope v x back g ahead b p q f (second_at marked at other there p k)

  -- `;VW`, under a converse
  seq_back_kept : {one two three : List ℕ} {s a r : Set} → get_or bytes at 0 ≡ 59 → back ≡ true → WalkKept bytes other back rows bound n one two s a
      → WalkKept bytes (at + 1) back rows bound n two three a r → WalkKept bytes at back rows bound n one three s r
  seq_back_kept {one} {two} {three} {s} {a} {r} sign turned f k = record { found = λ w scope x g b. go w scope g (spread b.stands 59 sign) b }
    where
      go : (w : World) (scope : Set) (g : Ground) {x : Walk} → Spread bytes at 59 (of_walk x) → Begun w bytes scope rows bound n at x back g one s → Walked w bytes scope n at x back g one three s r
      go w scope g (seq_at v x p q) b = seq_turned w scope v x back g turned b p q (second_at marked at other there p f) k

  -- `;VW`
  pub seq_either : {first then : ℕ} {one two three : List ℕ} {s a r : Set} → get_or bytes at 0 ≡ 59 → first ≡ cond back other (at + 1) → then ≡ cond (not back) other (at + 1)
      → WalkKept bytes first back rows bound n one two s a → WalkKept bytes then back rows bound n two three a r → WalkKept bytes at back rows bound n one three s r
  seq_either {first} {then} {one} {two} {three} {s} {a} {r} sign d e f k = elim (true_or_false back) [
    | inl turned ↦ seq_back_kept sign turned (moved f (d ∙ ap (λ (b : Bool). cond b other (at + 1)) turned)) (moved k (e ∙ ap (λ (b : Bool). cond (not b) other (at + 1)) turned))
    | inr ahead ↦ seq_kept sign ahead (moved f (d ∙ ap (λ (b : Bool). cond b other (at + 1)) ahead)) (moved k (e ∙ ap (λ (b : Bool). cond (not b) other (at + 1)) ahead))
  ]

  -- `|VW`
  pub alt_kept : {one two three : List ℕ} {s a c r : Set} → get_or bytes at 0 ≡ 124 → WalkKept bytes (at + 1) back rows bound n one two s a
      → WalkKept bytes other back rows bound n two three s c → ((q : ℕ) → r q ≡ (a q || c q)) → WalkKept bytes at back rows bound n one three s r
  alt_kept {one} {two} {three} {s} {a} {c} {r} sign f k join = record { found = λ w scope x g b. go w scope g (spread b.stands 124 sign) b }
    where
      go : (w : World) (scope : Set) (g : Ground) {x : Walk} → Spread bytes at 124 (of_walk x) → Begun w bytes scope rows bound n at x back g one s → Walked w bytes scope n at x back g one three s r
      go w scope g (alt_at v x p q) b = alt_walked w scope v x back g join b p q f (second_at marked at other there p k)

module _ {bytes : List ℕ} {at : ℕ} {back : Bool} {rows bound : List ℕ} {n : ℕ} {one two : List ℕ} {s r : Set} where
  -- `-W`
  pub conv_kept : get_or bytes at 0 ≡ 45 → WalkKept bytes (at + 1) (not back) rows bound n one two s r → WalkKept bytes at back rows bound n one two s r
  unfolding Seen
  conv_kept sign f = record { found = λ w scope x g b. go w scope g (spread b.stands 45 sign) b }
    where
      go : (w : World) (scope : Set) (g : Ground) {x : Walk} → Spread bytes at 45 (of_walk x) → Begun w bytes scope rows bound n at x back g one s → Walked w bytes scope n at x back g one two s r
      go w scope g (conv_at x p) b =
          let u = f.found w scope x g (record { tabled = b.tabled; low = b.low; stands = p; ground = b.ground; covers = λ i low high. b.covers i (omega arith) (omega (arith, conv_long x)); told = b.told; seen = b.seen }) in
          record {
            least = λ p q i h. u.least p q i ((conv_way w x back p q n).0 h);
            most = λ q i. let (p, on, step) = u.most q i in (p, on, (conv_way w x back p q n).1 step);
            told = u.told;
            seen = u.seen;
            outside = outside_more (omega arith) (omega (arith, conv_long x)) u.outside;
          }

  -- `**W` is `*W`: the first star keeps nothing
  pub stars_kept : get_or bytes at 0 ≡ 42 → get_or bytes (at + 1) 0 ≡ 42 → WalkKept bytes (at + 1) back rows bound n one two s r → WalkKept bytes at back rows bound n one two s r
  unfolding Seen
  stars_kept sign next f = record { found = λ w scope x g b. go w scope g (spread b.stands 42 sign) b }
    where
      inner : (w : World) (scope : Set) (g : Ground) (x : Walk) → Stands bytes (at + 1) (of_walk (star x)) → Begun w bytes scope rows bound n at (star (star x)) back g one s
          → Walked w bytes scope n at (star (star x)) back g one two s r
      inner w scope g x p b =
          let given : Begun w bytes scope rows bound n (at + 1) (star x) back (led g (star (star x)) back) one s = record {
            tabled = b.tabled;
            low = b.low;
            stands = p;
            ground = λ q i. (q, b.ground q i, (star_way w (star x) back q q n).1 (stay refl (b.low q i)));
            covers = λ i low high. b.covers i (omega arith) (omega (arith, star_long (star x)));
            told = b.told;
            seen = b.seen.1;
          } in
          let u = f.found w scope (star x) (led g (star (star x)) back) given in
          record {
            least = λ p q i h. u.least p q i (stars_flat w x back p q n h);
            most = λ q i. let (m, (p, on, chain), step) = u.most q i in (p, on, star_more w (star x) back p m q n chain step);
            told = u.told;
            seen = (chained_same one two at (u.outside.same at (inl (omega arith))) b.seen.0, u.seen);
            outside = outside_more (omega arith) (omega (arith, star_long (star x))) u.outside;
          }

      run : (w : World) (scope : Set) (g : Ground) {x : Walk} → Stands bytes (at + 1) (of_walk x) → Spread bytes (at + 1) 42 (of_walk x) → Begun w bytes scope rows bound n at (star x) back g one s
          → Walked w bytes scope n at (star x) back g one two s r
      run w scope g p (star_at x q) b = inner w scope g x p b

      go : (w : World) (scope : Set) (g : Ground) {x : Walk} → Spread bytes at 42 (of_walk x) → Begun w bytes scope rows bound n at x back g one s → Walked w bytes scope n at x back g one two s r
      go w scope g (star_at x p) b = run w scope g p (spread p 42 next) b

-- the signs with no part keep nothing
module _ {bytes : List ℕ} {at : ℕ} {back : Bool} {rows bound : List ℕ} {n : ℕ} {slots : List ℕ} {s r : Set} where
  pub leaf_kept : NoParts bytes at → LeafFound bytes at back rows bound n s r → WalkKept bytes at back rows bound n slots slots s r
  leaf_kept none f = record { found = λ w scope x g b. go w scope x g b (no_parts none x b.stands) }
    where
      go : (w : World) (scope : Set) (x : Walk) (g : Ground) → Begun w bytes scope rows bound n at x back g slots s → Leaf x → Walked w bytes scope n at x back g slots slots s r
      go w scope x g b leaf =
          let i = f.found w b.tabled b.low x leaf b.stands in
          record {
            least = λ p q k h. (i.each q).1 (p, k, h);
            most = λ q k. let (p, there, step) = (i.each q).0 k in (p, b.ground p there, step);
            told = b.told;
            seen = b.seen;
            outside = outside_none;
          }

-- a run of stars, from its last one back
pub run_kept : {bytes : List ℕ} {at last : ℕ} {back : Bool} {rows bound : List ℕ} {n : ℕ} {one two : List ℕ} {s r : Set} → get_or bytes at 0 ≡ 42 → StarsTo bytes at last
    → WalkKept bytes last back rows bound n one two s r → WalkKept bytes at back rows bound n one two s r
run_kept {bytes} {at} {last} {back} {rows} {bound} {n} {one} {two} {s} {r} sign run f = go (last - at) at (omega (arith, run.onward)) sign run.stars
  where
    go : (k at : ℕ) → at + k ≡ last → get_or bytes at 0 ≡ 42 → ((j : ℕ) → at < j → j ≤ last → get_or bytes j 0 ≡ 42) → WalkKept bytes at back rows bound n one two s r
    go zero at e sign stars = let here : last ≡ at = omega arith in subst (λ (i : ℕ). WalkKept bytes i back rows bound n one two s r) here f
    go (suc k) at e sign stars =
        let next = stars (at + 1) (omega arith) (omega arith) in
        stars_kept sign next (go k (at + 1) (omega arith) next (λ j low high. stars j (omega arith) high))

pub run_here : {bytes ends : List ℕ} {at last : ℕ} → WalkHere bytes ends at → get_or bytes at 0 ≡ 42 → StarsTo bytes at last
    → WalkHere bytes ends last × (get_or bytes last 0 ≡ 42)
run_here {bytes} {ends} {at} {last} here sign run = go (last - at) at (omega (arith, run.onward)) here sign run.stars
  where
    go : (k at : ℕ) → at + k ≡ last → WalkHere bytes ends at → get_or bytes at 0 ≡ 42 → ((j : ℕ) → at < j → j ≤ last → get_or bytes j 0 ≡ 42)
        → WalkHere bytes ends last × (get_or bytes last 0 ≡ 42)
    go zero at e here sign stars = let there : at ≡ last = omega arith in subst (λ (i : ℕ). WalkHere bytes ends i × (get_or bytes i 0 ≡ 42)) there (here, sign)
    go (suc k) at e here sign stars =
        go k (at + 1) (omega arith) (star_part here sign) (stars (at + 1) (omega arith) (omega arith)) (λ j low high. stars j (omega arith) high)

module _ {bytes : List ℕ} {at : ℕ} {rows bound : List ℕ} {n : ℕ} {s : Set} where
  -- `1`, `fNN`: nothing is kept
  pub leaf_tested : {slots : List ℕ} {r : Set} → TestFound bytes at rows bound n s r → TestKept bytes at rows bound n slots slots s r
  leaf_tested f = record { found = λ w scope same tabled low x h covers told. record { sifted = f.found w tabled low x h; told = told; outside = outside_none } }

  pub always_found : get_or bytes at 0 ≡ 49 → TestFound bytes at rows bound n s s
  always_found sign = record { found = λ w tabled low x h. go w (spread h 49 sign) }
    where
      go : (w : World) → {x : Test} → Spread bytes at 49 (of_test x) → Sifted (Holds w x) n s s
      go w always_at = always_keeps w

  -- `!T`
  pub neg_kept : {one two : List ℕ} {a r : Set} → get_or bytes at 0 ≡ 33 → TestKept bytes (at + 1) rows bound n one two s a → ((q : ℕ) → r q ≡ (s q && not (a q)))
      → TestKept bytes at rows bound n one two s r
  neg_kept {one} {two} {a} {r} sign f rest = record { found = λ w scope same tabled low x h. go w scope same tabled low (spread h 33 sign) }
    where
      go : (w : World) (scope : Set) → w.own ≡ w.inner → Tabled w rows bound n → UpTo n s → {x : Test} → Spread bytes at 33 (of_test x) → Covers scope at (at + length (test_text x))
          → Told w n bytes scope one → Tested w bytes scope n at x one two s r
      go w scope same tabled low (neg_at t p) covers told =
          let u = f.found w scope same tabled low t p (λ i low high. covers i (omega arith) (omega (arith, neg_long t))) told in
          record { sifted = neg_keeps w t rest u.sifted; told = u.told; outside = outside_more (omega arith) (omega (arith, neg_long t)) u.outside }

  module _ {ends : List ℕ} (marked : Ends bytes ends) {other : ℕ} (there : other ≡ get_or ends (at + 1) 0) where
    -- `&TU`
    pub both_kept : {one two three : List ℕ} {a r : Set} → get_or bytes at 0 ≡ 38 → TestKept bytes (at + 1) rows bound n one two s a → TestKept bytes other rows bound n two three a r
        → TestKept bytes at rows bound n one three s r
    both_kept {one} {two} {three} {a} {r} sign f k = record { found = λ w scope same tabled low x h. go w scope same tabled low (spread h 38 sign) }
      where
        go : (w : World) (scope : Set) → w.own ≡ w.inner → Tabled w rows bound n → UpTo n s → {x : Test} → Spread bytes at 38 (of_test x) → Covers scope at (at + length (test_text x))
            → Told w n bytes scope one → Tested w bytes scope n at x one three s r
        go w scope same tabled low (both_at t x p q) covers told =
            let u = f.found w scope same tabled low t p (λ i low high. covers i (omega arith) (omega (arith, both_long t x))) told in
            let second = subst (λ (i : ℕ). TestKept bytes i rows bound n two three a r) (sym (end_there marked p other there)) k in
            let v = second.found w scope same tabled (sifted_up_to low u.sifted) x q (λ i low high. covers i (omega arith) (omega (arith, both_long t x))) u.told in
            record {
              sifted = both_keeps w t x u.sifted v.sifted;
              told = v.told;
              outside = outside_then (outside_more (omega arith) (omega (arith, both_long t x)) u.outside)
                  (outside_more (omega arith) (omega (arith, both_long t x)) v.outside);
            }

    -- `<WT`: T on all positions up to now, and from there a run of W backwards
    pub diamond_kept : {one two three four : List ℕ} (all : Set) {t m r : Set} → get_or bytes at 0 ≡ 60 → AllTo n all → TestKept bytes other rows bound n one two all t
        → Cleared bytes two (at + 1) other three → WalkKept bytes (at + 1) true rows bound n three four t m → ((q : ℕ) → r q ≡ (s q && m q))
        → TestKept bytes at rows bound n one four s r
    diamond_kept {one} {two} {three} {four} all {t} {m} {r} sign every f clean k meet = record { found = λ w scope same tabled low x h. go w scope same tabled low (spread h 60 sign) }
      where
        up : UpTo n all
        up q i = leb-true q n ((and_iff (leb q n) (ltb q places)).0 (sym (every q) ∙ i)).0

        go : (w : World) (scope : Set) → w.own ≡ w.inner → Tabled w rows bound n → UpTo n s → {x : Test} → Spread bytes at 60 (of_test x) → Covers scope at (at + length (test_text x))
            → Told w n bytes scope one → Tested w bytes scope n at x one four s r
        go w scope same tabled low (diamond_at v x p q) covers told =
            let e = end_there marked p other there in
            let second = subst (λ (i : ℕ). TestKept bytes i rows bound n one two all t) (sym e) f in
            let u = second.found w scope same tabled up x q (λ i low high. covers i (omega arith) (omega (arith, diamond_long v x))) told in
            let begun : Begun w bytes scope rows bound n (at + 1) v true (start t) three t = record {
              tabled = tabled;
              low = sifted_up_to up u.sifted;
              stands = p;
              ground = λ q i. i;
              covers = λ i low high. covers i (omega arith) (omega (arith, diamond_long v x));
              told = told_same three clean.signs u.told;
              seen = seen_none w n bytes three v true (start t) (at + 1) p (λ j low high. clean.stars j low (omega (arith, e)));
            } in
            let y = k.found w scope v (start t) begun in
            let image : Image (Way w v true) n t m = record { each = λ q. (y.most q, λ h. y.least h.0 q h.1 h.2) } in
            record {
              sifted = diamond_keeps w same v x (all_to tabled all every) u.sifted image meet;
              told = y.told;
              outside = outside_then (outside_more (omega arith) (omega (arith, diamond_long v x)) u.outside)
                  (outside_then (outside_more (omega arith) (omega (arith, e, diamond_long v x)) clean.outside)
                  (outside_more (omega arith) (omega (arith, diamond_long v x)) y.outside));
            }

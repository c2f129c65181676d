-- What stars have seen and what tests have told, while the table changes: both stay where their own slots do, and cleared slots are right for every ground.
-- Opens the text of a rule; knows no code.
use mathlib.Core.Path.{◌≡◌, refl, sym, ap, ap₂, subst, subst⁻¹, ◌∙◌}
use mathlib.Core.Logic.{◌⊎◌, inl, inr}
use mathlib.Core.Bool.{Bool, true, false, not, ◌&&◌}
use mathlib.Core.List.{List}
use Prim.Native.Nat.{ℕ, ◌+◌, ◌≤◌, ◌<◌}
use native.Mathlib.Omega.{arith}
use native.Mathlib.Decide.{ℕ_discrete, dec_le, dec_lt}
use lib.Dec.{leb, ltb}
use lib.ListN.{length, drop, get_or, length-append}
use borrow.Author.Tests.{leb-true, ltb-true, le-leb, lt-ltb}
use Rattle.laws.specs.Bit.{on}
use Rattle.laws.proofs.Truth.{off_on, and_iff}
use Rattle.meaning.specs.Theory.{World}
use Rattle.meaning.specs.Rule.{Variable, Walk, Test, act, undo, next, prev, seq, alt, star, check, conv, pick, neg, both, diamond, exists, of_walk, of_test, walk_text, test_text}
use Rattle.meaning.specs.Rule.{test_kind, Opens}
use Rattle.meaning.proofs.Reading.{unique_reading}
use Rattle.meaning.specs.Leads.{Truth, Holds, own_now}
use Rattle.grammar.specs.Standing.{Stands}
use Rattle.grammar.proofs.Spread.{Spread, spread, seq_at, alt_at, star_at, conv_at, always_at, fluent_at, neg_at, both_at, diamond_at, sum_fluent_at, exists_at}
use Rattle.runs.specs.Image.{Set}
use Rattle.runs.specs.Slots.{slot, Outside, Stored}
use Rattle.runs.specs.Run.{Ground, led, Lies, Chained, Seen, Told, Covers}
use Rattle.runs.proofs.Arms.{way_within}
use Rattle.runs.proofs.Keeping.{empty_slot}

-- how long a rule is
pub seq_long : (v x : Walk) → length (walk_text (seq v x)) ≡ 1 + length (walk_text v) + length (walk_text x)
unfolding walk_text
seq_long v x = omega (arith, length-append (walk_text v) (walk_text x))

pub alt_long : (v x : Walk) → length (walk_text (alt v x)) ≡ 1 + length (walk_text v) + length (walk_text x)
unfolding walk_text
alt_long v x = omega (arith, length-append (walk_text v) (walk_text x))

pub star_long : (x : Walk) → length (walk_text (star x)) ≡ 1 + length (walk_text x)
unfolding walk_text
star_long x = omega arith

pub check_long : (t : Test) → length (walk_text (check t)) ≡ 1 + length (test_text t)
unfolding walk_text
check_long t = omega arith

pub conv_long : (x : Walk) → length (walk_text (conv x)) ≡ 1 + length (walk_text x)
unfolding walk_text
conv_long x = omega arith

pub pick_long : (v : Variable) (x : Walk) → length (walk_text (pick v x)) ≡ 2 + length (walk_text x)
unfolding walk_text
pick_long v x = omega arith

pub exists_long : (v : Variable) (t : Test) → length (test_text (exists v t)) ≡ 2 + length (test_text t)
unfolding walk_text
exists_long v t = omega arith

pub neg_long : (t : Test) → length (test_text (neg t)) ≡ 1 + length (test_text t)
unfolding walk_text
neg_long t = omega arith

pub both_long : (t u : Test) → length (test_text (both t u)) ≡ 1 + length (test_text t) + length (test_text u)
unfolding walk_text
both_long t u = omega (arith, length-append (test_text t) (test_text u))

pub diamond_long : (x : Walk) (t : Test) → length (test_text (diamond x t)) ≡ 1 + length (walk_text x) + length (test_text t)
unfolding walk_text
diamond_long x t = omega (arith, length-append (walk_text x) (test_text t))

-- where the parts of a walk stand
abbrev Two : List ℕ → ℕ → Walk → Walk → Type 0
Two bytes at v x = Stands bytes (at + 1) (of_walk v) × Stands bytes (at + 1 + length (walk_text v)) (of_walk x)

module _ {bytes : List ℕ} {at : ℕ} where
  pub seq_parts : {v x : Walk} → Stands bytes at (of_walk (seq v x)) → Two bytes at v x
  seq_parts {v} {x} h = go (spread h (get_or bytes at 0) refl)
    where
      go : {b : ℕ} → Spread bytes at b (of_walk (seq v x)) → Two bytes at v x
      go (seq_at v x p q) = (p, q)

  pub alt_parts : {v x : Walk} → Stands bytes at (of_walk (alt v x)) → Two bytes at v x
  alt_parts {v} {x} h = go (spread h (get_or bytes at 0) refl)
    where
      go : {b : ℕ} → Spread bytes at b (of_walk (alt v x)) → Two bytes at v x
      go (alt_at v x p q) = (p, q)

  pub star_parts : {x : Walk} → Stands bytes at (of_walk (star x)) → (get_or bytes at 0 ≡ 42) × Stands bytes (at + 1) (of_walk x)
  star_parts {x} h = go refl (spread h (get_or bytes at 0) refl)
    where
      go : {b : ℕ} → get_or bytes at 0 ≡ b → Spread bytes at b (of_walk (star x)) → (get_or bytes at 0 ≡ 42) × Stands bytes (at + 1) (of_walk x)
      go e (star_at x p) = (e, p)

  pub conv_parts : {x : Walk} → Stands bytes at (of_walk (conv x)) → Stands bytes (at + 1) (of_walk x)
  conv_parts {x} h = go (spread h (get_or bytes at 0) refl)
    where
      go : {b : ℕ} → Spread bytes at b (of_walk (conv x)) → Stands bytes (at + 1) (of_walk x)
      go (conv_at x p) = p

  -- a test opens with neither `*` nor `?`
  pub test_sign_law : {t : Test} → Stands bytes at (of_test t) → (get_or bytes at 0 ≡ 42 → ⊥) × (get_or bytes at 0 ≡ 63 → ⊥)
  test_sign_law {t} h = go refl (spread h (get_or bytes at 0) refl)
    where
      go : {b : ℕ} → get_or bytes at 0 ≡ b → {u : Test} → Spread bytes at b (of_test u) → (get_or bytes at 0 ≡ 42 → ⊥) × (get_or bytes at 0 ≡ 63 → ⊥)
      go e always_at = (λ k. omega (arith, e, k), λ k. omega (arith, e, k))
      go e (fluent_at i d) = (λ k. omega (arith, e, k), λ k. omega (arith, e, k))
      go e (neg_at t p) = (λ k. omega (arith, e, k), λ k. omega (arith, e, k))
      go e (both_at t u p q) = (λ k. omega (arith, e, k), λ k. omega (arith, e, k))
      go e (diamond_at x t p q) = (λ k. omega (arith, e, k), λ k. omega (arith, e, k))
      go e (sum_fluent_at i v d l) = (λ k. omega (arith, e, k), λ k. omega (arith, e, k))
      go e (exists_at v t l p) = (λ k. omega (arith, e, k), λ k. omega (arith, e, k))

  -- one test alone stands at a place
  pub one_test_there : (t u : Test) → Stands bytes at (of_test t) → Stands bytes at (of_test u) → t ≡ u
  one_test_there t u h k = let e : of_test t ≡ of_test u = (unique_reading (opens h) (opens k)).0 in cc
    where
      opens : {y : Test} → (h : Stands bytes at (of_test y)) → Opens test_kind (drop at bytes) (of_test y) h.rest
      opens h = record { fits = tt; spells = h.spells; short_actions = h.short_actions; short_fluents = h.short_fluents }

-- the table is the same between two places
abbrev pub Alike : ℕ → ℕ → List ℕ → List ℕ → Type 0
Alike from to l m = (j : ℕ) → from ≤ j → j < to → get_or m j 0 ≡ get_or l j 0

pub chained_same : {w : World} {n : ℕ} {x : Walk} {back : Bool} {g : Ground} (l m : List ℕ) (at : ℕ) → get_or m at 0 ≡ get_or l at 0
    → Chained w n x back g (slot l at) → Chained w n x back g (slot m at)
chained_same {w} {n} {x} {back} {g} l m at e h = subst (λ (k : ℕ). Chained w n x back g (λ (q : ℕ). on k q)) (sym e) h

-- what the stars of a walk have seen stands in the walk's own slots
pub seen_same : (w : World) (n : ℕ) (l m : List ℕ) (x : Walk) (back : Bool) (g : Ground) (at : ℕ) → Alike at (at + length (walk_text x)) l m
    → Seen w n l at x back g → Seen w n m at x back g
unfolding Seen
seen_same w n l m (act a) back g at e h = tt
seen_same w n l m (undo a) back g at e h = tt
seen_same w n l m next back g at e h = tt
seen_same w n l m prev back g at e h = tt
seen_same w n l m (seq v x) false g at e h = (
  seen_same w n l m v false g (at + 1) (λ j low high. e j (omega arith) (omega (arith, seq_long v x))) h.0,
  seen_same w n l m x false (led g v false) (at + 1 + length (walk_text v)) (λ j low high. e j (omega arith) (omega (arith, seq_long v x))) h.1,
)
seen_same w n l m (seq v x) true g at e h = (
  seen_same w n l m x true g (at + 1 + length (walk_text v)) (λ j low high. e j (omega arith) (omega (arith, seq_long v x))) h.0,
  seen_same w n l m v true (led g x true) (at + 1) (λ j low high. e j (omega arith) (omega (arith, seq_long v x))) h.1,
)
seen_same w n l m (alt v x) back g at e h = (
  seen_same w n l m v back g (at + 1) (λ j low high. e j (omega arith) (omega (arith, alt_long v x))) h.0,
  seen_same w n l m x back g (at + 1 + length (walk_text v)) (λ j low high. e j (omega arith) (omega (arith, alt_long v x))) h.1,
)
seen_same w n l m (star x) back g at e h = (
  chained_same l m at (e at (omega arith) (omega (arith, star_long x))) h.0,
  seen_same w n l m x back (led g (star x) back) (at + 1) (λ j low high. e j (omega arith) (omega (arith, star_long x))) h.1,
)
seen_same w n l m (check t) back g at e h = tt
seen_same w n l m (pick v x) back g at e h = tt
seen_same w n l m (conv x) back g at e h = seen_same w n l m x (not back) g (at + 1) (λ j low high. e j (omega arith) (omega (arith, conv_long x))) h

-- stars with empty slots have seen nothing
abbrev pub Clear : List ℕ → ℕ → ℕ → List ℕ → Type 0
Clear bytes from to l = (j : ℕ) → from ≤ j → j < to → get_or bytes j 0 ≡ 42 → get_or l j 0 ≡ 0

pub chained_none : {w : World} {n : ℕ} {x : Walk} {back : Bool} {g : Ground} (l : List ℕ) (at : ℕ) → get_or l at 0 ≡ 0 → Chained w n x back g (slot l at)
chained_none l at e = record {
  sound = λ q h. absurd (off_on (empty_slot l at e q) h);
  closed = λ p q h. absurd (off_on (empty_slot l at e p) h);
}

pub seen_none : (w : World) (n : ℕ) (bytes l : List ℕ) (x : Walk) (back : Bool) (g : Ground) (at : ℕ) → Stands bytes at (of_walk x)
    → Clear bytes at (at + length (walk_text x)) l → Seen w n l at x back g
unfolding Seen
seen_none w n bytes l (act a) back g at s e = tt
seen_none w n bytes l (undo a) back g at s e = tt
seen_none w n bytes l next back g at s e = tt
seen_none w n bytes l prev back g at s e = tt
seen_none w n bytes l (seq v x) false g at s e = (
  seen_none w n bytes l v false g (at + 1) (seq_parts s).0 (λ j low high. e j (omega arith) (omega (arith, seq_long v x))),
  seen_none w n bytes l x false (led g v false) (at + 1 + length (walk_text v)) (seq_parts s).1 (λ j low high. e j (omega arith) (omega (arith, seq_long v x))),
)
seen_none w n bytes l (seq v x) true g at s e = (
  seen_none w n bytes l x true g (at + 1 + length (walk_text v)) (seq_parts s).1 (λ j low high. e j (omega arith) (omega (arith, seq_long v x))),
  seen_none w n bytes l v true (led g x true) (at + 1) (seq_parts s).0 (λ j low high. e j (omega arith) (omega (arith, seq_long v x))),
)
seen_none w n bytes l (alt v x) back g at s e = (
  seen_none w n bytes l v back g (at + 1) (alt_parts s).0 (λ j low high. e j (omega arith) (omega (arith, alt_long v x))),
  seen_none w n bytes l x back g (at + 1 + length (walk_text v)) (alt_parts s).1 (λ j low high. e j (omega arith) (omega (arith, alt_long v x))),
)
seen_none w n bytes l (star x) back g at s e = (
  chained_none l at (e at (omega arith) (omega (arith, star_long x)) (star_parts s).0),
  seen_none w n bytes l x back (led g (star x) back) (at + 1) (star_parts s).1 (λ j low high. e j (omega arith) (omega (arith, star_long x))),
)
seen_none w n bytes l (check t) back g at s e = tt
seen_none w n bytes l (pick v x) back g at s e = tt
seen_none w n bytes l (conv x) back g at s e = seen_none w n bytes l x (not back) g (at + 1) (conv_parts s) (λ j low high. e j (omega arith) (omega (arith, conv_long x)))

-- what tests have told stays where each slot of theirs does, or has nothing any more
pub told_fewer : {w : World} {n : ℕ} {bytes : List ℕ} {scope : Set} {l : List ℕ} (m : List ℕ)
    → ((j : ℕ) → (get_or bytes j 0 ≡ 42 → ⊥) → (get_or m j 0 ≡ get_or l j 0) ⊎ (get_or m j 0 ≡ 0)) → Told w n bytes scope l → Told w n bytes scope m
told_fewer {l = l} m e h = record {
  each = λ i within sign x stands p.
      let u = h.each i within sign x stands p in (
        λ k. u.0 (stays i p (e i (λ star. omega (arith, sign, star))) k),
        λ k. u.1 (stays (i + 1) p (e (i + 1) (test_sign_law stands).0) k),
      );
}
  where
    stays : (j p : ℕ) → (get_or m j 0 ≡ get_or l j 0) ⊎ (get_or m j 0 ≡ 0) → slot m j p ≡ true → slot l j p ≡ true
    stays j p (inl same) k = sym (ap (λ (word : ℕ). on word p) same) ∙ k
    stays j p (inr none) k = absurd (off_on (empty_slot m j none p) k)

-- they stand in slots that are no star's
pub told_same : {w : World} {n : ℕ} {bytes : List ℕ} {scope : Set} {l : List ℕ} (m : List ℕ) → ((j : ℕ) → (get_or bytes j 0 ≡ 42 → ⊥) → get_or m j 0 ≡ get_or l j 0)
    → Told w n bytes scope l → Told w n bytes scope m
told_same m e h = told_fewer m (λ j not-star. inl (e j not-star)) h

-- in a scope whose slots are empty, nothing is told
pub told_none : {w : World} {n : ℕ} {bytes l : List ℕ} {scope : Set} → ((j : ℕ) → scope j ≡ true → (get_or l j 0 ≡ 0) × (get_or l (j + 1) 0 ≡ 0)) → Told w n bytes scope l
told_none {l = l} e = record {
  each = λ i within sign x stands p. (
    λ k. absurd (off_on (empty_slot l i (e i within).0 p) k),
    λ k. absurd (off_on (empty_slot l (i + 1) (e i within).1 p) k),
  );
}

-- A part that is a scope of its own.
abbrev pub Within : ℕ → ℕ → Set
Within from to i = leb from i && ltb (i + 1) to

pub within_covers : (from to : ℕ) → Covers (Within from to) from to
within_covers from to i low high = (and_iff (leb from i) (ltb (i + 1) to)).1 (le-leb from i low, lt-ltb (i + 1) to high)

-- the slots between two places have nothing
abbrev pub Bare : List ℕ → ℕ → ℕ → Type 0
Bare slots from to = (j : ℕ) → from ≤ j → j < to → get_or slots j 0 ≡ 0

pub within_told : {w : World} {n : ℕ} {bytes slots : List ℕ} (from to : ℕ) → Bare slots from to → Told w n bytes (Within from to) slots
within_told from to bare = told_none (λ j there.
    let (low, high) = (and_iff (leb from j) (ltb (j + 1) to)).0 there in
    let above : from ≤ j = leb-true from j low in
    let below : j + 1 < to = ltb-true (j + 1) to high in
    (bare j above (omega arith), bare (j + 1) (omega arith) below))

-- what is told outside stays so, where the part's slots have nothing at the end
pub bare_told : {w : World} {n : ℕ} {bytes : List ℕ} {scope : Set} {before slots : List ℕ} (from to : ℕ) → Bare slots from to → Outside from to before slots → Told w n bytes scope before
    → Told w n bytes scope slots
bare_told {before = before} {slots = slots} from to bare o told = told_fewer slots (λ j star. go j (dec_le from j) (dec_lt j to)) told
  where
    go : (j : ℕ) → Dec (from ≤ j) → Dec (j < to) → (get_or slots j 0 ≡ get_or before j 0) ⊎ (get_or slots j 0 ≡ 0)
    go j (yes low) (yes high) = inr (bare j low high)
    go j (yes low) (no high) = inl (o.same j (inr (omega arith)))
    go j (no low) high = inl (o.same j (inl (omega arith)))

-- what is told in one world at one now is told in another at another, where tests say the same in both
pub told_as : (w v : World) (n m : ℕ) {bytes : List ℕ} {scope : Set} {l : List ℕ} → ((x : Test) → Holds w x ≡ Holds v x) → ((p : ℕ) → own_now w p n ≡ own_now v p m)
    → Told w n bytes scope l → Told v m bytes scope l
told_as w v n m same now h = record {
  each = λ i within sign x stands p.
      let u = h.each i within sign x stands p in
      let there : Holds w x p (own_now w p n) ≡ Holds v x p (own_now v p m) = ap₂ (λ (t : Truth) (k : ℕ). t p k) (same x) (now p) in
      (λ k. subst (λ (t : Type 0). t) there (u.0 k), λ k y. u.1 k (subst⁻¹ (λ (t : Type 0). t) there y));
}

-- what the slots of a `?` tell of its test at a position
abbrev Right : World → ℕ → List ℕ → ℕ → Test → ℕ → Type 0
Right w n k i x p = (slot k i p ≡ true → Holds w x p (own_now w p n)) × (slot k (i + 1) p ≡ true → ¬ Holds w x p (own_now w p n))

-- a `?` keeps where its test is true, and behind it where that is not
pub told_more : {w : World} {n : ℕ} {bytes : List ℕ} {scope : Set} {l m k : List ℕ} {at : ℕ} {t : Test} {held denied : Set} → get_or bytes at 0 ≡ 63 → Stands bytes (at + 1) (of_test t)
    → ((p : ℕ) → held p ≡ true → Holds w t p (own_now w p n)) → ((p : ℕ) → denied p ≡ true → ¬ Holds w t p (own_now w p n)) → Stored l at held m → Stored m (at + 1) denied k
    → Told w n bytes scope l → Told w n bytes scope k
told_more {w} {n} {bytes} {scope} {l} {m} {k} {at} {t} {held} {denied} sign stands yes-there not_there one two h = record {
  each = λ i within s x there p. go i within s x there p (ℕ_discrete i at);
}
  where
    own : (p : ℕ) → Right w n k at t p
    own p =
        let same : slot k at p ≡ slot m at p = ap (λ (word : ℕ). on word p) (two.other at (λ e. omega (arith, e))) in
        (λ a. yes-there p ((one.own p).0 (sym same ∙ a)).1, λ a. not_there p ((two.own p).0 a).1)

    go : (i : ℕ) → scope i ≡ true → get_or bytes i 0 ≡ 63 → (x : Test) → Stands bytes (i + 1) (of_test x) → (p : ℕ) → Dec (i ≡ at) → Right w n k i x p
    go i within s x there p (yes e) =
        let there' = subst (λ (j : ℕ). Stands bytes (j + 1) (of_test x)) e there in
        subst (λ (j : ℕ). Right w n k j x p) (sym e) (subst (λ (y : Test). Right w n k at y p) (one_test_there t x stands there') (own p))
    go i within s x there p (no apart) =
        let not_behind : i ≡ at + 1 → ⊥ = λ e. (test_sign_law stands).1 (subst (λ (j : ℕ). get_or bytes j 0 ≡ 63) e s) in
        let not-before : i + 1 ≡ at → ⊥ = λ e. (test_sign_law there).1 (subst (λ (j : ℕ). get_or bytes j 0 ≡ 63) (sym e) sign) in
        let same : (j : ℕ) → (j ≡ at → ⊥) → (j ≡ at + 1 → ⊥) → slot k j p ≡ slot l j p
        = λ j f g. ap (λ (word : ℕ). on word p) (two.other j g ∙ one.other j f) in
        let u = h.each i within s x there p in
        (λ b. u.0 (sym (same i apart not_behind) ∙ b), λ b. u.1 (sym (same (i + 1) not-before (λ e. apart (omega (arith, e)))) ∙ b))

-- Ground: what it holds under a star, and where it lies.
pub lies_low : (w : World) (n : ℕ) (g : Ground) (x : Walk) (back : Bool) (q : ℕ) → Lies w n (led g x back) q → q ≤ n
lies_low w n g x back q h = (way_within w x back h.0 q n h.2).1

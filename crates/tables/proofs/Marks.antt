-- One row has some positions more, or the other way: a step that is noted, and the fluents that change at a position, one by one. This file and the
-- definition that it opens know that a row is a word. Knows bits and lists alone.
use mathlib.Core.Path.{◌≡◌, refl, sym, ap, subst, subst⁻¹, ◌∙◌}
use mathlib.Core.Logic.{◌↔◌, ◌⊎◌, inl, inr, ⊎_elim}
use mathlib.Core.Bool.{Bool, true, false, false≢true, ◌&&◌, xor, and-false}
use mathlib.Core.List.{List}
use Prim.Native.Nat.{ℕ, zero, suc, ◌+◌, ◌-◌, ◌*◌, ◌/◌, ◌%◌, ◌^◌, ◌≤◌, ◌<◌}
use native.Mathlib.Decide.{ℕ_discrete}
use native.Mathlib.Omega.{arith}
use borrow.Author.Tests.{leb-true, ltb-true, eqb-true, lt-ltb, le-leb, eq-eqb}
use lib.Bits.{bit_or, bit_xor, xor_self, xor_zero_r}
use lib.Dec.{ltb, leb, eqb}
use lib.ListN.{length, get_or, set, replicate, length-set}
use lib.Seq.{get_or-set_same, get_or-set_other}
use Rattle.laws.specs.Bit.{on}
use Rattle.laws.proofs.On.{on_shr, on_none}
use Rattle.laws.proofs.Bitwise.{on_or, on_xor}
use Rattle.laws.proofs.Shift.{on_shl, on_one_shl, on_ones}
use Rattle.laws.proofs.Truth.{same_truth, no_truth, off_on, true_or_false, and_iff, or_iff}
use Rattle.meaning.specs.Limits.{places, log_limit, fluent_limit, action_limit}
use Rattle.tables.specs.Tables.{action_rows, fluent_rows, possible_row, row_count, row_holds, among_holds, fluent_holds, Noted, Reversed, Toggled}

-- rows that hold nothing
zeros : (n r : ℕ) → ◌≡◌ {A = ℕ} (get_or (replicate n 0) r 0) 0
zeros zero r = refl
zeros (suc n) zero = refl
zeros (suc n) (suc r) = zeros n r

pub blank : (n r q : ℕ) → row_holds (replicate n 0) r q ≡ false
unfolding row_holds
blank n r q = rw (zeros n r) (on_none q)

-- a number's row among some: there is one, and it holds the position
pub among : (rows : List ℕ) (first many n q : ℕ) → (among_holds rows first many n q ≡ true) ↔ ((n < many) × (row_holds rows (first + n) q ≡ true))
among rows first many n q = (
  λ h. let u = (and_iff (ltb n many) (row_holds rows (first + n) q)).0 h in (ltb-true n many u.0, u.1),
  λ u. (and_iff (ltb n many) (row_holds rows (first + n) q)).1 (lt-ltb n many u.0, u.1),
)

-- some positions more in one row
abbrev pub marked : List ℕ → ℕ → ℕ → List ℕ
marked old r word = set old r (bit_or (get_or old r 0) word)

row_more : (old : List ℕ) (r word : ℕ) → r < length old → (s q : ℕ)
    → (row_holds (marked old r word) s q ≡ true) ↔ ((row_holds old s q ≡ true) ⊎ ((s ≡ r) × (on word q ≡ true)))
unfolding row_holds
row_more old r word there s q = elim (ℕ_discrete s r) [
  | no other ↦
      rw (get_or-set_other old r s (bit_or (get_or old r 0) word) 0 other)
      (inl, ⊎_elim (λ h. h) (λ h. absurd (other h.0)))
  | yes e ↦
      subst⁻¹
      (λ (x : ℕ). (on (get_or (marked old r word) x 0) q ≡ true) ↔ ((on (get_or old x 0) q ≡ true) ⊎ ((x ≡ r) × (on word q ≡ true))))
      e
      (rw (get_or-set_same old r (bit_or (get_or old r 0) word) 0 there, on_or) (
        λ h. ⊎_elim inl (λ w. inr (refl, w)) ((or_iff (on (get_or old r 0) q) (on word q)).0 h),
        λ h. (or_iff (on (get_or old r 0) q) (on word q)).1 (⊎_elim inl (λ w. inr w.1) h),
      ))
]

-- the word of one position
position_iff : (p q : ℕ) → p < places → (on (1 * 2 ^ p % 2 ^ places) q ≡ true) ↔ (q ≡ p)
position_iff p q h = rw (on_one_shl p places q h) (eqb-true q p, eq-eqb q p)

-- a step that was possible is noted in two rows, and one that was not leaves them all
pub noted : (old : List ℕ) (a p : ℕ) → length old ≡ row_count → a < action_limit → p < places
    → Noted old (marked (marked old (action_rows + a) (1 * 2 ^ p % 2 ^ places)) possible_row (1 * 2 ^ p % 2 ^ places)) a p true
noted old a p room there h =
    record {
      room = length-set (marked old (action_rows + a) bit) possible_row _ ∙ length-set old (action_rows + a) _;
      bits = λ r q. (onward r q, back r q);
    }
  where
    bit : ℕ
    bit = 1 * 2 ^ p % 2 ^ places

    first : List ℕ
    first = marked old (action_rows + a) bit

    one : (r q : ℕ) → (row_holds first r q ≡ true) ↔ ((row_holds old r q ≡ true) ⊎ ((r ≡ action_rows + a) × (on bit q ≡ true)))
    one = row_more old (action_rows + a) bit (omega arith)

    two : (r q : ℕ) → (row_holds (marked first possible_row bit) r q ≡ true) ↔ ((row_holds first r q ≡ true) ⊎ ((r ≡ possible_row) × (on bit q ≡ true)))
    two = row_more first possible_row bit (omega (arith, length-set old (action_rows + a) (bit_or (get_or old (action_rows + a) 0) bit)))

    onward : (r q : ℕ) → row_holds (marked first possible_row bit) r q ≡ true
        → (row_holds old r q ≡ true) ⊎ ((true ≡ true) × ((r ≡ action_rows + a) ⊎ (r ≡ possible_row)) × (q ≡ p))
    onward r q k =
        ⊎_elim
        (λ f. ⊎_elim inl (λ u. inr (refl, inl u.0, (position_iff p q h).0 u.1)) ((one r q).0 f))
        (λ u. inr (refl, inr u.0, (position_iff p q h).0 u.1))
        ((two r q).0 k)

    back : (r q : ℕ) → (row_holds old r q ≡ true) ⊎ ((true ≡ true) × ((r ≡ action_rows + a) ⊎ (r ≡ possible_row)) × (q ≡ p))
        → row_holds (marked first possible_row bit) r q ≡ true
    back r q =
        ⊎_elim
        (λ o. (two r q).1 (inl ((one r q).1 (inl o))))
        (λ u.
        let here = (position_iff p q h).1 u.2 in
        ⊎_elim (λ e. (two r q).1 (inl ((one r q).1 (inr (e, here))))) (λ e. (two r q).1 (inr (e, here))) u.1)

pub not_noted : (old : List ℕ) (a p : ℕ) → Noted old old a p false
not_noted old a p = record { room = refl; bits = λ r q. (inl, ⊎_elim (λ l. l) (λ u. absurd (false≢true u.0))) }

-- the positions from p up to n: `!0 >> (63 - n) >> p << p`
pub from_iff : (p n q : ℕ) → p ≤ n → n < places → on ((2 ^ places - 1) / 2 ^ (log_limit - n) / 2 ^ p * 2 ^ p % 2 ^ places) q ≡ (leb p q && leb q n)
from_iff p n q order short =
    rw (on_shl ((2 ^ places - 1) / 2 ^ (log_limit - n) / 2 ^ p) p places q, on_shr, on_shr, on_ones places)
    (same_truth (ltb q places && leb p q && ltb (q - p + p + (log_limit - n)) places) (leb p q && leb q n) onward back)
  where
    onward : (ltb q places && leb p q && ltb (q - p + p + (log_limit - n)) places) ≡ true → (leb p q && leb q n) ≡ true
    onward e =
        let outer = (and_iff (ltb q places && leb p q) (ltb (q - p + p + (log_limit - n)) places)).0 e in
        let above = ((and_iff (ltb q places) (leb p q)).0 outer.0).1 in
        (and_iff (leb p q) (leb q n)).1 (above, le-leb q n (omega (arith, leb-true p q above, ltb-true (q - p + p + (log_limit - n)) places outer.1)))

    back : (leb p q && leb q n) ≡ true → (ltb q places && leb p q && ltb (q - p + p + (log_limit - n)) places) ≡ true
    back e =
        let both = (and_iff (leb p q) (leb q n)).0 e in
        let above : p ≤ q = leb-true p q both.0 in
        let below : q ≤ n = leb-true q n both.1 in
        (and_iff (ltb q places && leb p q) (ltb (q - p + p + (log_limit - n)) places)).1 (
          (and_iff (ltb q places) (leb p q)).1 (lt-ltb q places (omega arith), both.0),
          lt-ltb (q - p + p + (log_limit - n)) places (omega arith),
        )

-- no fluent is turned
with_none : (b : Bool) → xor b false ≡ b
unfolding xor
with_none true = refl
with_none false = refl

pub turn_none : (old : List ℕ) (changed at : ℕ) → Reversed old old (bit_xor changed changed) at
turn_none old changed at =
    record {
      room = refl;
      shown = λ i q. rw (xor_self changed, on_none, and-false) (sym (with_none (fluent_holds old i q)));
      others = λ r q other. refl;
    }

-- one fluent more is turned
one_turned : (o x c r : Bool) → xor (xor o (x && xor c r)) x ≡ xor o (x && xor c (xor r true))
unfolding xor
one_turned true false c r = refl
one_turned false false c r = refl
one_turned true true true true = refl
one_turned true true true false = refl
one_turned true true false true = refl
one_turned true true false false = refl
one_turned false true true true = refl
one_turned false true true false = refl
one_turned false true false true = refl
one_turned false true false false = refl

-- the other way, in one row
abbrev pub turned : List ℕ → ℕ → ℕ → List ℕ
turned old r word = set old r (bit_xor (get_or old r 0) word)

row_other : (old : List ℕ) (r word s q : ℕ) → (s ≡ r → ⊥) → row_holds (turned old r word) s q ≡ row_holds old s q
unfolding row_holds
row_other old r word s q other = rw (get_or-set_other old r s (bit_xor (get_or old r 0) word) 0 other)

row_turned : (old : List ℕ) (r word q : ℕ) → r < length old → row_holds (turned old r word) r q ≡ xor (row_holds old r q) (on word q)
unfolding row_holds
row_turned old r word q there = rw (get_or-set_same old r (bit_xor (get_or old r 0) word) 0 there) (on_xor (get_or old r 0) word q)

pub turn_more : {old new : List ℕ} (changed rest : ℕ) {at i : ℕ} → length old ≡ row_count → i < fluent_limit → Reversed old new (bit_xor changed rest) at
    → Reversed old (turned new (fluent_rows + i) at) (bit_xor changed (bit_xor rest (1 * 2 ^ i % 2 ^ fluent_limit))) at
turn_more {old} {new} changed rest {at} {i} size low t =
    record {
      room = length-set new (fluent_rows + i) _ ∙ t.room;
      shown = λ j q.
          rw (on_xor changed (bit_xor rest (1 * 2 ^ i % 2 ^ fluent_limit)) j, on_xor rest (1 * 2 ^ i % 2 ^ fluent_limit) j, on_one_shl i fluent_limit j low)
          (elim (ℕ_discrete j i) [
            | no other ↦
                rw (row_other new (fluent_rows + i) at (fluent_rows + j) q (λ e. other (omega arith)), no_truth (eqb j i) (λ e. other (eqb-true j i e)), with_none (on rest j))
                (before j q)
            | yes e ↦
                subst⁻¹
                (λ (x : ℕ). fluent_holds (turned new (fluent_rows + i) at) x q ≡ xor (fluent_holds old x q) (on at q && xor (on changed x) (xor (on rest x) (eqb x i))))
                e
                (here q)
          ]);
      others = λ r q other.
          row_other new (fluent_rows + i) at r q (λ e. ⊎_elim (λ l. omega arith) (λ l. omega arith) other)
          ∙ t.others r q other;
    }
  where
    before : (j q : ℕ) → fluent_holds new j q ≡ xor (fluent_holds old j q) (on at q && xor (on changed j) (on rest j))
    before j q = t.shown j q ∙ ap (λ (c : Bool). xor (fluent_holds old j q) (on at q && c)) (on_xor changed rest j)

    inside : ltb i fluent_limit ≡ true
    inside = lt-ltb i fluent_limit low

    -- of a fluent of the table, only the row counts
    own : (rows : List ℕ) (q : ℕ) → fluent_holds rows i q ≡ row_holds rows (fluent_rows + i) q
    own rows q = rw inside

    here : (q : ℕ) → fluent_holds (turned new (fluent_rows + i) at) i q ≡ xor (fluent_holds old i q) (on at q && xor (on changed i) (xor (on rest i) (eqb i i)))
    here q =
        own (turned new (fluent_rows + i) at) q
        ∙ row_turned new (fluent_rows + i) at q (omega (arith, t.room))
        ∙ ap (λ (b : Bool). xor b (on at q)) (sym (own new q) ∙ before i q)
        ∙ rw (eq-eqb i i refl) (one_turned (fluent_holds old i q) (on at q) (on changed i) (on rest i))

-- every fluent that changed is turned
pub turn_all : {old new : List ℕ} {changed rest at : ℕ} → rest ≡ 0 → Reversed old new (bit_xor changed rest) at → Reversed old new changed at
turn_all {old} {new} {changed} {rest} {at} none t = subst (λ (n : ℕ). Reversed old new n at) (ap (bit_xor changed) none ∙ xor_zero_r changed) t

-- a number past the rows has none, before and after
no_row : (l x y e z : Bool) → l ≡ false → e ≡ false → (l && x) ≡ xor (l && y) (e && z)
no_row l x y e z h g = rw (h, g) (sym (with_none false))

-- Two rows the other way at one position, then the fluents of a state at the next: a step at the end is put on the rows, or taken off.
module _ (old : List ℕ) (a p behind : ℕ) (size : length old ≡ row_count) (low : a < action_limit) (short : p < log_limit) where
  abbrev bit : ℕ
  bit = 1 * 2 ^ p % 2 ^ places

  abbrev first : List ℕ
  first = turned old (action_rows + a) bit

  abbrev pub toggled_rows : List ℕ
  toggled_rows = turned (turned old (action_rows + a) (1 * 2 ^ p % 2 ^ places)) possible_row (1 * 2 ^ p % 2 ^ places)

  first_size : length first ≡ row_count
  first_size = length-set old (action_rows + a) (bit_xor (get_or old (action_rows + a) 0) bit) ∙ size

  toggled_size : length toggled_rows ≡ row_count
  toggled_size = length-set first possible_row (bit_xor (get_or first possible_row 0) bit) ∙ first_size

  own_row : (b q : ℕ) → b < action_limit → row_holds toggled_rows (action_rows + b) q ≡ xor (row_holds old (action_rows + b) q) (eqb b a && eqb q p)
  own_row b q h =
      row_other first possible_row bit (action_rows + b) q (λ e. omega arith)
      ∙ elim (ℕ_discrete b a) [
        | no other ↦
            row_other old (action_rows + a) bit (action_rows + b) q (λ e. other (omega arith))
            ∙ rw (no_truth (eqb b a) (λ e. other (eqb-true b a e))) (sym (with_none (row_holds old (action_rows + b) q)))
        | yes e ↦
            subst⁻¹
            (λ (x : ℕ). row_holds first (action_rows + x) q ≡ xor (row_holds old (action_rows + x) q) (eqb x a && eqb q p))
            e
            (row_turned old (action_rows + a) bit q (omega arith) ∙ rw (on_one_shl p places q (omega arith), eq-eqb a a refl))
      ]

  still : (i q : ℕ) → fluent_holds toggled_rows i q ≡ fluent_holds old i q
  still i q =
      ⊎_elim
      (λ h.
      let there : i < fluent_limit = ltb-true i fluent_limit h in
      rw (
        row_other first possible_row bit (fluent_rows + i) q (λ e. omega arith),
        row_other old (action_rows + a) bit (fluent_rows + i) q (λ e. omega arith),
      ))
      (λ h. rw h)
      (true_or_false (ltb i fluent_limit))

  pub toggled : {new : List ℕ} → Reversed toggled_rows new behind (1 * 2 ^ (p + 1) % 2 ^ places) → Toggled old new a p behind
  toggled {new} t =
      record {
        room = t.room ∙ toggled_size ∙ sym size;
        taken = λ b q.
            ⊎_elim
            (λ h. let there : b < action_limit = ltb-true b action_limit h in rw h (t.others (action_rows + b) q (inl (omega arith)) ∙ own_row b q there))
            (λ h. no_row (ltb b action_limit) _ _ (eqb b a) _ h (no_truth (eqb b a) (λ e. off_on h (lt-ltb b action_limit (omega (arith, eqb-true b a e))))))
            (true_or_false (ltb b action_limit));
        shown = λ i q.
            t.shown i q
            ∙ rw (on_one_shl (p + 1) places q (omega arith), still i q);
        possible = λ q.
            t.others possible_row q (inr (omega arith))
            ∙ row_turned first possible_row bit q (omega (arith, first_size))
            ∙ rw (on_one_shl p places q (omega arith), row_other old (action_rows + a) bit possible_row q (λ e. omega arith));
      }

-- The table of the labels' theory, filled row by row, and what its masks name. Knows lists and bits; no code.
use mathlib.Core.Path.{◌≡◌, refl, sym, ap, subst, ◌∙◌}
use mathlib.Core.Bool.{true}
use mathlib.Core.List.{List, [], ◌∷◌, ◌++◌}
use Prim.Native.Nat.{ℕ, zero, suc, ◌+◌, ◌*◌, ◌/◌, ◌%◌, ◌^◌, ◌≤◌, ◌<◌}
use native.Mathlib.Nat.{one-mul, mod-eq_of_lt}
use native.Mathlib.Decide.{ℕ_discrete}
use native.Mathlib.Omega.{arith}
use borrow.Author.Tests.{ltb-true, eqb-true}
use lib.ListN.{length, get_or, set, take}
use lib.Pow.{pow-lt, pow_pos}
use lib.Seq.{get_or-take, length-take-le}
use Rattle.laws.specs.Bit.{on}
use Rattle.laws.proofs.On.{on_none}
use Rattle.laws.proofs.Shift.{on_pow, on_ones}
use Rattle.laws.proofs.Truth.{off_on}
use Rattle.meaning.specs.Limits.{fluent_limit}
use Rattle.meaning.specs.Theory.{Clause, Masks, stride}
use Rattle.meaning.specs.Four.{plain_masks}
use Rattle.theory.specs.Subject.{table_masks}
use Rattle.theory.specs.Plain.{row_of_plain, overwritten}
use Rattle.theory.proofs.Plain.{same_row, over_long, row_here, row_others, every_at, every_row}
use Rattle.desk.specs.Log.{carton_limit}
use Rattle.desk.specs.Labels.{lower_of, print_masks, void_masks, LabelTheory, table_room}

-- `1 << k` of the labels
pub own_mask : (k : ℕ) → k ≤ carton_limit → 1 * 2 ^ k % 2 ^ fluent_limit ≡ 2 ^ k
own_mask k h = rw (one-mul, mod-eq_of_lt (pow-lt {i = k} {j = fluent_limit} (omega arith)))

pub own_some : (k : ℕ) → k ≤ carton_limit → 1 ≤ 1 * 2 ^ k % 2 ^ fluent_limit
own_some k h = rw (own_mask k h) (pow_pos k)

-- four masks that are equal one by one
pub same_masks : {a b c d a' b' c' d' : ℕ} → a ≡ a' → b ≡ b' → c ≡ c' → d ≡ d' → plain_masks a b c d ≡ plain_masks a' b' c' d'
same_masks e f g h = cc

-- one row of the table is written, and the others are as they were
pub record RowSet (before : List ℕ) (action : ℕ) (row : Masks) (after : List ℕ) : Type 0 where
  pub room : length after ≡ length before
  pub here : table_masks after action ≡ row
  pub others : (other : ℕ) → (other ≡ action → ⊥) → table_masks after other ≡ table_masks before other

pub row_set : (before after : List ℕ) (action need ban put drop : ℕ) → action ≤ carton_limit → length before ≡ table_room
    → after ≡ overwritten before (stride * action) (row_of_plain need ban put drop) → RowSet before action (plain_masks need ban put drop) after
row_set before after action need ban put drop few room e =
    let fits : stride * action + stride ≤ length before = omega arith in
    record {
      room = ap length e ∙ over_long before (stride * action) (row_of_plain need ban put drop) fits;
      here = ap (λ (m : List ℕ). table_masks m action) e ∙ row_here before action need ban put drop fits;
      others = λ other apart. ap (λ (m : List ℕ). table_masks m other) e ∙ row_others before action need ban put drop fits other apart;
    }

-- the rows of the prints below a are filled
pub record Filled (masks : List ℕ) (a : ℕ) : Type 0 where
  pub room : length masks ≡ table_room
  pub rows : (b : ℕ) → b < a → table_masks masks b ≡ print_masks b

pub filled_none : {masks : List ℕ} → length masks ≡ table_room → Filled masks 0
filled_none room = record { room = room; rows = λ b h. absurd (omega arith) }

-- the next print
pub filled_more : {masks after : List ℕ} {a : ℕ} {row : Masks} → RowSet masks a row after → row ≡ print_masks a → Filled masks a → Filled after (a + 1)
filled_more {after = after} {a = a} set right filled =
    record {
      room = set.room ∙ filled.room;
      rows = λ b h. elim (ℕ_discrete b a) [
        | yes same ↦ subst (λ (k : ℕ). table_masks after k ≡ print_masks k) (sym same) (set.here ∙ right)
        | no other ↦ set.others b other ∙ filled.rows b (omega arith)
      ];
    }

-- a row of the front of the table
front_row : (masks : List ℕ) (n b : ℕ) → b < n → table_masks (take (stride * n) masks) b ≡ table_masks masks b
front_row masks n b h = same_row (take (stride * n) masks) masks b b (λ i l. get_or-take (stride * n) masks (stride * b + i) 0 (omega arith))

-- and the void behind them
pub filled_all : {masks after : List ℕ} {cartons : ℕ} {row : Masks} → cartons ≤ carton_limit → RowSet masks cartons row after → row ≡ void_masks cartons
    → Filled masks cartons → LabelTheory cartons (take (stride * (cartons + 1)) after)
filled_all {after = after} {cartons = cartons} few set right filled =
    let room : length after ≡ table_room = set.room ∙ filled.room in
    record {
      table = length-take-le (stride * (cartons + 1)) after (omega arith);
      prints = λ b h. front_row after (cartons + 1) b (omega arith) ∙ set.others b (λ e. omega arith) ∙ filled.rows b h;
      voids = front_row after (cartons + 1) cartons (omega arith) ∙ set.here ∙ right;
    }

-- a mask that names labels of the job alone
abbrev pub Low : ℕ → ℕ → Type 0
Low cartons mask = (i : ℕ) → on mask i ≡ true → i < cartons

-- every mask of the table does
module _ (cartons : ℕ) (masks : List ℕ) (labels : LabelTheory cartons masks) where
  none : (mask : ℕ) → mask ≡ 0 → Low cartons mask
  none mask e i b = absurd (off_on (on_none i) (sym (ap (λ (m : ℕ). on m i) e) ∙ b))

  lower : (mask a : ℕ) → a ≤ cartons → mask ≡ lower_of a → Low cartons mask
  lower mask a h e i b = let below : i < a = ltb-true i a (sym (on_ones a i) ∙ sym (ap (λ (m : ℕ). on m i) e) ∙ b) in omega arith

  own : (mask a : ℕ) → a < cartons → mask ≡ 2 ^ a → Low cartons mask
  own mask a h e i b = let same : i ≡ a = eqb-true i a (sym (on_pow a i) ∙ sym (ap (λ (m : ℕ). on m i) e) ∙ b) in omega arith

  -- so does each of a row from four masks
  row_low : (need ban put drop : ℕ) → Low cartons need → Low cartons ban → Low cartons put → Low cartons drop → (i : ℕ) → Low cartons (get_or (row_of_plain need ban put drop) i 0)
  row_low need ban put drop n b p d = every_at (Low cartons) (row_of_plain need ban put drop) (none 0 refl) (every_row (Low cartons) need ban put drop (none 0 refl) n b p d)

  -- the masks of an action one after the other, as they stand in the table
  abbrev four : Clause → List ℕ
  four c = c.when ∷ c.unless ∷ c.put ∷ c.drop ∷ []

  abbrev listed : Masks → List ℕ
  listed m = m.need ∷ m.ban ∷ (four m.one ++ four m.two)

  row_listed : (a i : ℕ) → i < stride → get_or masks (stride * a + i) 0 ≡ get_or (listed (table_masks masks a)) i 0
  row_listed a zero l = let e : stride * a + 0 ≡ stride * a = omega arith in ap (λ (n : ℕ). get_or masks n 0) e
  row_listed a (suc zero) l = let e : stride * a + 1 ≡ stride * a + 1 = omega arith in ap (λ (n : ℕ). get_or masks n 0) e
  row_listed a (suc (suc zero)) l = let e : stride * a + 2 ≡ stride * a + 2 = omega arith in ap (λ (n : ℕ). get_or masks n 0) e
  row_listed a (suc (suc (suc zero))) l = let e : stride * a + 3 ≡ stride * a + 2 + 1 = omega arith in ap (λ (n : ℕ). get_or masks n 0) e
  row_listed a (suc (suc (suc (suc zero)))) l = let e : stride * a + 4 ≡ stride * a + 2 + 2 = omega arith in ap (λ (n : ℕ). get_or masks n 0) e
  row_listed a (suc (suc (suc (suc (suc zero))))) l = let e : stride * a + 5 ≡ stride * a + 2 + 3 = omega arith in ap (λ (n : ℕ). get_or masks n 0) e
  row_listed a (suc (suc (suc (suc (suc (suc zero)))))) l = let e : stride * a + 6 ≡ stride * a + 6 = omega arith in ap (λ (n : ℕ). get_or masks n 0) e
  row_listed a (suc (suc (suc (suc (suc (suc (suc zero))))))) l = let e : stride * a + 7 ≡ stride * a + 6 + 1 = omega arith in ap (λ (n : ℕ). get_or masks n 0) e
  row_listed a (suc (suc (suc (suc (suc (suc (suc (suc zero)))))))) l = let e : stride * a + 8 ≡ stride * a + 6 + 2 = omega arith in ap (λ (n : ℕ). get_or masks n 0) e
  row_listed a (suc (suc (suc (suc (suc (suc (suc (suc (suc zero))))))))) l = let e : stride * a + 9 ≡ stride * a + 6 + 3 = omega arith in ap (λ (n : ℕ). get_or masks n 0) e
  row_listed a (suc (suc (suc (suc (suc (suc (suc (suc (suc (suc i)))))))))) l = absurd (omega arith)

  pub all_low : (place : ℕ) → place < length masks → Low cartons (get_or masks place 0)
  all_low place h =
      let room = labels.table in
      let a : ℕ = place / stride in
      let i : ℕ = place % stride in
      let split : place ≡ stride * a + i = omega arith in
      let here : get_or masks place 0 ≡ get_or (listed (table_masks masks a)) i 0 = ap (λ (n : ℕ). get_or masks n 0) split ∙ row_listed a i (omega arith) in
      subst (Low cartons) (sym here) (elim (ℕ_discrete a cartons) [
        | yes e ↦
            let row : table_masks masks a ≡ void_masks cartons = ap (table_masks masks) e ∙ labels.voids in
            subst (λ (m : Masks). Low cartons (get_or (listed m) i 0)) (sym row) (row_low 0 0 0 (lower_of cartons) (none 0 refl) (none 0 refl) (none 0 refl) (lower _ cartons (omega arith) refl) i)
        | no other ↦
            let row = labels.prints a (omega arith) in
            subst (λ (m : Masks). Low cartons (get_or (listed m) i 0)) (sym row) (row_low (lower_of a) 0 (2 ^ a) 0 (lower _ a (omega arith) refl) (none 0 refl) (own _ a (omega arith) refl) (none 0 refl) i)
      ])

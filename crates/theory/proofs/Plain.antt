-- Rows of the table that are made from four masks: which actions such a table has, and that its states are those of document 01. Knows lists and the table's
-- layout; no code.
use mathlib.Core.Path.{◌≡◌, refl, sym, ap, ◌∙◌}
use mathlib.Core.Logic.{◌⊎◌, inl, inr}
use mathlib.Core.List.{List, [], ◌∷◌, ◌++◌}
use Prim.Native.Nat.{ℕ, zero, suc, ◌+◌, ◌-◌, ◌*◌, ◌≤◌, ◌<◌}
use native.Mathlib.Decide.{dec_lt}
use native.Mathlib.Omega.{arith}
use lib.ListN.{length, get_or, take, drop, length-append, length-drop, get_or-append, get_or-eq_default}
use lib.Seq.{get_or-append-add, get_or-take, get_or-drop, length-take-le}
use Rattle.meaning.specs.Theory.{stride, state_before}
use Rattle.meaning.specs.Four.{plain_stride, plain_masks, run_plain}
use Rattle.meaning.proofs.Effects.{plain_run}
use Rattle.theory.specs.Subject.{Subject, table_masks, world_of}
use Rattle.theory.specs.Plain.{row_of_plain, masks_of_four, row_of_four, plain_rows, overwritten}

-- two rows with the same masks are one action
pub same_row : (m m' : List ℕ) (a b : ℕ) → ((i : ℕ) → i < stride → get_or m (stride * a + i) 0 ≡ get_or m' (stride * b + i) 0) → table_masks m a ≡ table_masks m' b
same_row m m' a b each =
    let e0 = at 0 (stride * a) (stride * b) (omega arith) (omega arith) (omega arith) in
    let e1 = at 1 (stride * a + 1) (stride * b + 1) (omega arith) (omega arith) (omega arith) in
    let e2 = at 2 (stride * a + 2) (stride * b + 2) (omega arith) (omega arith) (omega arith) in
    let e3 = at 3 (stride * a + 2 + 1) (stride * b + 2 + 1) (omega arith) (omega arith) (omega arith) in
    let e4 = at 4 (stride * a + 2 + 2) (stride * b + 2 + 2) (omega arith) (omega arith) (omega arith) in
    let e5 = at 5 (stride * a + 2 + 3) (stride * b + 2 + 3) (omega arith) (omega arith) (omega arith) in
    let e6 = at 6 (stride * a + 6) (stride * b + 6) (omega arith) (omega arith) (omega arith) in
    let e7 = at 7 (stride * a + 6 + 1) (stride * b + 6 + 1) (omega arith) (omega arith) (omega arith) in
    let e8 = at 8 (stride * a + 6 + 2) (stride * b + 6 + 2) (omega arith) (omega arith) (omega arith) in
    let e9 = at 9 (stride * a + 6 + 3) (stride * b + 6 + 3) (omega arith) (omega arith) (omega arith) in
    cc
  where
    at : (i k k' : ℕ) → i < stride → k ≡ stride * a + i → k' ≡ stride * b + i → get_or m k 0 ≡ get_or m' k' 0
    at i k k' l e e' = ap (λ (n : ℕ). get_or m n 0) e ∙ each i l ∙ ap (λ (n : ℕ). get_or m' n 0) (sym e')

-- a list with other numbers from a place on has these there, and is elsewhere as it was
module _ (old : List ℕ) (at : ℕ) (new : List ℕ) (room : at + length new ≤ length old) where
  front : length (take at old) ≡ at
  front = length-take-le at old (omega arith)

  pub over_long : length (overwritten old at new) ≡ length old
  over_long =
      omega (arith, length-append (take at old ++ new) (drop (at + length new) old), length-append (take at old) new, length-drop (at + length new) old, front)

  pub over_in : (i : ℕ) → i < length new → get_or (overwritten old at new) (at + i) 0 ≡ get_or new i 0
  over_in i l =
      get_or-append (take at old ++ new) (drop (at + length new) old) 0 (at + i) (omega (arith, length-append (take at old) new, front))
      ∙ ap (λ (n : ℕ). get_or (take at old ++ new) (n + i) 0) (sym front)
      ∙ get_or-append-add (take at old) new i 0

  pub over_out : (k : ℕ) → (k < at) ⊎ (at + length new ≤ k) → get_or (overwritten old at new) k 0 ≡ get_or old k 0
  over_out k (inl l) =
      get_or-append (take at old ++ new) (drop (at + length new) old) 0 k (omega (arith, length-append (take at old) new, front))
      ∙ get_or-append (take at old) new 0 k (omega (arith, front))
      ∙ get_or-take at old k 0 l
  over_out k (inr l) =
      let long : length (take at old ++ new) ≡ at + length new = omega (arith, length-append (take at old) new, front) in
      let rest = k - (at + length new) in
      let split : k ≡ length (take at old ++ new) + rest = omega arith in
      let back : at + length new + rest ≡ k = omega arith in
      ap (λ (n : ℕ). get_or (overwritten old at new) n 0) split
      ∙ get_or-append-add (take at old ++ new) (drop (at + length new) old) rest 0
      ∙ get_or-drop (at + length new) old rest 0
      ∙ ap (λ (n : ℕ). get_or old n 0) back

-- so with a row from four masks: it is the action of these masks, and every other stays
module _ (m : List ℕ) (a need ban put drop : ℕ) (room : stride * a + stride ≤ length m) where
  pub row_here : table_masks (overwritten m (stride * a) (row_of_plain need ban put drop)) a ≡ plain_masks need ban put drop
  row_here =
      same_row (overwritten m (stride * a) (row_of_plain need ban put drop)) (row_of_plain need ban put drop) a 0
      (λ i l.
      let first : i ≡ stride * 0 + i = omega arith in
      over_in m (stride * a) (row_of_plain need ban put drop) room i l ∙ ap (λ (n : ℕ). get_or (row_of_plain need ban put drop) n 0) first)

  pub row_others : (b : ℕ) → (b ≡ a → ⊥) → table_masks (overwritten m (stride * a) (row_of_plain need ban put drop)) b ≡ table_masks m b
  row_others b other =
      same_row (overwritten m (stride * a) (row_of_plain need ban put drop)) m b b
      (λ i l. over_out m (stride * a) (row_of_plain need ban put drop) room (stride * b + i) (elim (dec_lt b a) [ yes before ↦ inl (omega arith) | no behind ↦ inr (omega (arith, other)) ]))

-- a whole table of such rows
pub rows_long : (four : List ℕ) (a more : ℕ) → length (plain_rows four a more) ≡ stride * more
unfolding plain_rows
rows_long four a zero = refl
rows_long four a (suc more) = omega (arith, length-append (row_of_four four a) (plain_rows four (suc a) more), rows_long four (suc a) more)

rows_have : (four : List ℕ) (a more k i : ℕ) → k < more → i < stride → get_or (plain_rows four a more) (stride * k + i) 0 ≡ get_or (row_of_four four (a + k)) i 0
unfolding plain_rows
rows_have four a zero k i l low = absurd (omega arith)
rows_have four a (suc more) zero i l low =
    let first : stride * 0 + i ≡ i = omega arith in
    let same : a ≡ a + 0 = omega arith in
    ap (λ (n : ℕ). get_or (row_of_four four a ++ plain_rows four (suc a) more) n 0) first
    ∙ get_or-append (row_of_four four a) (plain_rows four (suc a) more) 0 i low
    ∙ ap (λ (n : ℕ). get_or (row_of_four four n) i 0) same
rows_have four a (suc more) (suc k) i l low =
    let past : stride * suc k + i ≡ stride + (stride * k + i) = omega arith in
    let same : suc a + k ≡ a + suc k = omega arith in
    ap (λ (n : ℕ). get_or (row_of_four four a ++ plain_rows four (suc a) more) n 0) past
    ∙ get_or-append-add (row_of_four four a) (plain_rows four (suc a) more) (stride * k + i) 0
    ∙ rows_have four (suc a) more k i (omega arith) low
    ∙ ap (λ (n : ℕ). get_or (row_of_four four n) i 0) same

-- they have the first masks of the list alone
pub rows_front : (four : List ℕ) (n a more : ℕ) → a + more ≤ n → plain_rows (take (plain_stride * n) four) a more ≡ plain_rows four a more
unfolding plain_rows
rows_front four n a zero fits = refl
rows_front four n a (suc more) fits =
    let e0 = get_or-take (plain_stride * n) four (plain_stride * a) 0 (omega arith) in
    let e1 = get_or-take (plain_stride * n) four (plain_stride * a + 1) 0 (omega arith) in
    let e2 = get_or-take (plain_stride * n) four (plain_stride * a + 2) 0 (omega arith) in
    let e3 = get_or-take (plain_stride * n) four (plain_stride * a + 3) 0 (omega arith) in
    rw (e0, e1, e2, e3, rows_front four n (suc a) more (omega arith))

-- what holds of each number of a list, and of 0, holds of what is found at any place
unfoldable pub Every : (ℕ → Type 0) → List ℕ → Type 0
Every P [] = Unit {0}
Every P (x ∷ l) = P x × Every P l

pub every_at : (P : ℕ → Type 0) (l : List ℕ) → P 0 → Every P l → (i : ℕ) → P (get_or l i 0)
unfolding Every
every_at P [] none each i = none
every_at P (x ∷ l) none each zero = each.0
every_at P (x ∷ l) none each (suc i) = every_at P l none each.1 i

every_both : (P : ℕ → Type 0) (a b : List ℕ) → Every P a → Every P b → Every P (a ++ b)
unfolding Every
every_both P [] b here there = there
every_both P (x ∷ a) b here there = (here.0, every_both P a b here.1 there)

-- so with the numbers of rows that are made from four masks each: those masks, and 0
pub every_row : (P : ℕ → Type 0) (need ban put drop : ℕ) → P 0 → P need → P ban → P put → P drop → Every P (row_of_plain need ban put drop)
unfolding Every
every_row P need ban put drop none n b p d = (n, (b, (none, (none, (p, (d, (none, (none, (none, (none, tt))))))))))

pub every_rows : (P : ℕ → Type 0) (four : List ℕ) → P 0 → ((k : ℕ) → P (get_or four k 0)) → (a more : ℕ) → Every P (plain_rows four a more)
unfolding plain_rows Every
every_rows P four none each a zero = tt
every_rows P four none each a (suc more) =
    every_both P (row_of_four four a) (plain_rows four (suc a) more)
    (every_row P _ _ _ _ none (each (plain_stride * a)) (each (plain_stride * a + 1)) (each (plain_stride * a + 2)) (each (plain_stride * a + 3)))
    (every_rows P four none each (suc a) more)

pub rows_masks : (four : List ℕ) (actions : ℕ) → length four ≡ plain_stride * actions → (a : ℕ) → table_masks (plain_rows four 0 actions) a ≡ masks_of_four four a
rows_masks four actions long a = elim (dec_lt a actions) [
  | yes l ↦ same_row (plain_rows four 0 actions) (row_of_four four a) a 0 (λ i low.
      let first : i ≡ stride * 0 + i = omega arith in
      let same : 0 + a ≡ a = omega arith in
      rows_have four 0 actions a i l low ∙ ap (λ (n : ℕ). get_or (row_of_four four n) i 0) same ∙ ap (λ (n : ℕ). get_or (row_of_four four a) n 0) first)
  | no l ↦ same_row (plain_rows four 0 actions) [] a 0 (λ i low.
      get_or-eq_default (plain_rows four 0 actions) 0 {n = stride * a + i} (omega (arith, rows_long four 0 actions))) ∙ none (omega arith)
]
  where
    blank : (k : ℕ) → plain_stride * actions ≤ k → 0 ≡ get_or four k 0
    blank k high = sym (get_or-eq_default four 0 {n = k} (omega arith))

    none : actions ≤ a → table_masks [] 0 ≡ masks_of_four four a
    none high =
        let e0 = blank (plain_stride * a) (omega arith) in
        let e1 = blank (plain_stride * a + 1) (omega arith) in
        let e2 = blank (plain_stride * a + 2) (omega arith) in
        let e3 = blank (plain_stride * a + 3) (omega arith) in
        cc

-- "same states": those of document 01, by each action's put and drop
pub rows_states : (s : Subject) (four : List ℕ) (actions : ℕ) → length four ≡ plain_stride * actions → s.masks ≡ plain_rows four 0 actions → (p : ℕ)
    → state_before (world_of s) p ≡ run_plain (λ a. get_or four (plain_stride * a + 2) 0) (λ a. get_or four (plain_stride * a + 3) 0) s.setting.start (take p s.log)
rows_states s four actions long table p =
    plain_run (world_of s).masks (λ a. get_or four (plain_stride * a) 0) (λ a. get_or four (plain_stride * a + 1) 0) (λ a. get_or four (plain_stride * a + 2) 0) (λ a. get_or four (plain_stride * a + 3) 0)
    (λ a. ap (λ (m : List ℕ). table_masks m a) table ∙ rows_masks four actions long a) s.setting.start (take p s.log)

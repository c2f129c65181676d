-- Four masks of each action, one behind the other, made into rows of the table, from the last action down; and what that makes of a table that was read. Knows lists
-- and versions; no bytes.
use mathlib.Core.Path.{◌≡◌, refl, sym, ap, ◌∙◌, subst}
use mathlib.Core.Logic.{⊎_elim}
use mathlib.Core.List.{List, ◌++◌, append_assoc}
use Prim.Native.Nat.{ℕ, suc, ◌+◌, ◌-◌, ◌*◌, ◌≤◌, ◌<◌}
use native.Mathlib.Decide.{dec_lt}
use native.Mathlib.Omega.{arith}
use borrow.Author.Tests.{eq-eqb, ne_eqb}
use lib.ListN.{length, get_or, take, drop, get_or-eq_default}
use lib.Seq.{take_at, drop_at, take-take, get_or-take, length-take-le}
use Rattle.laws.proofs.On.{on_none}
use Rattle.laws.proofs.Truth.{off_on}
use Rattle.meaning.specs.Theory.{stride}
use Rattle.meaning.specs.Four.{plain_stride}
use Rattle.meaning.specs.Refusal.{NamesLacking, OneLacking}
use Rattle.theory.specs.Plain.{row_of_four, plain_rows, overwritten}
use Rattle.theory.proofs.Plain.{over_long, rows_long, every_at, every_rows}
use Rattle.sheet_lines.specs.Versions.{Usable, table_of}
use Rattle.sheet_lines.specs.declared.Version.{Version}

-- the actions from a on have their rows, those below still their masks
pub record Widened (entry table : List ℕ) (actions a : ℕ) : Type 0 where
  pub few : a ≤ actions
  pub long : length table ≡ length entry
  pub front : take (stride * a) table ≡ take (stride * a) entry
  pub back : drop (stride * a) table ≡ plain_rows entry a (actions - a) ++ drop (stride * actions) entry

pub widened_none : (entry : List ℕ) (actions : ℕ) → Widened entry entry actions actions
unfolding plain_rows
widened_none entry actions =
    let none : actions - actions ≡ 0 = omega arith in
    record { few = omega arith; long = refl; front = refl; back = rw none }

-- the action below them
module _ (entry table : List ℕ) (actions a : ℕ) (room : stride * actions ≤ length entry) (above : Widened entry table actions (suc a)) where
  -- its masks are still there
  still : (k : ℕ) → k < stride * suc a → get_or table k 0 ≡ get_or entry k 0
  still k l =
      sym (get_or-take (stride * suc a) table k 0 l) ∙ ap (λ (m : List ℕ). get_or m k 0) above.front ∙ get_or-take (stride * suc a) entry k 0 l

  same_four : row_of_four table a ≡ row_of_four entry a
  same_four =
      let e0 = still (plain_stride * a) (omega arith) in
      let e1 = still (plain_stride * a + 1) (omega arith) in
      let e2 = still (plain_stride * a + 2) (omega arith) in
      let e3 = still (plain_stride * a + 3) (omega arith) in
      cc

  pub widened_more : (table' : List ℕ) → table' ≡ overwritten table (stride * a) (row_of_four table a) → Widened entry table' actions a
  unfolding plain_rows
  widened_more table' e =
      let at = stride * a in
      let row = row_of_four table a in
      let few = above.few in
      let fits : at + length row ≤ length table = omega (arith, above.long) in
      let first : length (take at table) ≡ at = length-take-le at table (omega arith) in
      let split : table' ≡ take at table ++ (row ++ drop (at + length row) table) = e ∙ append_assoc (take at table) row (drop (at + length row) table) in
      let next : at + length row ≡ stride * suc a = omega arith in
      let left : suc (actions - suc a) ≡ actions - a = omega arith in
      record {
        few = omega arith;
        long = ap length e ∙ over_long table at row fits ∙ above.long;
        front =
            ap (take at) split ∙ take_at (take at table) (row ++ drop (at + length row) table) at first
            ∙ sym (take-take at (stride * suc a) table (omega arith)) ∙ ap (take at) above.front ∙ take-take at (stride * suc a) entry (omega arith);
        back =
            ap (drop at) split ∙ drop_at (take at table) (row ++ drop (at + length row) table) at first
            ∙ ap (λ (r : List ℕ). r ++ drop (at + length row) table) same_four
            ∙ ap (λ (n : ℕ). row_of_four entry a ++ drop n table) next
            ∙ ap (λ (r : List ℕ). row_of_four entry a ++ r) above.back
            ∙ sym (append_assoc (row_of_four entry a) (plain_rows entry (suc a) (actions - suc a)) (drop (stride * actions) entry))
            ∙ ap (λ (n : ℕ). plain_rows entry a n ++ drop (stride * actions) entry) left;
      }

-- What a version's lines make of the table: rows that are made from four masks, or the masks themselves
module _ (v : Version) (actions : ℕ) (masks : List ℕ) where
  pub table_plain : v.masks ≡ plain_stride → table_of v actions masks ≡ plain_rows masks 0 actions
  table_plain e = rw (eq-eqb v.masks plain_stride e)

  pub table_same : v.masks ≡ stride → table_of v actions masks ≡ masks
  table_same e = rw (ne_eqb v.masks plain_stride (λ plain. omega arith))

-- it has ten masks an action, and names what they name
module _ (v : Version) (u : Usable v) (actions : ℕ) (masks : List ℕ) where
  pub table_long : length masks ≡ v.masks * actions → length (table_of v actions masks) ≡ stride * actions
  table_long long =
      ⊎_elim (λ e. ap length (table_plain v actions masks e) ∙ rows_long masks 0 actions)
      (λ e. ap length (table_same v actions masks e) ∙ long ∙ ap (λ (n : ℕ). n * actions) e) u.rows

  pub table_known : (fluents : ℕ) → (OneLacking fluents masks → ⊥) → OneLacking fluents (table_of v actions masks) → ⊥
  table_known fluents known h =
      ⊎_elim (λ e. wide (subst (OneLacking fluents) (table_plain v actions masks e) h)) (λ e. known (subst (OneLacking fluents) (table_same v actions masks e) h)) u.rows
    where
      none : NamesLacking fluents 0 → ⊥
      none l = off_on (on_none l.fluent) l.named

      each : (k : ℕ) → NamesLacking fluents (get_or masks k 0) → ⊥
      each k l = elim (dec_lt k (length masks)) [
        | yes there ↦ known (record { place = k; there = there; lacks = l })
        | no far ↦ none (subst (NamesLacking fluents) (get_or-eq_default masks 0 {n = k} (omega arith)) l)
      ]

      wide : OneLacking fluents (plain_rows masks 0 actions) → ⊥
      wide o =
          every_at (λ mask. NamesLacking fluents mask → ⊥) (plain_rows masks 0 actions) none
          (every_rows (λ mask. NamesLacking fluents mask → ⊥) masks none each 0 actions) o.place o.lacks

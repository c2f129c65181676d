-- Laws of reading the lines of the actions one below the other: what the table has, and which lines are still to come.
use mathlib.Core.Path.{◌≡◌, sym, ap, ◌∙◌, subst, subst₂}
use mathlib.Core.List.{List, ◌++◌}
use Prim.Native.Nat.{ℕ, suc, ◌+◌, ◌-◌, ◌*◌, ◌≤◌, ◌<◌}
use native.Mathlib.Nat.{mul-suc, mul-le-mul_left, mul-le-mul_right}
use native.Mathlib.Numerals.{add-one}
use native.Mathlib.Omega.{arith}
use lib.ListN.{length, take, drop}
use lib.Seq.{take-add, take_at, drop_at, drop-drop}
use Rattle.meaning.specs.Refusal.{Refused}
use Rattle.meaning.specs.Four.{plain_stride}
use Rattle.theory.specs.Plain.{plain_rows}
use Rattle.theory.proofs.Plain.{rows_long, rows_front}
use Rattle.sheet_lines.specs.Versions.{Usable, table_of}
use Rattle.sheet_lines.specs.Line.{line_rows}
use Rattle.sheet_lines.specs.Forms.{act_form}
use Rattle.sheet.specs.Lines.{Lines, opened, from_log, below_acts, act_lines, from_acts, FaultIn}
use Rattle.sheet_lines.specs.Found.{Accepts, Below}
use Rattle.sheet.specs.Acts.{row_at, OnlyRow}
use Rattle.sheet.specs.Onward.{Onward}
use Rattle.sheet.specs.Sections.{masks_in, ActsAre, table_in, TableIs}
use Rattle.sheet_lines.specs.declared.Cursor.{Cursor}
use Rattle.sheet.specs.declared.Head.{Head}
use Rattle.sheet_lines.proofs.VersionRows.{few_masks}
use Rattle.sheet_lines.proofs.Widen.{table_plain}
use Rattle.sheet_lines.proofs.Below.{below_line}
use Rattle.sheet.proofs.Order.{goes_on, past_line, at_line}

-- how many masks the first actions have
abbrev pub masks_of : Head → ℕ → ℕ
masks_of h a = h.version.masks * a

next_row : (h : Head) (a : ℕ) → masks_of h (a + 1) ≡ masks_of h a + h.version.masks
next_row h a = ap (masks_of h) (add-one a) ∙ mul-suc h.version.masks a

-- the rows of the first actions, and one more, are within the table
pub row_within : (h : Head) (a : ℕ) → a < h.setting.counts.actions → masks_of h a + h.version.masks ≤ masks_in h
row_within h a l =
    let most : masks_of h (a + 1) ≤ masks_in h = mul-le-mul_left h.version.masks (omega arith) in
    omega (arith, next_row h a, most)

-- the lines that are still to come after some actions, which left this table
abbrev to_come : Head → List ℕ → ℕ → Lines
to_come h table left = act_lines h.version h.setting.counts.fluents left table (below_acts h.version h.setting)

-- from the head to there
abbrev Leads : List ℕ → Head → List ℕ → ℕ → ℕ → ℕ → Type 0
Leads bytes h table left at line =
    Onward (from_acts h.version h.setting) bytes (h.last.end + 1) (h.last.line + 1) (to_come h table left) at line

-- the first a actions are read, and this is the cursor of the last of them
pub record Acts (bytes : List ℕ) (h : Head) (entry table : List ℕ) (a : ℕ) (last : Cursor) : Type 0 where
  pub few : a ≤ h.setting.counts.actions
  pub long : length table ≡ length entry
  pub below : Below bytes last
  pub back : drop (masks_of h a) table ≡ drop (masks_of h a) entry
  pub onward : Leads bytes h (take (masks_of h a) table) (h.setting.counts.actions - a) (last.end + 1) (last.line + 1)

module _ (bytes : List ℕ) (h : Head) (entry table : List ℕ) (a : ℕ) (last : Cursor) (read : Acts bytes h entry table a last)
    (more : a < h.setting.counts.actions) where
  abbrev left : ℕ
  left = h.setting.counts.actions - (a + 1)

  abbrev below : List ℕ → ℕ → Lines
  below row at = to_come h (take (masks_of h a) table ++ row) left

  -- the next of them
  one_more : Leads bytes h (take (masks_of h a) table) (suc left) (last.end + 1) (last.line + 1)
  one_more =
      let few : h.setting.counts.actions - a ≡ suc left = omega arith in
      subst (λ (n : ℕ). Leads bytes h (take (masks_of h a) table) n (last.end + 1) (last.line + 1)) few read.onward

  pub acts_fault :
      {n p : ℕ} → Refused (line_rows (act_form h.version h.setting.counts.fluents) bytes (last.end + 1)) n × (p ≡ last.line + 1)
      → FaultIn (from_acts h.version h.setting) bytes (h.last.end + 1) (h.last.line + 1) n p
  acts_fault {n} {p} r =
      one_more.faults n p (at_line (act_form h.version h.setting.counts.fluents) bytes (last.end + 1) (last.line + 1) below r)

  pub acts_more :
      (table' : List ℕ) (c : Cursor) → length table' ≡ length table → OnlyRow (masks_of h a) h.version.masks table table'
      → Accepts (act_form h.version h.setting.counts.fluents) bytes (last.end + 1) (last.line + 1) (row_at table' (masks_of h a) h.version.masks) c
      → Acts bytes h entry table' (a + 1) c
  acts_more table' c long only acc =
      let row = masks_of h a in
      let count = h.version.masks in
      let form = act_form h.version h.setting.counts.fluents in
      let early = read.below.early in
      record {
        few = omega arith;
        long = long ∙ read.long;
        below = below_line form bytes (last.end + 1) (last.line + 1) (row_at table' row count) c acc (omega arith);
        back =
            ap (λ (n : ℕ). drop n table') (next_row h a)
            ∙ only.back
            ∙ sym (drop-drop count row table)
            ∙ ap (drop count) read.back
            ∙ drop-drop count row entry
            ∙ ap (λ (n : ℕ). drop n entry) (sym (next_row h a));
        onward =
            subst₂ (λ (t : List ℕ) (n : ℕ). Leads bytes h t left (c.end + 1) (n + 1))
            (sym
            (ap (λ (n : ℕ). take n table') (next_row h a)
            ∙ take-add row count table'
            ∙ ap (λ (l : List ℕ). l ++ row_at table' row count) only.front))
            (sym acc.stands.counted)
            (goes_on one_more (past_line form bytes (last.end + 1) (last.line + 1) below (row_at table' row count) c acc));
      }

-- all of them are read
pub acts_done :
    (bytes : List ℕ) (h : Head) (entry table : List ℕ) (a : ℕ) (last : Cursor) → Acts bytes h entry table a last → h.setting.counts.actions ≤ a
    → ActsAre bytes h entry table last
acts_done bytes h entry table a last read all =
    let few = read.few in
    let none : h.setting.counts.actions - a ≡ 0 = omega arith in
    let same : a ≡ h.setting.counts.actions = omega arith in
    record {
      below = read.below;
      back = subst (λ (n : ℕ). drop (masks_of h n) table ≡ drop (masks_of h n) entry) same read.back;
      onward = subst₂ (λ (n k : ℕ). Leads bytes h (take (masks_of h n) table) k (last.end + 1) (last.line + 1)) same none read.onward;
    }

-- the rows of a call's table have room for their masks
pub masks_fit : (h : Head) → Usable h.version → masks_in h ≤ table_in h
masks_fit h u = mul-le-mul_right h.setting.counts.actions (few_masks h.version u)

-- and the table is what they say: rows that are made from four masks each, or the masks themselves
module _ (bytes : List ℕ) (h : Head) (entry exit : List ℕ) (c : Cursor) (read : ActsAre bytes h entry exit c) where
  abbrev actions : ℕ
  actions = h.setting.counts.actions

  behind : masks_in h ≤ table_in h → drop (table_in h) exit ≡ drop (table_in h) entry
  behind few =
      let more = table_in h - masks_in h in
      let all : masks_in h + more ≡ table_in h = omega arith in
      ap (λ (n : ℕ). drop n exit) (sym all) ∙ sym (drop-drop more (masks_in h) exit) ∙ ap (drop more) read.back ∙ drop-drop more (masks_in h) entry
      ∙ ap (λ (n : ℕ). drop n entry) all

  tabled : (exit' : List ℕ) → drop (table_in h) exit' ≡ drop (table_in h) exit → masks_in h ≤ table_in h
      → table_of h.version actions (take (masks_in h) exit) ≡ take (table_in h) exit' → TableIs bytes h entry exit' c
  tabled exit' back few same = record {
    below = read.below;
    back = back ∙ behind few;
    onward =
        subst
        (λ (t : List ℕ). Onward (from_acts h.version h.setting) bytes (h.last.end + 1) (h.last.line + 1) (from_log h.version (opened h.setting t)) (c.end + 1) (c.line + 1))
        same read.onward;
  }

  pub table_widened : (exit' : List ℕ) → h.version.masks ≡ plain_stride → exit' ≡ plain_rows exit 0 actions ++ drop (table_in h) exit → TableIs bytes h entry exit' c
  table_widened exit' e w =
      let rows = plain_rows exit 0 actions in
      let rest = drop (table_in h) exit in
      let long = rows_long exit 0 actions in
      let count : masks_in h ≡ plain_stride * actions = ap (λ (n : ℕ). n * actions) e in
      tabled exit' (ap (drop (table_in h)) w ∙ drop_at rows rest (table_in h) long) (omega arith)
      (table_plain h.version actions (take (masks_in h) exit) e
      ∙ ap (λ (n : ℕ). plain_rows (take n exit) 0 actions) count
      ∙ rows_front exit actions 0 actions (omega arith)
      ∙ sym (ap (take (table_in h)) w ∙ take_at rows rest (table_in h) long))

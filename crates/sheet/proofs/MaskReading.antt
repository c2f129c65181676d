-- Laws of reading masks one after the other into a row of the table.
use mathlib.Core.Path.{◌≡◌, sym, ap, ◌∙◌, subst}
use mathlib.Core.Logic.{⊎_elim}
use mathlib.Core.List.{List}
use Prim.Native.Nat.{ℕ, ◌+◌, ◌-◌, ◌*◌, ◌≤◌, ◌<◌}
use native.Mathlib.Omega.{arith}
use lib.ListN.{length, get_or, take, drop, set, length-set, length-drop}
use lib.Seq.{take-set-le, drop-set-lt, get_or-take, get_or-drop, length-take-le}
use Rattle.laws.proofs.Truth.{off_on}
use Rattle.laws.proofs.On.{on_none}
use Rattle.meaning.specs.Refusal.{OneLacking, BadMasks}
use Rattle.spelling.specs.Scan.{stretch}
use Rattle.spelling.proofs.Stretch.{length_stretch, run_of, byte_of}
use Rattle.sheet_lines.specs.Masks.{masks_text, mask_pitch, row_width, MaskRow, MaskAt}
use Rattle.sheet_lines.proofs.MaskRow.{mask_in, masks_text_law}
use Rattle.sheet.specs.Acts.{row_at, OnlyRow}
use Rattle.sheet.proofs.Written.{written_more}

-- a mask of a stretch, by its place on the sheet
module _ (bytes : List ℕ) (start end j n : ℕ) (room : mask_pitch * j + 8 ≤ end - start) where
  in_stretch : MaskAt bytes start j n → MaskAt (stretch bytes start end) 0 j n
  in_stretch m =
      let none : 0 + mask_pitch * j ≡ mask_pitch * j = omega arith in
      record {
        word = m.word;
        parted = λ h.
            let back : start + (0 + mask_pitch * j - 1) ≡ start + mask_pitch * j - 1 = omega arith in
            byte_of bytes start end (0 + mask_pitch * j - 1) (omega arith) ∙ ap (λ (k : ℕ). get_or bytes k 0) back ∙ m.parted h;
        shown =
            ap (λ (k : ℕ). take 8 (drop k (stretch bytes start end))) none
            ∙ run_of bytes start end (mask_pitch * j) 8 room
            ∙ m.shown;
      }

  on_sheet : MaskAt (stretch bytes start end) 0 j n → MaskAt bytes start j n
  on_sheet m =
      let none : mask_pitch * j ≡ 0 + mask_pitch * j = omega arith in
      record {
        word = m.word;
        parted = λ h.
            let back : start + mask_pitch * j - 1 ≡ start + (0 + mask_pitch * j - 1) = omega arith in
            ap (λ (k : ℕ). get_or bytes k 0) back ∙ sym (byte_of bytes start end (0 + mask_pitch * j - 1) (omega arith)) ∙ m.parted h;
        shown =
            sym (run_of bytes start end (mask_pitch * j) 8 room)
            ∙ ap (λ (k : ℕ). take 8 (drop k (stretch bytes start end))) none
            ∙ m.shown;
      }

-- a stretch that is the text of so many masks has each of them in its place
pub text_mask :
    (bytes : List ℕ) (start end count j : ℕ) (masks : List ℕ) → end - start ≡ row_width count → j < count → MaskRow count masks
    → stretch bytes start end ≡ masks_text masks → MaskAt bytes start j (get_or masks j 0)
text_mask bytes start end count j masks long l row e =
    on_sheet bytes start end j (get_or masks j 0) (omega arith)
    (subst (λ (v : List ℕ). MaskAt v 0 j (get_or masks j 0)) (sym e) (mask_in masks j (omega (arith, row.long)) row))

-- The first j masks are read into the table's row, and nothing else has changed.
pub record Reading (bytes : List ℕ) (start : ℕ) (entry table : List ℕ) (row count j : ℕ) : Type 0 where
  pub few : j ≤ count
  pub long : length table ≡ length entry
  pub only : OnlyRow row count entry table
  pub done : (k : ℕ) → k < j → MaskAt bytes start k (get_or table (row + k) 0)

pub reading_more :
    (bytes : List ℕ) (start : ℕ) (entry table : List ℕ) (row count j n : ℕ) → row + count ≤ length entry → Reading bytes start entry table row count j
    → j < count → MaskAt bytes start j n → Reading bytes start entry (set table (row + j) n) row count (j + 1)
reading_more bytes start entry table row count j n room r l new =
    let long = r.long in
    record {
      few = omega arith;
      long = length-set table (row + j) n ∙ r.long;
      only =
          record {
            front = take-set-le row table (row + j) n (omega arith) ∙ r.only.front;
            back = drop-set-lt (row + count) table (row + j) n (omega arith) ∙ r.only.back;
          };
      done = written_more (MaskAt bytes start) table row j n (omega arith) r.done new;
    }

-- all are read: the masks are words, and the stretch is their text
row_long : (table : List ℕ) (row count : ℕ) → row + count ≤ length table → length (row_at table row count) ≡ count
row_long table row count room = length-take-le count (drop row table) (omega (arith, length-drop row table))

row_has : (table : List ℕ) (row count i : ℕ) → i < count → get_or (row_at table row count) i 0 ≡ get_or table (row + i) 0
row_has table row count i l = get_or-take count (drop row table) i 0 l ∙ get_or-drop row table i 0

pub reading_done :
    (bytes : List ℕ) (start end : ℕ) (entry table : List ℕ) (row count j : ℕ) → Reading bytes start entry table row count j → count ≤ j → 1 ≤ count
    → row + count ≤ length entry → end ≤ length bytes → end - start ≡ row_width count
    → MaskRow count (row_at table row count) × (stretch bytes start end ≡ masks_text (row_at table row count))
reading_done bytes start end entry table row count j r all some room within long =
    let same = row_long table row count (omega (arith, r.long)) in
    let each : (i : ℕ) → i < count → MaskAt bytes start i (get_or (row_at table row count) i 0) = λ i l.
    subst (MaskAt bytes start i) (sym (row_has table row count i l)) (r.done i (omega arith)) in (
      record { long = same; words = λ i l. (each i (omega (arith, same))).word },
      masks_text_law (row_at table row count) (stretch bytes start end) (omega (arith, same))
          (length_stretch bytes start end within ∙ long ∙ ap row_width (sym same))
          (λ i l. in_stretch bytes start end i (get_or (row_at table row count) i 0) (omega (arith, same)) (each i (omega (arith, same)))),
    )

-- what a list of masks that stands beside no start state lacks
pub lacking_only : (fluents : ℕ) (masks : List ℕ) → BadMasks fluents 0 masks → OneLacking fluents masks
lacking_only fluents masks = ⊎_elim (λ h. absurd (off_on (on_none h.fluent) h.named)) (λ h. h)

-- Laws of masks in hex with commas between: what their text has where.
use mathlib.Core.Path.{◌≡◌, refl, sym, ap, ◌∙◌}
use mathlib.Core.List.{List, [], ◌∷◌, ◌++◌}
use Prim.Native.Nat.{ℕ, zero, suc, ◌+◌, ◌-◌, ◌*◌, ◌<◌}
use native.Mathlib.Omega.{arith}
use lib.ListN.{length, get_or, take, drop, length-append, length-drop, take-append-drop}
use lib.Seq.{drop-cons, drop-drop, drop_at, take_at, get_or-drop, get_or-append-add, ext_get_or}
use Rattle.spelling.specs.Numeral.{hex8}
use Rattle.spelling.proofs.Numeral.{length_numeral, same_number}
use Rattle.sheet_lines.specs.Limits.{comma}
use Rattle.sheet_lines.specs.Masks.{further_text, masks_text, mask_pitch, row_width, MaskRow, MaskAt}

hex_long : (n : ℕ) → length (hex8 n) ≡ 8
hex_long n = length_numeral 16 8 n

-- the masks behind the first: how long their text is, and what it has where
further_long : (masks : List ℕ) → length (further_text masks) ≡ mask_pitch * length masks
unfolding further_text
further_long [] = refl
further_long (m ∷ masks) = omega (arith, length-append (hex8 m) (further_text masks), hex_long m, further_long masks)

pub masks_long : (masks : List ℕ) → length (masks_text masks) ≡ row_width (length masks)
unfolding masks_text
masks_long [] = refl
masks_long (m ∷ masks) = omega (arith, length-append (hex8 m) (further_text masks), hex_long m, further_long masks)

-- a comma and a mask at a place
record Parted (v : List ℕ) (at n : ℕ) : Type 0 where
  parted : get_or v at 0 ≡ comma
  shown : take 8 (drop (at + 1) v) ≡ hex8 n

further_in : (masks : List ℕ) (j : ℕ) → j < length masks → Parted (further_text masks) (mask_pitch * j) (get_or masks j 0)
unfolding further_text
further_in [] j l = absurd (omega arith)
further_in (m ∷ masks) zero l = record { parted = refl; shown = take_at (hex8 m) (further_text masks) 8 (hex_long m) }
further_in (m ∷ masks) (suc j) l =
    let rest = further_in masks j (omega arith) in
    let next : mask_pitch * suc j ≡ 9 + mask_pitch * j = omega arith in
    let long : length (comma ∷ hex8 m) ≡ 9 = omega (arith, hex_long m) in
    record {
      parted =
          ap (λ (n : ℕ). get_or (further_text (m ∷ masks)) n 0) (next ∙ ap (λ (n : ℕ). n + mask_pitch * j) (sym long))
          ∙ get_or-append-add (comma ∷ hex8 m) (further_text masks) (mask_pitch * j) 0
          ∙ rest.parted;
      shown =
          ap (λ (n : ℕ). take 8 (drop n (further_text (m ∷ masks)))) (let n : mask_pitch * suc j + 1 ≡ 9 + (mask_pitch * j + 1) = omega arith in n)
          ∙ ap (take 8) (sym (drop-drop (mask_pitch * j + 1) 9 (further_text (m ∷ masks))) ∙ ap (drop (mask_pitch * j + 1)) (drop_at (comma ∷ hex8 m) (further_text masks) 9 long))
          ∙ rest.shown;
    }

-- each mask of a row in its place, with the comma before it
comma_in : (masks : List ℕ) (j : ℕ) → j < length masks → 0 < j → get_or (masks_text masks) (0 + mask_pitch * j - 1) 0 ≡ comma
unfolding masks_text
comma_in [] j l h = absurd (omega arith)
comma_in (m ∷ masks) zero l h = absurd (omega arith)
comma_in (m ∷ masks) (suc j) l h =
    let back : 0 + mask_pitch * suc j - 1 ≡ 8 + mask_pitch * j = omega arith in
    ap (λ (n : ℕ). get_or (hex8 m ++ further_text masks) n 0) (back ∙ ap (λ (n : ℕ). n + mask_pitch * j) (sym (hex_long m)))
    ∙ get_or-append-add (hex8 m) (further_text masks) (mask_pitch * j) 0
    ∙ (further_in masks j (omega arith)).parted

shown_in : (masks : List ℕ) (j : ℕ) → j < length masks → take 8 (drop (0 + mask_pitch * j) (masks_text masks)) ≡ hex8 (get_or masks j 0)
unfolding masks_text
shown_in [] j l = absurd (omega arith)
shown_in (m ∷ masks) zero l = take_at (hex8 m) (further_text masks) 8 (hex_long m)
shown_in (m ∷ masks) (suc j) l =
    let next : 0 + mask_pitch * suc j ≡ 8 + (mask_pitch * j + 1) = omega arith in
    ap (λ (n : ℕ). take 8 (drop n (hex8 m ++ further_text masks))) next
    ∙ ap (take 8) (sym (drop-drop (mask_pitch * j + 1) 8 (hex8 m ++ further_text masks)) ∙ ap (drop (mask_pitch * j + 1)) (drop_at (hex8 m) (further_text masks) 8 (hex_long m)))
    ∙ (further_in masks j (omega arith)).shown

pub mask_in : {count : ℕ} (masks : List ℕ) (j : ℕ) → j < length masks → MaskRow count masks → MaskAt (masks_text masks) 0 j (get_or masks j 0)
mask_in masks j l row = record { word = row.words j l; parted = λ h. comma_in masks j l h; shown = shown_in masks j l }

-- and back: bytes that have each mask in its place are the text of the masks
none_left : (v : List ℕ) → length v ≡ 0 → v ≡ []
none_left [] e = refl
none_left (x ∷ v) e = absurd (omega arith)

further_text_law :
    (masks v : List ℕ) → length v ≡ mask_pitch * length masks
    → ((j : ℕ) → j < length masks → Parted v (mask_pitch * j) (get_or masks j 0)) → v ≡ further_text masks
unfolding further_text
further_text_law [] v long each = none_left v long
further_text_law (m ∷ masks) v long each =
    let first = each 0 (omega arith) in
    drop-cons v 0 0 (omega arith)
    ∙ ap (λ (b : ℕ). b ∷ drop 1 v) first.parted
    ∙ ap (λ (l : List ℕ). comma ∷ l)
    (sym (take-append-drop 8 (drop 1 v))
    ∙ ap (λ (l : List ℕ). l ++ drop 8 (drop 1 v)) first.shown
    ∙ ap (λ (l : List ℕ). hex8 m ++ l)
    (drop-drop 8 1 v
    ∙ further_text_law masks (drop 9 v) (omega (arith, length-drop 9 v))
    (λ j l.
    let next = each (suc j) (omega arith) in
    let up : mask_pitch * suc j ≡ 9 + mask_pitch * j = omega arith in
    let up' : mask_pitch * suc j + 1 ≡ 9 + (mask_pitch * j + 1) = omega arith in
    record {
      parted = get_or-drop 9 v (mask_pitch * j) 0 ∙ ap (λ (n : ℕ). get_or v n 0) (sym up) ∙ next.parted;
      shown = ap (take 8) (drop-drop (mask_pitch * j + 1) 9 v ∙ ap (λ (n : ℕ). drop n v) (sym up')) ∙ next.shown;
    })))

pub masks_text_law :
    (masks v : List ℕ) → 0 < length masks → length v ≡ row_width (length masks)
    → ((j : ℕ) → j < length masks → MaskAt v 0 j (get_or masks j 0)) → v ≡ masks_text masks
unfolding masks_text
masks_text_law [] v some long each = absurd (omega arith)
masks_text_law (m ∷ masks) v some long each =
    sym (take-append-drop 8 v)
    ∙ ap (λ (l : List ℕ). l ++ drop 8 v) (each 0 (omega arith)).shown
    ∙ ap (λ (l : List ℕ). hex8 m ++ l)
    (further_text_law masks (drop 8 v) (omega (arith, length-drop 8 v))
    (λ j l.
    let next = each (suc j) (omega arith) in
    let comma-at : 8 + mask_pitch * j ≡ 0 + mask_pitch * suc j - 1 = omega arith in
    let mask : 8 + (mask_pitch * j + 1) ≡ 0 + mask_pitch * suc j = omega arith in
    record {
      parted = get_or-drop 8 v (mask_pitch * j) 0 ∙ ap (λ (n : ℕ). get_or v n 0) comma-at ∙ next.parted (omega arith);
      shown = ap (take 8) (drop-drop (mask_pitch * j + 1) 8 v ∙ ap (λ (n : ℕ). drop n v) mask) ∙ next.shown;
    }))

-- a text of masks has one row
pub same_masks : (count : ℕ) (a b : List ℕ) → MaskRow count a → MaskRow count b → masks_text a ≡ masks_text b → a ≡ b
same_masks count a b ra rb e =
    ext_get_or 0 a b (ra.long ∙ sym rb.long)
    (λ j l.
    let m : j < length b = omega (arith, ra.long, rb.long) in
    same_number 16 8 (get_or a j 0) (get_or b j 0) (omega arith) (omega arith) (ra.words j l) (rb.words j m)
    (sym (mask_in a j l ra).shown ∙ ap (λ (l : List ℕ). take 8 (drop (0 + mask_pitch * j) l)) e ∙ (mask_in b j m rb).shown))

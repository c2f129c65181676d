-- Laws of finding a line: its key opens it and the first LF ends it, or there is none.
use mathlib.Core.Path.{◌≡◌, sym, ap, ◌∙◌}
use mathlib.Core.List.{List, ◌∷◌, ◌++◌}
use Prim.Native.Nat.{ℕ, suc, ◌+◌, ◌-◌, ◌≤◌, ◌<◌}
use native.Mathlib.Omega.{arith}
use lib.ListN.{length, get_or, drop, length-append, length-drop, take-append-drop}
use lib.Seq.{drop-cons, drop-append_seam, get_or-append_seam, get_or-take, get_or-drop, drop-drop}
use Rattle.spelling.specs.Numeral.{lf}
use Rattle.sheet_lines.specs.Line.{Line, NoLine}
use Rattle.spelling.specs.Scan.{stretch, FirstLf}
use Rattle.spelling.proofs.Stretch.{length_stretch}

-- what follows a key that stands at a place
rest_is : (bytes key rest : List ℕ) (at : ℕ) → drop at bytes ≡ key ++ rest → rest ≡ drop (at + length key) bytes
rest_is bytes key rest at e =
    sym (drop-append_seam key rest) ∙ ap (drop (length key)) (sym e) ∙ drop-drop (length key) at bytes

pub no_key : (bytes key : List ℕ) (at : ℕ) → (drop at bytes ≡ key ++ drop (at + length key) bytes → ⊥) → NoLine key bytes at
no_key bytes key at never value line =
    never (line.opens ∙ ap (λ (l : List ℕ). key ++ l) (rest_is bytes key (value ++ (lf ∷ line.after)) at line.opens))

-- the LF of a line stands right after its value
lf_there :
    (bytes key value : List ℕ) (at : ℕ) (l : Line key bytes at value) → get_or bytes (at + length key + length value) 0 ≡ lf
lf_there bytes key value at l =
    sym (get_or-drop (at + length key) bytes (length value) 0)
    ∙ ap (λ (l : List ℕ). get_or l (length value) 0) (sym (rest_is bytes key (value ++ (lf ∷ l.after)) at l.opens))
    ∙ get_or-append_seam value lf l.after 0

line_room : (bytes key value : List ℕ) (at : ℕ) → Line key bytes at value → at + length key + length value < length bytes
line_room bytes key value at l =
    let e = simp (length-drop, length-append) at (ap length l.opens) in
    omega (arith, e)

pub no_lf : (bytes key : List ℕ) (at end : ℕ) → FirstLf bytes (at + length key) end → length bytes ≤ end → NoLine key bytes at
no_lf bytes key at end first none value l =
    let room = line_room bytes key value at l in
    first.passed (at + length key + length value) (omega arith) (omega arith) (lf_there bytes key value at l)

-- a stretch up to an LF, cut off
cut : (bytes : List ℕ) (start end : ℕ) → start ≤ end → end < length bytes → drop start bytes ≡ stretch bytes start end ++ (get_or bytes end 0 ∷ drop (suc end) bytes)
cut bytes start end onward within =
    let back : start + (end - start) ≡ end = omega arith in
    sym (take-append-drop (end - start) (drop start bytes))
    ∙ ap (λ (l : List ℕ). stretch bytes start end ++ l)
    (drop-drop (end - start) start bytes ∙ ap (λ (n : ℕ). drop n bytes) back ∙ drop-cons bytes end 0 within)

pub found_line :
    (bytes key : List ℕ) (at end : ℕ) → drop at bytes ≡ key ++ drop (at + length key) bytes → FirstLf bytes (at + length key) end
    → end < length bytes → Line key bytes at (stretch bytes (at + length key) end)
found_line bytes key at end opens first within =
    record {
      after = drop (suc end) bytes;
      opens =
          opens
          ∙ ap (λ (l : List ℕ). key ++ l) (cut bytes start end first.onward within)
          ∙ ap (λ (b : ℕ). key ++ (stretch bytes start end ++ (b ∷ drop (suc end) bytes))) (first.found within);
      ends = λ i l e.
          let short : i < end - start = omega (arith, length_stretch bytes start end first.within) in
          first.passed (start + i) (omega arith) (omega arith)
          (sym (get_or-take (end - start) (drop start bytes) i 0 short ∙ get_or-drop start bytes i 0) ∙ e);
    }
  where
    start : ℕ
    start = at + length key

-- Laws of a number of two digits behind a sign. No code.
use mathlib.Core.Path.{◌≡◌, sym, ap, ◌∙◌}
use mathlib.Core.List.{List, ◌∷◌, ◌++◌}
use Prim.Native.Nat.{ℕ, ◌+◌, ◌/◌, ◌%◌, ◌<◌}
use native.Mathlib.Nat.{add-zero}
use native.Mathlib.Omega.{arith}
use lib.ListN.{length, drop, get_or, length-drop}
use lib.Seq.{drop-drop, drop-append_seam, get_or-drop}
use Rattle.meaning.specs.Limits.{number_limit}
use Rattle.meaning.specs.Rule.{digits}
use Rattle.std.specs.Prelude.{Some}
use Rattle.spelling.specs.Scan.{NumberAt}

-- the byte at a place, and what follows the bytes there
pub byte : (bytes : List ℕ) (at : ℕ) {b : ℕ} {ys : List ℕ} → drop at bytes ≡ b ∷ ys → get_or bytes at 0 ≡ b
byte bytes at e = ap (λ (i : ℕ). get_or bytes i 0) (sym (add-zero at)) ∙ sym (get_or-drop at bytes 0 0) ∙ ap (λ (l : List ℕ). get_or l 0 0) e

pub after_part_law : (bytes part rest : List ℕ) (at : ℕ) → drop at bytes ≡ part ++ rest → drop (at + length part) bytes ≡ rest
after_part_law bytes part rest at e = sym (drop-drop (length part) at bytes) ∙ ap (drop (length part)) e ∙ drop-append_seam part rest

-- where the two digits of a number are spelled it stands; and what stands there then
pub number_there : (bytes : List ℕ) (at n : ℕ) (rest : List ℕ) → n < number_limit → drop at bytes ≡ digits n ++ rest → NumberAt bytes at (Some n)
number_there bytes at n rest h e = (h, e ∙ ap (λ (l : List ℕ). digits n ++ l) (sym (after_part_law bytes (digits n) rest at e)))

module _ (bytes : List ℕ) (at n : ℕ) (h : NumberAt bytes at (Some n)) where
  pub number_inside : at + 1 < length bytes
  number_inside = omega (arith, length-drop at bytes, ap length h.1)

  pub number_tens : get_or bytes at 0 ≡ 48 + n / 10
  number_tens = byte bytes at h.1

  pub number_ones : get_or bytes (at + 1) 0 ≡ 48 + n % 10
  number_ones = byte bytes (at + 1) (sym (drop-drop 1 at bytes) ∙ ap (drop 1) h.1)

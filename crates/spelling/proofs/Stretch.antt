-- Laws of a stretch of a text: its length, and a byte and a run of bytes of it by their place in the text.
use mathlib.Core.Path.{◌≡◌, refl, ap, ◌∙◌}
use mathlib.Core.List.{List, [], ◌∷◌}
use Prim.Native.Nat.{ℕ, zero, suc, ◌+◌, ◌-◌, ◌≤◌, ◌<◌}
use native.Mathlib.Omega.{arith}
use lib.ListN.{length, get_or, take, drop, length-drop}
use lib.Seq.{length-take-le, take-take, take_all, drop-drop, get_or-take, get_or-drop}
use Rattle.spelling.specs.Scan.{stretch}

pub length_stretch : (bytes : List ℕ) (start end : ℕ) → end ≤ length bytes → length (stretch bytes start end) ≡ end - start
length_stretch bytes start end within = length-take-le (end - start) (drop start bytes) (omega (arith, length-drop start bytes))

-- what is left from a place on
pub to_the_end : (bytes : List ℕ) (at : ℕ) → take (length bytes - at) (drop at bytes) ≡ drop at bytes
to_the_end bytes at = take_all (length bytes - at) (drop at bytes) (omega (arith, length-drop at bytes))

-- a run of bytes within the first n
within_first : (size from n : ℕ) (l : List ℕ) → from + size ≤ n → take size (drop from (take n l)) ≡ take size (drop from l)
within_first size zero n l h = take-take size n l (omega arith)
within_first size (suc from) zero l h = absurd (omega arith)
within_first size (suc from) (suc n) [] h = refl
within_first size (suc from) (suc n) (x ∷ l) h = within_first size from n l (omega arith)

pub run_of : (bytes : List ℕ) (start end from size : ℕ) → from + size ≤ end - start
    → take size (drop from (stretch bytes start end)) ≡ take size (drop (start + from) bytes)
run_of bytes start end from size h =
    within_first size from (end - start) (drop start bytes) h ∙ ap (take size) (drop-drop from start bytes)

pub byte_of : (bytes : List ℕ) (start end i : ℕ) → i < end - start → get_or (stretch bytes start end) i 0 ≡ get_or bytes (start + i) 0
byte_of bytes start end i h = get_or-take (end - start) (drop start bytes) i 0 h ∙ get_or-drop start bytes i 0

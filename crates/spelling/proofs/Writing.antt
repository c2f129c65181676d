-- Laws of writing: what one writer leaves and what the next one adds is one text. Knows bytes alone.
use mathlib.Core.Path.{◌≡◌, refl, sym, ap, subst, ◌∙◌}
use mathlib.Core.List.{List, [], ◌∷◌, ◌++◌}
use Prim.Native.Nat.{ℕ, suc, ◌+◌, ◌<◌, ◌≤◌}
use native.Mathlib.Nat.{add-zero, zero-add, add-suc, suc-add}
use native.Mathlib.Numerals.{add-one}
use native.Mathlib.Omega.{arith}
use lib.ListN.{length, get_or, take, drop, set, length-append}
use lib.Seq.{sets, sets-eq, length-sets, take-suc}
use Rattle.spelling.specs.Wrote.{Wrote}

sets_append : (l : List ℕ) (i : ℕ) (xs ys : List ℕ) → sets l i (xs ++ ys) ≡ sets (sets l i xs) (i + length xs) ys
sets_append l i [] ys = rw add-zero
sets_append l i (x ∷ xs) ys = sets_append (set l i x) (suc i) xs ys ∙ rw (suc-add, add-suc)

pub wrote_nothing : (out : List ℕ) (to : ℕ) → Wrote out to [] out to
wrote_nothing out to = record { stands = refl; onward = sym (add-zero to) }

pub wrote_then : {a b c xs ys : List ℕ} {i j k : ℕ} → Wrote a i xs b j → Wrote b j ys c k → Wrote a i (xs ++ ys) c k
wrote_then {a} {b} {c} {xs} {ys} {i} {j} {k} v w = record {
  stands = w.stands ∙ rw (v.stands, v.onward, sets_append a i xs ys);
  onward = simp length-append (omega (arith, v.onward, w.onward));
}

-- the output keeps its length
pub wrote_length : {a b text : List ℕ} {i n : ℕ} → Wrote a i text b n → length b ≡ length a
wrote_length {a} {b} {text} {i} w = ap length w.stands ∙ length-sets a i text

-- the same text, said otherwise
pub wrote_as : {a b xs ys : List ℕ} {i j : ℕ} → xs ≡ ys → Wrote a i xs b j → Wrote a i ys b j
wrote_as {a} {b} {i = i} {j = j} e w = subst (λ zs. Wrote a i zs b j) e w

-- one byte more of a text
pub wrote_byte : (text : List ℕ) (n : ℕ) {a b c : List ℕ} {i j k : ℕ} → n < length text
    → Wrote a i (take n text) b j → Wrote b j (get_or text n 0 ∷ []) c k → Wrote a i (take (n + 1) text) c k
wrote_byte text n h v w = wrote_as (rw (add-one, take-suc text n 0)) (wrote_then v w)

-- a text from the front on: the rest keeps its content
pub wrote_front : {a b text : List ℕ} {n : ℕ} → length text ≤ length a → Wrote a 0 text b n → (b ≡ text ++ drop (length text) a) × (n ≡ length text)
wrote_front {a} {b} {text} {n} fits w =
    (w.stands ∙ sets-eq text a 0 (omega arith) ∙ rw zero-add, omega (arith, w.onward))

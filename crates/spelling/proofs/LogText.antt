-- Laws of actions as two digits each: how long their text is, what it has where, and that it is the text of one list.
use mathlib.Core.Path.{◌≡◌, refl, sym, ap, ◌∙◌}
use mathlib.Core.List.{List, [], ◌∷◌, ◌++◌, append_assoc}
use Prim.Native.Nat.{ℕ, zero, suc, ◌+◌, ◌*◌, ◌<◌}
use native.Mathlib.Numerals.{add-one}
use native.Mathlib.Omega.{arith}
use lib.ListN.{length, get_or, take, drop}
use lib.Seq.{take-suc, ext_get_or}
use Rattle.meaning.specs.Rule.{digits}
use Rattle.spelling.specs.Numeral.{log_text}
use Rattle.spelling.proofs.TwoDigits.{same_digits}

pub log_long : (log : List ℕ) → length (log_text log) ≡ 2 * length log
unfolding log_text
log_long [] = refl
log_long (a ∷ log) = omega (arith, log_long log)

-- each action in its place
pub step_in : (log : List ℕ) (i : ℕ) → i < length log → take 2 (drop (2 * i) (log_text log)) ≡ digits (get_or log i 0)
unfolding log_text
step_in [] i l = absurd (omega arith)
step_in (a ∷ log) zero l = refl
step_in (a ∷ log) (suc i) l =
    let next : 2 * suc i ≡ suc (suc (2 * i)) = omega arith in
    ap (λ (n : ℕ). take 2 (drop n (log_text (a ∷ log)))) next ∙ step_in log i (omega arith)

pub log_append : (xs ys : List ℕ) → log_text (xs ++ ys) ≡ log_text xs ++ log_text ys
unfolding log_text
log_append [] ys = refl
log_append (x ∷ xs) ys = rw (log_append xs ys, append_assoc)

-- one action more
pub one_more : (log : List ℕ) (i : ℕ) → i < length log → log_text (take i log) ++ digits (get_or log i 0) ≡ log_text (take (i + 1) log)
unfolding log_text
one_more log i h = rw (add-one, take-suc log i 0, log_append)

-- a text is that of one list
pub same_log : (a b : List ℕ) → log_text a ≡ log_text b → a ≡ b
same_log a b e =
    let long : length a ≡ length b = omega (arith, sym (log_long a) ∙ ap length e ∙ log_long b) in
    ext_get_or 0 a b long
    (λ i l.
    same_digits (get_or a i 0) (get_or b i 0)
    (sym (step_in a i l) ∙ ap (λ (l : List ℕ). take 2 (drop (2 * i) l)) e ∙ step_in b i (omega arith)))

-- Laws of the log and its states: what one step more or other steps later change, and that a state stays within its bits. Knows of an effect only its
-- size.
use mathlib.Core.Path.{◌≡◌, refl, sym, ◌∙◌, ap, ap₂}
use mathlib.Core.List.{List, [], ◌∷◌, ◌++◌}
use mathlib.Core.Option.{none, some, none-ne-some}
use Prim.Native.Nat.{ℕ, zero, suc, ◌+◌, ◌^◌, ◌≤◌, ◌<◌}
use native.Mathlib.Numerals.{add-one}
use native.Mathlib.Omega.{arith}
use lib.ListN.{length, take, get_or, get_elem?}
use lib.Seq.{take-suc, take-append-le, take-length, take-take}
use Rattle.laws.proofs.Gather.{gather_lt}
use Rattle.meaning.specs.Limits.{fluent_limit}
use Rattle.meaning.specs.Theory.{Masks, World, after, relog, run, state_before, step_at}

-- the element at a place within the list, beyond it, in the front of the list, and where two lists meet
pub get_elem_get_d : (l : List ℕ) (p : ℕ) → p < length l → get_elem? l p ≡ some (get_or l p 0)
get_elem_get_d [] p h = absurd (omega arith)
get_elem_get_d (x ∷ l) zero h = refl
get_elem_get_d (x ∷ l) (suc p) h = get_elem_get_d l p (omega arith)

pub get_elem_beyond : (l : List ℕ) (p : ℕ) → length l ≤ p → get_elem? l p ≡ none
get_elem_beyond [] p h = refl
get_elem_beyond (x ∷ l) zero h = absurd (omega arith)
get_elem_beyond (x ∷ l) (suc p) h = get_elem_beyond l p (omega arith)

pub get_elem_within : (l : List ℕ) (p a : ℕ) → get_elem? l p ≡ some a → p < length l
get_elem_within [] p a e = let z : ◌≡◌ {A = ℕ} 0 1 = cc in absurd (omega arith)
get_elem_within (x ∷ l) zero a e = omega arith
get_elem_within (x ∷ l) (suc p) a e = omega (arith, get_elem_within l p a e)

pub get_elem_take : (n : ℕ) (l : List ℕ) (p : ℕ) → p < n → get_elem? (take n l) p ≡ get_elem? l p
get_elem_take zero l p h = absurd (omega arith)
get_elem_take (suc n) [] p h = refl
get_elem_take (suc n) (x ∷ l) zero h = refl
get_elem_take (suc n) (x ∷ l) (suc p) h = get_elem_take n l p (omega arith)

pub get_elem_append : (l more : List ℕ) (p : ℕ) → p < length l → get_elem? (l ++ more) p ≡ get_elem? l p
get_elem_append [] more p h = absurd (omega arith)
get_elem_append (x ∷ l) more zero h = refl
get_elem_append (x ∷ l) more (suc p) h = get_elem_append l more p (omega arith)

pub get_elem_seam : (l : List ℕ) (a : ℕ) (rest : List ℕ) → get_elem? (l ++ a ∷ rest) (length l) ≡ some a
get_elem_seam [] a rest = refl
get_elem_seam (x ∷ l) a rest = get_elem_seam l a rest

-- one log after another
pub run_append : (masks : ℕ → Masks) (state : ℕ) (xs ys : List ℕ) → run masks state (xs ++ ys) ≡ run masks (run masks state xs) ys
unfolding run
run_append masks state [] ys = refl
run_append masks state (x ∷ xs) ys = run_append masks (after (masks x) state) xs ys

-- "each step applies its effects": from a position to the next
pub state_step : (w : World) (p : ℕ) → p < length w.log → state_before w (p + 1) ≡ after (w.masks (get_or w.log p 0)) (state_before w p)
unfolding run
state_step w p h = rw (add-one, take-suc w.log p 0 h, run_append)

pub state_logged : (w : World) (p a : ℕ) → step_at w p ≡ some a → state_before w (p + 1) ≡ after (w.masks a) (state_before w p)
state_logged w p a e =
    let h : p < length w.log = get_elem_within w.log p a e in
    let same : get_or w.log p 0 ≡ a = cc (get_elem_get_d w.log p h) in
    state_step w p h ∙ ap (λ b. after (w.masks b) (state_before w p)) same

-- "State 0 is the start state", and the last one is that of the whole log
pub state_start : (w : World) → state_before w 0 ≡ w.start
unfolding run
state_start w = refl

pub state_end : (w : World) → state_before w (length w.log) ≡ run w.masks w.start w.log
state_end w = rw take-length

-- lists that agree in their first n elements agree in fewer
pub take_below : (l l' : List ℕ) (p n : ℕ) → p ≤ n → take n l ≡ take n l' → take p l ≡ take p l'
take_below l l' p n h e = sym (take-take p n l h) ∙ ap (take p) e ∙ take-take p n l' h

-- and lists with the same elements before n do
pub same_front : (n : ℕ) (l l' : List ℕ) → ((p : ℕ) → p < n → get_elem? l p ≡ get_elem? l' p) → take n l ≡ take n l'
same_front zero l l' e = refl
same_front (suc n) [] [] e = refl
same_front (suc n) [] (y ∷ l') e = absurd (none-ne-some y (e 0 (omega arith)))
same_front (suc n) (x ∷ l) [] e = absurd (none-ne-some x (sym (e 0 (omega arith))))
same_front (suc n) (x ∷ l) (y ∷ l') e =
    let first : some x ≡ some y = e 0 (omega arith) in
    let head : x ≡ y = cc in
    ap₂ {C = List ℕ} (λ a b. a ∷ b) head (same_front n l l' (λ p h. e (suc p) (omega arith)))

-- a position's state depends on the steps before it alone, and a step on itself
pub state_cut : (w : World) (l l' : List ℕ) (p n : ℕ) → take n l ≡ take n l' → p ≤ n → state_before (relog w l) p ≡ state_before (relog w l') p
state_cut w l l' p n e h = ap (run w.masks w.start) (take_below l l' p n h e)

pub step_cut : (w : World) (l l' : List ℕ) (p n : ℕ) → take n l ≡ take n l' → p < n → step_at (relog w l) p ≡ step_at (relog w l') p
step_cut w l l' p n e h = sym (get_elem_take n l p h) ∙ ap (λ k. get_elem? k p) e ∙ get_elem_take n l' p h

pub state_longer : (w : World) (more : List ℕ) (p : ℕ) → p ≤ length w.log → state_before (relog w (w.log ++ more)) p ≡ state_before w p
state_longer w more p h = rw take-append-le

-- "A state is a 32-bit number": each effect keeps it one
pub after_lt : (m : Masks) (state : ℕ) → after m state < 2 ^ fluent_limit
unfolding after
after_lt m state = gather_lt fluent_limit _

pub run_lt : (masks : ℕ → Masks) (state : ℕ) (l : List ℕ) → state < 2 ^ fluent_limit → run masks state l < 2 ^ fluent_limit
unfolding run
run_lt masks state [] h = h
run_lt masks state (a ∷ l) h = run_lt masks (after (masks a) state) l (after_lt (masks a) state)

pub state_lt : (w : World) (p : ℕ) → w.start < 2 ^ fluent_limit → state_before w p < 2 ^ fluent_limit
state_lt w p h = run_lt w.masks w.start (take p w.log) h

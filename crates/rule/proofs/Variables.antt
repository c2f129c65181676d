-- Laws of what is known of a letter that was found, and of sets of variables, a bit each. No code.
use mathlib.Core.Path.{◌≡◌, refl, sym, ap, ◌∙◌}
use mathlib.Core.Logic.{◌↔◌}
use mathlib.Core.Bool.{Bool, true, false, not, ◌&&◌, ◌||◌, and-or_distrib_left}
use mathlib.Core.List.{List, [], ◌∷◌}
use Prim.Native.Nat.{ℕ, ◌+◌, ◌-◌, ◌^◌, ◌<◌}
use native.Mathlib.Omega.{arith}
use borrow.Author.Tests.{ne_eqb, lt-ltb, ltb-true}
use lib.Bits.{bit_and, bit_or}
use lib.Dec.{eqb, ltb}
use lib.ListN.{length, drop}
use Rattle.std.specs.Prelude.{None}
use Rattle.laws.specs.Bit.{on, gather}
use Rattle.laws.proofs.Truth.{off_on, and_iff}
use Rattle.laws.proofs.On.{same_bits, on_none}
use Rattle.laws.proofs.Bitwise.{on_and, on_or}
use Rattle.laws.proofs.Shift.{on_not, on_pow}
use Rattle.laws.proofs.Gather.{on_gather, gather_cong}
use Rattle.laws.proofs.First.{first_some}
use Rattle.meaning.specs.Rule.{Variable, var_v, var_w, var_x, var_y, letter, is_variable, Rule, free_in}
use Rattle.meaning.specs.Refusal.{Unbound}
use Rattle.meaning.proofs.Reading.Shapes.{got, bad, read_variable, variable_complete}
use Rattle.spelling.proofs.TwoDigits.{here}
use Rattle.grammar.specs.Letters.{variables, variable_meant, place, Lettered, LetterAt}
use Rattle.rule.specs.Facts.{free_set}
use Rattle.grammar.proofs.Lettering.{place_low, at_place, same_place}

-- what the reader of lists finds there
pub letter_read : (bytes : List ℕ) (at : ℕ) (v : Variable) → Lettered bytes at v → read_variable (drop at bytes) ≡ got v (drop (at + 1) bytes)
letter_read bytes at v e = ap read_variable e ∙ variable_complete v (drop (at + 1) bytes)

none_read : (l : List ℕ) → ((v : Variable) (rest : List ℕ) → l ≡ letter v ∷ rest → ⊥) → read_variable l ≡ bad
unfolding read_variable
none_read [] none = refl
none_read (b ∷ l) none =
    let other : (v : Variable) → eqb b (letter v) ≡ false = λ v. ne_eqb b (letter v) (λ e. none v l (ap (λ (x : ℕ). x ∷ l) e)) in
    simp (other var_v, other var_w, other var_x, other var_y)

pub letter_unread : (bytes : List ℕ) (at : ℕ) → LetterAt bytes at None → read_variable (drop at bytes) ≡ bad
letter_unread bytes at none = none_read (drop at bytes) none

-- Sets of variables.
abbrev set_of : (Variable → Bool) → ℕ
set_of f = gather (length variables) (λ i. f (variable_meant i))

pub alone : (v : Variable) → 2 ^ place v ≡ set_of (is_variable v)
unfolding gather
alone var_v = refl
alone var_w = refl
alone var_x = refl
alone var_y = refl

-- two together
pub joined : (f g : Variable → Bool) → bit_or (set_of f) (set_of g) ≡ set_of (λ v. f v || g v)
joined f g = same_bits _ _ (λ i.
    rw (on_or, on_gather, on_gather, on_gather) (sym (and-or_distrib_left (ltb i (length variables)) (f (variable_meant i)) (g (variable_meant i)))))

-- one taken off
pub taken_off : (v : Variable) (f : Variable → Bool) → bit_and (set_of f) (2 ^ 8 - 1 - 2 ^ place v) ≡ set_of (λ u. not (is_variable v u) && f u)
taken_off v f = same_bits _ _ (λ i.
    rw (on_and, on_not 8 (small v), on_pow, on_gather, on_gather)
    (go (ltb i (length variables)) refl (ltb i 8) (eqb i (place v)) (is_variable v (variable_meant i)) (f (variable_meant i)) (λ e. lt-ltb i 8 (omega (arith, ltb-true i (length variables) e))) (λ e. same_place v i (ltb-true i (length variables) e))))
  where
    small : (u : Variable) → 2 ^ place u < 2 ^ 8
    small var_v = omega arith
    small var_w = omega arith
    small var_x = omega arith
    small var_y = omega arith

    go : {b : Bool} (low : Bool) → b ≡ low → (short taken same here : Bool) → (b ≡ true → short ≡ true) → (b ≡ true → same ≡ taken)
        → ((low && here) && (short && not taken)) ≡ (low && (not same && here))
    go true e short taken same here p q = rw (p e, q e) (swap here (not taken))
      where
        swap : (x y : Bool) → (x && y) ≡ (y && x)
        swap true true = refl
        swap true false = refl
        swap false true = refl
        swap false false = refl
    go false e short taken same here p q = refl

-- some variable stands free where the set is not empty
module _ (r : Rule) where
  abbrev free : ℕ → Bool
  free i = free_in (variable_meant i) r

  none_free : ((i : ℕ) → i < length variables → free i ≡ false) → free_set r ≡ 0
  unfolding gather
  none_free all = gather_cong (length variables) {f = free} {g = λ i. false} all

  free_held : (u : Unbound r) → on (free_set r) (place u.variable) ≡ true
  free_held u =
      let i = place u.variable in
      let low = lt-ltb i (length variables) (place_low u.variable) in
      on_gather (length variables) free i ∙ (and_iff (ltb i (length variables)) (free i)).1 (low, ap (λ v. free_in v r) (at_place u.variable) ∙ u.free)

  pub some_free : (0 < free_set r) ↔ Unbound r
  some_free = (
    λ h.
        let (i, low, e) = first_some (length variables) free (λ all. omega (arith, none_free all)) in
        record { variable = variable_meant i; free = e },
    λ u.
        let some : free_set r ≡ 0 → ⊥ = λ e. off_on (on_none (place u.variable)) (sym (ap (λ (n : ℕ). on n (place u.variable)) e) ∙ free_held u) in
        omega (arith, some),
  )

-- Tests that compute and tell a statement: true exactly when it holds. Joined by and, or, not, by a range of numbers. Knows nothing of rules.
use mathlib.Core.Path.{◌≡◌, refl, subst, subst⁻¹}
use mathlib.Core.Logic.{◌↔◌, ◌⊎◌, inl, inr, ⊎_elim}
use mathlib.Core.Bool.{Bool, true, false, not, ◌&&◌, ◌||◌, true≢false, false≢true}
use mathlib.Core.List.{List, [], ◌∷◌, nil≢cons, cons≢nil}
use Prim.Native.Nat.{ℕ, zero, suc, ◌≤◌, ◌<◌}
use native.Mathlib.Nat.{eq-or-lt_of_le, le_of_suc-le-suc}
use native.Mathlib.Omega.{arith}
use lib.Dec.{eqb, leb, ltb}
use borrow.Author.Tests.{eqb-true, eq-eqb, leb-true, le-leb, ltb-true, lt-ltb}
use Rattle.laws.specs.Bit.{all_below}

abbrev pub Tells : Bool → Type 0 → Type 0
Tells b X = (b ≡ true) ↔ X

pub true_tells : {X : Type 0} → X → Tells true X
true_tells x = (λ e. x, λ y. refl)

pub false_tells : {X : Type 0} → ¬ X → Tells false X
false_tells f = (λ e. absurd (false≢true e), λ x. absurd (f x))

pub eq_tells : (m n : ℕ) → Tells (eqb m n) (m ≡ n)
eq_tells m n = (eqb-true m n, eq-eqb m n)

pub le_tells : (m n : ℕ) → Tells (leb m n) (m ≤ n)
le_tells m n = (leb-true m n, le-leb m n)

pub lt_tells : (m n : ℕ) → Tells (ltb m n) (m < n)
lt_tells m n = (ltb-true m n, lt-ltb m n)

pub and_tells : {a b : Bool} {X Y : Type 0} → Tells a X → Tells b Y → Tells (a && b) (X × Y)
and_tells {a = true} f g = (λ e. (f.0 refl, g.0 e), λ h. g.1 h.1)
and_tells {a = false} f g = false_tells (λ h. false≢true (f.1 h.0))

pub or_tells : {a b : Bool} {X Y : Type 0} → Tells a X → Tells b Y → Tells (a || b) (X ⊎ Y)
or_tells {a = true} f g = true_tells (inl (f.0 refl))
or_tells {a = false} f g = (λ e. inr (g.0 e), elim [ inl x ↦ absurd (false≢true (f.1 x)) | inr y ↦ g.1 y ])

pub not_tells : {a : Bool} {X : Type 0} → Tells a X → Tells (not a) (¬ X)
not_tells {a = true} f = false_tells (λ g. g (f.0 refl))
not_tells {a = false} f = true_tells (λ x. false≢true (f.1 x))

pub if_tells : {a b : Bool} {X Y : Type 0} → Tells a X → Tells b Y → Tells (not a || b) (X → Y)
if_tells {a = true} f g = (λ e x. g.0 e, λ h. g.1 (h (f.0 refl)))
if_tells {a = false} f g = true_tells (λ x. absurd (false≢true (f.1 x)))

pub false_told : (b : Bool) → Tells (not b) (b ≡ false)
false_told true = false_tells true≢false
false_told false = true_tells refl

-- one statement for another
pub tells_as : {a : Bool} {X Y : Type 0} → Tells a X → (X → Y) → (Y → X) → Tells a Y
tells_as f to from = (λ e. to (f.0 e), λ y. f.1 (from y))

-- two lists of numbers are the same
unfoldable pub same : List ℕ → List ℕ → Bool
same [] [] = true
same [] (y ∷ ys) = false
same (x ∷ xs) [] = false
same (x ∷ xs) (y ∷ ys) = eqb x y && same xs ys

pub same_tells : (xs ys : List ℕ) → Tells (same xs ys) (xs ≡ ys)
unfolding same
same_tells [] [] = true_tells refl
same_tells [] (y ∷ ys) = false_tells nil≢cons
same_tells (x ∷ xs) [] = false_tells cons≢nil
same_tells (x ∷ xs) (y ∷ ys) = tells_as (and_tells (eq_tells x y) (same_tells xs ys)) (λ h. cc) (λ e. (cc, cc))

-- a test of every number below k, and of some number below k
unfoldable pub any_below : ℕ → (ℕ → Bool) → Bool
any_below zero f = false
any_below (suc k) f = f k || any_below k f

module _ {f : ℕ → Bool} {X : ℕ → Type 0} (each : (i : ℕ) → Tells (f i) (X i)) where
  pub all_tells : (k : ℕ) → Tells (all_below k f) ((i : ℕ) → i < k → X i)
  unfolding all_below
  all_tells zero = true_tells (λ i h. absurd (omega arith))
  all_tells (suc k) = tells_as (and_tells (each k) (all_tells k)) both (λ h. (h k (omega arith), λ i l. h i (omega arith)))
    where
      both : X k × ((i : ℕ) → i < k → X i) → (i : ℕ) → i < suc k → X i
      both h i l = ⊎_elim (λ e. subst⁻¹ X e h.0) (h.1 i) (eq-or-lt_of_le (le_of_suc-le-suc l))

  pub any_tells : (k : ℕ) → Tells (any_below k f) ((i : ℕ) × (i < k) × X i)
  unfolding any_below
  any_tells zero = false_tells (λ h. omega arith)
  any_tells (suc k) = tells_as (or_tells (each k) (any_tells k)) here there
    where
      here : X k ⊎ ((i : ℕ) × (i < k) × X i) → (i : ℕ) × (i < suc k) × X i
      here (inl x) = (k, omega arith, x)
      here (inr h) = (h.0, omega arith, h.2)

      there : (i : ℕ) × (i < suc k) × X i → X k ⊎ ((i : ℕ) × (i < k) × X i)
      there h =
          ⊎_elim (λ e. inl (subst X e h.2)) (λ l. inr (h.0, l, h.2)) (eq-or-lt_of_le (le_of_suc-le-suc h.1))

-- Document 02, Q-13: a star leads from p to q exactly if a chain of at most now repetitions does. A chain that comes back to where it was may leave out the way between; then
-- each repetition leaves one position for good, and there are now + 1. Knows of a walk only that its positions are at most now.
use mathlib.Core.Path.{◌≡◌, refl, subst, ◌∙◌}
use mathlib.Core.Logic.{◌⊎◌, inl, inr, ◌↔◌}
use mathlib.Core.Bool.{Bool, true, false, not, ◌&&◌}
use Prim.Native.Nat.{ℕ, zero, suc, ◌≤◌, ◌<◌}
use native.Mathlib.Omega.{arith}
use lib.Dec.{eqb}
use borrow.Author.Tests.{eqb-true, eq-eqb}
use Rattle.laws.specs.Bit.{count_below}
use Rattle.laws.proofs.Count.{count_le, count_grows}
use Rattle.laws.proofs.Truth.{off_on, true_or_false, and_iff}
use Rattle.meaning.specs.Theory.{World}
use Rattle.meaning.specs.Rule.{Walk, star}
use Rattle.meaning.specs.Leads.{Rel, Leads, Chain, Many, stay, link}
use Rattle.meaning.specs.Stands.{Repeated, AtMostNow}
use Rattle.meaning.proofs.Chain.{Within}
use Rattle.meaning.proofs.Bounds.{leads_within}

-- these positions, but for one
abbrev but : (ℕ → Bool) → ℕ → ℕ → Bool
but f a i = f i && not (eqb i a)

but_itself : (f : ℕ → Bool) (a : ℕ) → but f a a ≡ false
but_itself f a = rw (eq-eqb a a refl) (last (f a))
  where
    last : (b : Bool) → (b && false) ≡ false
    last true = refl
    last false = refl

but_other : (f : ℕ → Bool) (a i : ℕ) → f i ≡ true → eqb i a ≡ false → but f a i ≡ true
but_other f a i h e = rw (h, e) refl

-- a chain of these positions
data Among (r : Rel) (n : ℕ) (f : ℕ → Bool) : ℕ → ℕ → Type 0 where
  ends : {p q : ℕ} → q ≡ p → f p ≡ true → p ≤ n → Among r n f p q
  goes : {p m q : ℕ} → f p ≡ true → p ≤ n → r p m n → Among r n f m q → Among r n f p q

-- it ends at a, or goes on from there and comes to it no more
abbrev Leaves : Rel → ℕ → (ℕ → Bool) → ℕ → ℕ → Type 0
Leaves r n f a q = (q ≡ a) ⊎ ((m : ℕ) × r a m n × Among r n (but f a) m q)

module _ {r : Rel} {n : ℕ} where
  opens : {f : ℕ → Bool} {p q : ℕ} → Among r n f p q → (f p ≡ true) × (p ≤ n)
  opens (ends e h low) = (h, low)
  opens (goes h low step more) = (h, low)

  -- a chain never comes to a position, or there is a last time that it is there
  leaves : {f : ℕ → Bool} {p q : ℕ} (a : ℕ) → Among r n f p q → Among r n (but f a) p q ⊎ Leaves r n f a q
  leaves {f} {p} {q} a (ends e h low) = elim (true_or_false (eqb p a)) [
    | inl same ↦ inr (inl (e ∙ eqb-true p a same))
    | inr other ↦ inl (ends e (but_other f a p h other) low)
  ]
  leaves {f} {p} {q} a (goes {m = m} h low step more) = elim (leaves a more) [
    | inr found ↦ inr found
    | inl rest ↦ elim (true_or_false (eqb p a)) [
      | inl same ↦ inr (inr (m, subst (λ (i : ℕ). r i m n) (eqb-true p a same) step, rest))
      | inr other ↦ inl (goes (but_other f a p h other) low step rest)
    ]
  ]

  -- so a chain of so many positions does with fewer repetitions: its first step leaves one of them for good
  fewer : (f : ℕ → Bool) (p q : ℕ) → Among r n f p q → count_below (suc n) (but f p) < count_below (suc n) f
  fewer f p q chain =
      let low : p ≤ n = (opens chain).1 in
      count_grows (suc n) (but f p) f (λ i l h. ((and_iff (f i) (not (eqb i p))).0 h).0) p (omega arith) (but_itself f p) (opens chain).0

  few : (most : ℕ) (f : ℕ → Bool) (p q : ℕ) → count_below (suc n) f ≤ most → Among r n f p q → (k : ℕ) × (k < most) × Repeated r k p q n
  unfolding Repeated
  few zero f p q room chain = absurd (omega (arith, fewer f p q chain))
  few (suc most) f p q room chain = elim (leaves p chain) [
    | inl rest ↦ absurd (off_on (but_itself f p) (opens rest).0)
    | inr found ↦ elim found [
      | inl e ↦ (0, omega arith, (e, (opens chain).1))
      | inr h ↦
          let (k, low, times) = few most (but f p) h.0 q (omega (arith, fewer f p q chain)) h.2 in
          (suc k, omega arith, (h.0, h.1, times))
    ]
  ]

  among : Within r → {p q : ℕ} → Chain r n p q → Among r n (λ i. true) p q
  among low (stay e here) = ends e refl here
  among low (link {p = p} {m = m} step more) = goes refl (low p m n step).0 step (among low more)

-- so many repetitions are a chain
pub repeated_many : (r : Rel) (k p q n : ℕ) → Repeated r k p q n → Many r p q n
unfolding Repeated
repeated_many r zero p q n h = stay h.0 h.1
repeated_many r (suc k) p q n h = link h.1 (repeated_many r k h.0 q n h.2)

-- and a chain is at most now repetitions
pub many_at_most_now : {r : Rel} → Within r → (p q n : ℕ) → Many r p q n ↔ AtMostNow r p q n
many_at_most_now {r} low p q n = (
  λ chain.
      let (k, less, times) = few (suc n) (λ i. true) p q (count_le (suc n) (λ i. true)) (among low chain) in
      (k, omega arith, times),
  λ h. repeated_many r h.0 p q n h.2,
)

-- "a star leads from p to q exactly if a chain of at most now repetitions does"
pub star_at_most_now : (w : World) (x : Walk) (p q n : ℕ) → Leads w (star x) p q n ↔ AtMostNow (Leads w x) p q n
unfolding Leads
star_at_most_now w x p q n = many_at_most_now (leads_within w x) p q n

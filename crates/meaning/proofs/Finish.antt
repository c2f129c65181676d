-- Laws of the first finishing sequence: `Before` is a total and well-founded order of the sequences, so two first ones are equal, and there is none
-- exactly when nothing finishes. Knows of a finishing sequence only that it is a list of numbers with some property; nothing is decided.
use mathlib.Core.Path.{◌≡◌, refl, sym, ap, ap₂, subst}
use mathlib.Core.Logic.{◌⊎◌, inl, inr, ⊎_elim, ◌↔◌}
use mathlib.Core.List.{List, [], ◌∷◌}
use Prim.Native.Nat.{ℕ, zero, suc, ◌<◌}
use native.Mathlib.Nat.{eq-or-lt_of_le}
use native.Mathlib.Decide.{dec_le}
use native.Mathlib.Omega.{arith}
use lib.ListN.{length}
use Rattle.meaning.specs.Theory.{World}
use Rattle.meaning.specs.Rule.{Walk}
use Rattle.meaning.specs.Finish.{Finishes, Smaller, Before, First, None}

-- two numbers are in order, equal, or in order the other way round
trichotomy : (a b : ℕ) → (a < b) ⊎ ((a ≡ b) ⊎ (b < a))
trichotomy a b = elim (dec_le a b) [
  | yes h ↦ elim (eq-or-lt_of_le h) [ inl e ↦ inr (inl e) | inr l ↦ inl l ]
  | no h ↦ inr (inr (omega arith))
]

-- and so are two sequences of one length
lexical : (xs ys : List ℕ) → length xs ≡ length ys → Smaller xs ys ⊎ ((xs ≡ ys) ⊎ Smaller ys xs)
lexical [] [] e = inr (inl refl)
lexical [] (y ∷ ys) e = absurd (omega arith)
lexical (x ∷ xs) [] e = absurd (omega arith)
lexical (x ∷ xs) (y ∷ ys) e = go (trichotomy x y) (lexical xs ys (omega arith))
  where
    go : (x < y) ⊎ ((x ≡ y) ⊎ (y < x)) → Smaller xs ys ⊎ ((xs ≡ ys) ⊎ Smaller ys xs)
        → Smaller (x ∷ xs) (y ∷ ys) ⊎ ((x ∷ xs ≡ y ∷ ys) ⊎ Smaller (y ∷ ys) (x ∷ xs))
    go (inl l) d = inl (inl l)
    go (inr (inl p)) (inl s) = inl (inr (p, s))
    go (inr (inl p)) (inr (inl q)) = inr (inl (ap₂ {C = List ℕ} (λ a b. a ∷ b) p q))
    go (inr (inl p)) (inr (inr s)) = inr (inr (inr (sym p, s)))
    go (inr (inr g)) d = inr (inr (inl g))

-- and any two sequences
pub before_total : (xs ys : List ℕ) → Before xs ys ⊎ ((xs ≡ ys) ⊎ Before ys xs)
before_total xs ys = go (trichotomy (length xs) (length ys))
  where
    go : (length xs < length ys) ⊎ ((length xs ≡ length ys) ⊎ (length ys < length xs)) → Before xs ys ⊎ ((xs ≡ ys) ⊎ Before ys xs)
    go (inl l) = inl (inl l)
    go (inr (inl e)) = elim (lexical xs ys e) [
      | inl s ↦ inl (inr (e, s))
      | inr d ↦ elim d [ inl p ↦ inr (inl p) | inr s ↦ inr (inr (inr (sym e, s))) ]
    ]
    go (inr (inr g)) = inr (inr (inl g))

-- "the first": two are equal
pub first_unique : (w : World) (job : Walk) (more : ℕ) (xs ys : List ℕ) → First w job more xs → First w job more ys → xs ≡ ys
first_unique w job more xs ys f g = elim (before_total xs ys) [
  | inl b ↦ absurd (g.earliest xs f.finishes b)
  | inr d ↦ elim d [ inl p ↦ p | inr b ↦ absurd (f.earliest ys g.finishes b) ]
]

-- a statement that passes from all smaller numbers to the next holds of every number
below : (Q : ℕ → Type 0) → ((n : ℕ) → ((k : ℕ) → k < n → Q k) → Q n) → (n k : ℕ) → k < n → Q k
below Q step zero k h = absurd (omega arith)
below Q step (suc n) k h = step k (λ j l. below Q step n j (omega arith))

strong : (Q : ℕ → Type 0) → ((n : ℕ) → ((k : ℕ) → k < n → Q k) → Q n) → (n : ℕ) → Q n
strong Q step n = below Q step (suc n) n (omega arith)

-- no sequence of length k with the property is the first of them; no sequence of length k has it
abbrev NoneLeast : ℕ → (List ℕ → Type 0) → Type 0
NoneLeast k P = (xs : List ℕ) → length xs ≡ k → P xs → ((ys : List ℕ) → length ys ≡ k → P ys → Smaller ys xs → ⊥) → ⊥

abbrev NoneAt : ℕ → (List ℕ → Type 0) → Type 0
NoneAt k P = (xs : List ℕ) → length xs ≡ k → P xs → ⊥

-- the second follows from the first: on the head, where the tails are done with
heads : (k : ℕ) → ((P : List ℕ → Type 0) → NoneLeast k P → NoneAt k P) → (P : List ℕ → Type 0) → NoneLeast (suc k) P → NoneAt (suc k) P
heads k tails P least [] e p = absurd (omega arith)
heads k tails P least (x ∷ xs) e p = strong (λ a. NoneAt k (λ bs. P (a ∷ bs))) step x xs (omega arith) p
  where
    other : (a : ℕ) → ((b : ℕ) → b < a → NoneAt k (λ bs. P (b ∷ bs))) → (bs : List ℕ)
        → ((cs : List ℕ) → length cs ≡ k → P (a ∷ cs) → Smaller cs bs → ⊥) → (ys : List ℕ) → length ys ≡ suc k → P ys → Smaller ys (a ∷ bs) → ⊥
    other a less bs min [] d q s = s
    other a less bs min (c ∷ cs) d q (inl l) = less c l cs (omega arith) q
    other a less bs min (c ∷ cs) d q (inr s) = min cs (omega arith) (subst (λ b. P (b ∷ cs)) s.0 q) s.1

    step : (a : ℕ) → ((b : ℕ) → b < a → NoneAt k (λ bs. P (b ∷ bs))) → NoneAt k (λ bs. P (a ∷ bs))
    step a less = tails (λ bs. P (a ∷ bs)) (λ bs d q min. least (a ∷ bs) (ap suc d) q (other a less bs min))

none_least : (k : ℕ) (P : List ℕ → Type 0) → NoneLeast k P → NoneAt k P
none_least zero P least [] e p = least [] e p alone
  where
    alone : (ys : List ℕ) → length ys ≡ 0 → P ys → Smaller ys [] → ⊥
    alone [] d q s = s
    alone (y ∷ ys) d q s = s
none_least zero P least (x ∷ xs) e p = absurd (omega arith)
none_least (suc k) P least xs e p = heads k (none_least k) P least xs e p

-- where no sequence with a property is the first of them, none has it
pub none_before : (P : List ℕ → Type 0) → ((xs : List ℕ) → P xs → ((ys : List ℕ) → P ys → Before ys xs → ⊥) → ⊥) → (xs : List ℕ) → P xs → ⊥
none_before P first xs p = strong (λ k. NoneAt k P) step (length xs) xs refl p
  where
    step : (k : ℕ) → ((j : ℕ) → j < k → NoneAt j P) → NoneAt k P
    step k shorter = none_least k P least
      where
        least : NoneLeast k P
        least xs e p min = first xs p (λ ys q. ⊎_elim (λ l. shorter (length ys) (omega arith) ys refl q) (λ s. min ys (omega arith) q s.1))

-- "no such sequence": nothing finishes exactly when nothing is the first that finishes
pub none_iff : (w : World) (job : Walk) (more : ℕ) → ((xs : List ℕ) → First w job more xs → ⊥) ↔ None w job more
none_iff w job more = (
  λ no-first. none_before (Finishes w job more) (λ xs f min. no-first xs (record { finishes = f; earliest = min })),
  λ none xs f. none xs f.finishes,
)

-- an answer and "none" exclude each other
pub first_not_none : (w : World) (job : Walk) (more : ℕ) (xs : List ℕ) → First w job more xs → None w job more → ⊥
first_not_none w job more xs f none = none xs f.finishes

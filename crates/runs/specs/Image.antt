-- Sets of positions and what an evaluator answers of them: the image of a set under a walk's relation, and the positions of a set where a test is true.
-- A set is given by which positions it holds. Knows no text, no table and no word.
use Rattle.std.specs.Prelude.{◌≡◌, ◌↔◌, Bool, true, false, ℕ, ◌+◌, ◌≤◌}
use Rattle.meaning.specs.Theory.{World}
use Rattle.meaning.specs.Rule.{Walk}
use Rattle.meaning.specs.Leads.{Rel, Truth, Turned, Leads, Back}

-- which positions a set holds
abbrev pub Set : Type 0
Set = ℕ → Bool

-- the set lies at or before now
abbrev pub UpTo : ℕ → Set → Type 0
UpTo n s = (q : ℕ) → s q ≡ true → q ≤ n

-- q is in the answer exactly when the relation leads to it from some p of the set
pub record Image (r : Rel) (n : ℕ) (s answer : Set) : Type 0 where
  pub each : (q : ℕ) → (answer q ≡ true) ↔ ((p : ℕ) × (s p ≡ true) × r p q n)

-- q is in the answer exactly when it is in the set and the test is true there
pub record Sifted (x : Truth) (n : ℕ) (s answer : Set) : Type 0 where
  pub each : (q : ℕ) → (answer q ≡ true) ↔ ((s q ≡ true) × x q n)

-- a relation as it is, or from q to p
abbrev pub Turn : Bool → Rel → Rel
Turn false r = r
Turn true r = Turned r

-- the walk as it is, or its converse
abbrev pub Way : World → Walk → Bool → Rel
Way w x false = Leads w x
Way w x true = Back w x

-- a step from p to p + 1, at most now, over the positions p of a set
abbrev pub Crossing : Set → Rel
Crossing c p q n = (q ≡ p + 1) × (q ≤ n) × (c p ≡ true)

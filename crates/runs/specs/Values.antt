-- What the evaluator is given beside the log: the values that `v`, `w`, `x`, `y` stand for, behind them how many values there are ("Values are 0 to NN-1"), and
-- behind that how a walk's own tests are read and how those inside a `<` are, as a list of seven numbers. Knows the letters' order, and no rule's meaning.
use Rattle.std.specs.Prelude.{Some, ◌≡◌, ◌⊎◌, false, List, [], ◌∷◌, ℕ, ◌+◌, ◌≤◌, ◌<◌, length, get_or, set}
use Rattle.meaning.specs.Theory.{World, stands_for}
use Rattle.meaning.specs.Rule.{Variable, Rule, text, free_in}
use Rattle.theory.specs.Subject.{reading_of}
use Rattle.spelling.specs.Scan.{NumberAt}
use Rattle.grammar.specs.Letters.{variables, place, Lettered}
use Rattle.grammar.specs.Standing.{Stands}

-- so many values there are
abbrev pub domain_in : List ℕ → ℕ
domain_in bound = get_or bound (length variables) 0

-- this variable stands for so much
abbrev pub value_in : List ℕ → Variable → ℕ
value_in bound v = get_or bound (place v) 0

-- so a walk's own tests are read, and so those inside a `<`
abbrev pub own_in : List ℕ → ℕ
own_in bound = get_or bound (length variables + 1) 0

abbrev pub inner_in : List ℕ → ℕ
inner_in bound = get_or bound (length variables + 2) 0

-- no variable is bound: each stands for 0
abbrev pub unbound : ℕ → ℕ → ℕ → List ℕ
unbound domain own inner = 0 ∷ 0 ∷ 0 ∷ 0 ∷ domain ∷ own ∷ inner ∷ []

-- the same inside a `<`
abbrev pub inside_of : List ℕ → List ℕ
inside_of bound = set bound (length variables + 1) (inner_in bound)

-- these are the world's
pub record Bears (w : World) (bound : List ℕ) : Type 0 where
  pub room : length variables + 2 < length bound
  pub many : w.domain ≡ domain_in bound
  pub stand : (v : Variable) → stands_for w.values v ≡ value_in bound v
  pub own : w.own ≡ reading_of (own_in bound)
  pub inner : w.inner ≡ reading_of (inner_in bound)

-- the letter of some variable stands at the place
pub record LetterHere (bytes : List ℕ) (at : ℕ) : Type 0 where
  pub variable : Variable
  pub stands : Lettered bytes at variable

-- the two digits of some number stand at the place, and the letter of some variable behind them
pub record SumHere (bytes : List ℕ) (at : ℕ) : Type 0 where
  pub number : ℕ
  pub digits : NumberAt bytes at (Some number)
  pub letter : LetterHere bytes (at + 2)

-- the letter of a binder stands behind the place, and what stands behind that ends there
pub record BinderHere (bytes : List ℕ) (at end : ℕ) : Type 0 where
  pub letter : LetterHere bytes (at + 1)
  pub inside : end ≤ length bytes
  pub ends : (part : Rule) → Stands bytes (at + 2) part → end ≡ at + 2 + length (text part)

-- a binder of the variable with this letter stands at the place
abbrev pub Rebinds : List ℕ → ℕ → ℕ → Type 0
Rebinds bytes name i = ((get_or bytes i 0 ≡ 112) ⊎ (get_or bytes i 0 ≡ 101)) × (get_or bytes (i + 1) 0 ≡ name)

-- From a place on up to another, its letter stands nowhere but in what binds it anew.
pub data Clean (bytes ends : List ℕ) (name to : ℕ) : ℕ → Type 0 where
  past : {i : ℕ} → to ≤ i → Clean bytes ends name to i
  other : {i : ℕ} → (get_or bytes i 0 ≡ name → ⊥) → Clean bytes ends name to (i + 1) → Clean bytes ends name to i
  skip : {i : ℕ} → Rebinds bytes name i → Clean bytes ends name to (get_or ends i 0) → Clean bytes ends name to i

-- the place to look at behind one: the next, or behind what binds the variable anew; or none further on
abbrev pub Passed : List ℕ → List ℕ → ℕ → ℕ → ℕ → Type 0
Passed bytes ends name i next = (next ≡ i + 1) ⊎ ((next ≤ i) ⊎ (Rebinds bytes name i × (next ≡ get_or ends i 0)))

-- So many values the binder at a place goes over: all of them, or one alone, where its variable does not stand free in its part.
pub record Turns (bytes : List ℕ) (at domain many : ℕ) : Type 0 where
  pub low : many ≤ domain
  pub enough : (v : Variable) (part : Rule) → Lettered bytes (at + 1) v → Stands bytes (at + 2) part
      → (many ≡ domain) ⊎ ((many ≡ 1) × (free_in v part ≡ false))

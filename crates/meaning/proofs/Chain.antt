-- Chains of steps: one link, two chains joined, a chain carried to another relation, a chain turned round. Knows of relations only, not of walks.
use mathlib.Core.Path.{refl, sym, subst}
use Prim.Native.Nat.{ℕ, ◌≤◌}
use Rattle.meaning.specs.Leads.{Rel, Chain, Many, stay, link}

-- "All positions are at most n": the relation keeps to them
abbrev pub Within : Rel → Type 0
Within r = (p q n : ℕ) → r p q n → (p ≤ n) × (q ≤ n)

pub chain_one : {r : Rel} {n p q : ℕ} → r p q n → q ≤ n → Chain r n p q
chain_one step low = link step (stay refl low)

pub chain_append : {r : Rel} {n p m q : ℕ} → Chain r n p m → Chain r n m q → Chain r n p q
chain_append {r} {n} {q = q} (stay e low) rest = subst (λ (k : ℕ). Chain r n k q) e rest
chain_append (link step more) rest = link step (chain_append more rest)

pub chain_map : {r s : Rel} {n p q : ℕ} → ((i j : ℕ) → r i j n → s i j n) → Chain r n p q → Chain s n p q
chain_map f (stay e low) = stay e low
chain_map f (link {p = p} {m = m} step more) = link (f p m step) (chain_map f more)

-- the last step comes first; where the chain began, it stays, so that must be at most now
pub chain_turn : {r s : Rel} {n p q : ℕ} → Within r → ((i j : ℕ) → r i j n → s j i n) → Chain r n p q → Chain s n q p
chain_turn {n = n} low f (stay e here) = stay (sym e) (subst (λ (k : ℕ). k ≤ n) (sym e) here)
chain_turn {n = n} low f (link {p = p} {m = m} step more) =
    chain_append (chain_turn low f more) (chain_one (f p m step) (low p m n step).0)

-- now stays, while the positions change
within_at : {r : Rel} (n : ℕ) → Within r → (p q : ℕ) → Chain r n p q → (p ≤ n) × (q ≤ n)
within_at n low p q (stay e here) = (here, subst (λ (k : ℕ). k ≤ n) (sym e) here)
within_at n low p q (link {m = m} step more) = ((low p m n step).0, (within_at n low m q more).1)

pub many_within : {r : Rel} → Within r → Within (Many r)
many_within low p q n h = within_at n low p q h

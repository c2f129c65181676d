-- Document 02, Q-13, "Yesterday's verdict stands": two logs that are the same up to now; and a chain of so many repetitions.
use Rattle.std.specs.Prelude.{◌≡◌, List, ℕ, zero, suc, ◌≤◌, ◌<◌}
use Rattle.std.proofs.Math.ListN.{get_elem?}
use Rattle.meaning.specs.Leads.{Rel, Then}

-- "whichever actions follow position now in the log": the two logs have the same steps before it
abbrev pub Agree : List ℕ → List ℕ → ℕ → Type 0
Agree l l' now = (p : ℕ) → p < now → get_elem? l p ≡ get_elem? l' p

-- k repetitions of a walk, one behind the other
unfoldable pub Repeated : Rel → ℕ → Rel
Repeated r zero p q n = (q ≡ p) × (p ≤ n)
Repeated r (suc k) p q n = Then r (Repeated r k) p q n

-- "a chain of at most now repetitions"
abbrev pub AtMostNow : Rel → Rel
AtMostNow r p q n = (k : ℕ) × (k ≤ n) × Repeated r k p q n

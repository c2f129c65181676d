-- A law of a row of a table that is written element by element.
use mathlib.Core.Path.{◌≡◌, subst}
use mathlib.Core.List.{List}
use Prim.Native.Nat.{ℕ, ◌+◌, ◌<◌}
use native.Mathlib.Decide.{dec_lt}
use native.Mathlib.Omega.{arith}
use lib.ListN.{length, get_or, set}
use lib.Seq.{get_or-set_same, get_or-set_other}

-- one more element of a row is written: what held of the elements before it still does, and now of this one
pub written_more :
    (P : ℕ → ℕ → Type 0) (table : List ℕ) (row j n : ℕ) → row + j < length table
    → ((k : ℕ) → k < j → P k (get_or table (row + k) 0)) → P j n → (k : ℕ) → k < j + 1 → P k (get_or (set table (row + j) n) (row + k) 0)
written_more P table row j n room old new k h = go (dec_lt k j)
  where
    go : Dec (k < j) → P k (get_or (set table (row + j) n) (row + k) 0)
    go (yes l) = rw (get_or-set_other table (row + j) (row + k) n 0 (omega arith)) (old k l)
    go (no l) =
        let e : j ≡ k = omega arith in
        subst (λ (i : ℕ). P i (get_or (set table (row + j) n) (row + i) 0)) e (rw (get_or-set_same table (row + j) n 0 room) new)

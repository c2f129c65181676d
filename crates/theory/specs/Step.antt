-- One step in words: a test of two masks, and what a clause does in a state.
use Rattle.std.specs.Prelude.{◌≡◌, true, false, ℕ}
use Rattle.laws.specs.Bit.{on}
use Rattle.meaning.specs.Theory.{Clause, clause_puts, clause_drops}

-- every bit of the one mask is on in the state, and every bit of the other off: so need and ban are asked, and when and unless
abbrev pub Met : ℕ → ℕ → ℕ → Type 0
Met ons offs state = ((i : ℕ) → on ons i ≡ true → on state i ≡ true) × ((i : ℕ) → on offs i ≡ true → on state i ≡ false)

-- these words name what the clause puts and what it drops in the state; nothing where it does not act
pub record Effected (c : Clause) (state put drop : ℕ) : Type 0 where
  pub puts : (i : ℕ) → on put i ≡ clause_puts c state i
  pub drops : (i : ℕ) → on drop i ≡ clause_drops c state i

-- Document 01, "Reach": "the set of positions a walk leads to, as a 64-bit number with bit q for position q, the count of positions reached, and the
-- earliest one (64 when there is none)".
use Rattle.std.specs.Prelude.{◌≡◌, ◌↔◌, Bool, true, ℕ, ◌^◌, ◌<◌}
use Rattle.laws.specs.Bit.{on, count_below, first_below}
use Rattle.meaning.specs.Limits.{places}
use Rattle.meaning.specs.Theory.{World}
use Rattle.meaning.specs.Rule.{Walk}
use Rattle.meaning.specs.Leads.{Leads}

-- how many positions are held, and the earliest of them; a set is told by which positions it holds
abbrev pub count_of : (ℕ → Bool) → ℕ
count_of held = count_below places held

abbrev pub earliest_of : (ℕ → Bool) → ℕ
earliest_of held = first_below places held

-- what reach answers: exactly the positions are held that the walk leads to from t with now = n; count and earliest are theirs
pub record Reached (w : World) (walk : Walk) (t n : ℕ) (held : ℕ → Bool) (count earliest : ℕ) : Type 0 where
  pub holds : (q : ℕ) → (held q ≡ true) ↔ Leads w walk t q n
  pub counted : count ≡ count_of held
  pub first : earliest ≡ earliest_of held

-- "as a 64-bit number with bit q for position q": how the positions held are written down, and the one place that says so
pub record SetWord (held : ℕ → Bool) (word : ℕ) : Type 0 where
  pub width : word < 2 ^ places
  pub bits : (q : ℕ) → on word q ≡ held q

-- the answer with its set written down
pub record ReachedAs (w : World) (walk : Walk) (t n set count earliest : ℕ) : Type 0 where
  pub held : ℕ → Bool
  pub written : SetWord held set
  pub reached : Reached w walk t n held count earliest

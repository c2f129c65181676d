-- What a writer does to the lent output. Knows bytes alone.
use Rattle.std.specs.Prelude.{◌≡◌, List, ℕ, ◌+◌, length}
use Rattle.std.proofs.lemmas.List.Edits.{sets}

-- this text stands at this place of the output, everything else is as before, and the writer hands back the place behind it
pub record Wrote (before : List ℕ) (to : ℕ) (text after : List ℕ) (next : ℕ) : Type 0 where
  pub stands : after ≡ sets before to text
  pub onward : next ≡ to + length text

-- Which positions a set holds. What a contract of this crate says of a set it says by `holds`; the word behind it is opened only
-- in this crate's proofs.
use Rattle.std.specs.Prelude.{◌≡◌, Bool, true, false, ◌&&◌, ℕ, ◌^◌, ◌<◌, ltb}
use Rattle.laws.specs.Bit.{on}
use Rattle.meaning.specs.Limits.{places}
use Rattle.positions.specs.declared.PositionSet.{PositionSet}

-- position q is in the set
unfoldable pub holds : PositionSet → ℕ → Bool
holds s q = ltb q places && on s.word q

-- PositionSet::EMPTY
abbrev pub nothing : PositionSet
nothing = record { word = 0 }

-- the set holds no position
abbrev pub Empty : PositionSet → Type 0
Empty s = (q : ℕ) → holds s q ≡ false

-- each position of s is one of t
abbrev pub Inside : PositionSet → PositionSet → Type 0
Inside s t = (q : ℕ) → holds s q ≡ true → holds t q ≡ true

-- the set is a value that a machine word has: what the type says of it
pub record Proper (s : PositionSet) : Type 0 where
  pub fits : s.word < 2 ^ places

-- What the readers find: a key, the end of a line, a number.
use Rattle.std.specs.Prelude.{◌≡◌, Option, Some, None, List, ◌++◌, ℕ, ◌+◌, ◌-◌, ◌≤◌, ◌<◌, ◌^◌, length, get_or, take, drop}
use Rattle.meaning.specs.Rule.{digits}
use Rattle.spelling.specs.Numeral.{lf, symbol, numeral}

-- the bytes from one place up to another
abbrev pub stretch : List ℕ → ℕ → ℕ → List ℕ
stretch bytes start end = take (end - start) (drop start bytes)

-- the first LF from a place on stands here; at the text's end there is none
pub record FirstLf (bytes : List ℕ) (from end : ℕ) : Type 0 where
  pub onward : from ≤ end
  pub within : end ≤ length bytes
  pub passed : (k : ℕ) → k < end → from ≤ k → get_or bytes k 0 ≡ lf → ⊥
  pub found : end < length bytes → get_or bytes end 0 ≡ lf

-- the hex digit that this byte is, or that it is none
abbrev pub DigitOf : ℕ → Option ℕ → Type 0
DigitOf byte (Some d) = (d < 16) × (byte ≡ symbol d)
DigitOf byte None = (e : ℕ) → e < 16 → byte ≡ symbol e → ⊥

-- what can be asked: so many digits are there, and the number fits a word
pub record NumberAsked (bytes : List ℕ) (at width base : ℕ) : Type 0 where
  pub there : at + width ≤ length bytes
  pub some : 0 < base
  pub few : base ≤ 16
  pub fits : base ^ width ≤ 2 ^ 32

-- the number that these bytes are, or that they are none
abbrev pub DigitsOf : ℕ → ℕ → List ℕ → Option ℕ → Type 0
DigitsOf base width bytes (Some n) = (n < base ^ width) × (bytes ≡ numeral base width n)
DigitsOf base width bytes None = (n : ℕ) → bytes ≡ numeral base width n → ⊥

-- the two digits of this number stand there; or no number's do
abbrev pub NumberAt : List ℕ → ℕ → Option ℕ → Type 0
NumberAt text at (Some n) = (n < 10 ^ 2) × (drop at text ≡ digits n ++ drop (at + 2) text)
NumberAt text at None = (n : ℕ) (rest : List ℕ) → n < 10 ^ 2 → drop at text ≡ digits n ++ rest → ⊥

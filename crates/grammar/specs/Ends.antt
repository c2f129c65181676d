-- Where a rule ends, going by the signs alone: what the table of ends holds. That it is where the rule ends which is spelled there is a theorem (`Widths`).
use Rattle.std.specs.Prelude.{◌≡◌, ◌⊎◌, List, [], ◌∷◌, ℕ, suc, ◌+◌, ◌≤◌, ◌<◌, min, length, drop, get_or}
use Rattle.meaning.specs.Limits.{text_limit}
use Rattle.grammar.specs.declared.signs.Sign.{Sign}
use Rattle.grammar.specs.declared.signs.Sign.TheVariants.{Step, NamedStep, OverWalk, OverTest, TwoWalks, Constant, NamedFluent, Denial, TwoTests, WalkThenTest, SumStep, SomeWalk, SumFluent, SomeTest, Stranger}
use Rattle.grammar.specs.Signs.{sign_meant}

-- the width of what stands at the front of so many bytes, by its sign and by the widths from the next place on: alone, with a number, with a letter behind
-- that, over one rule or two, or over one behind a letter
abbrev pub one_rule : List ℕ → ℕ
one_rule after = 1 + get_or after 0 0

abbrev pub two_rules : List ℕ → ℕ
two_rules after = 1 + get_or after 0 0 + get_or after (get_or after 0 0) 0

abbrev pub letter_and_rule : ℕ → List ℕ → ℕ
letter_and_rule left after = min (2 + get_or after 1 0) left

abbrev pub width_by : Sign → ℕ → List ℕ → ℕ
width_by Step left after = 1
width_by NamedStep left after = min 3 left
width_by OverWalk left after = one_rule after
width_by OverTest left after = one_rule after
width_by TwoWalks left after = two_rules after
width_by Constant left after = 1
width_by NamedFluent left after = min 3 left
width_by Denial left after = one_rule after
width_by TwoTests left after = two_rules after
width_by WalkThenTest left after = two_rules after
width_by SumStep left after = min 4 left
width_by SomeWalk left after = letter_and_rule left after
width_by SumFluent left after = min 4 left
width_by SomeTest left after = letter_and_rule left after
width_by Stranger left after = 1

-- the width at each place of a list, and 0 at its end
unfoldable pub widths : List ℕ → List ℕ
widths [] = 0 ∷ []
widths (b ∷ l) = width_by (sign_meant b) (suc (length l)) (widths l) ∷ widths l

-- where the rule at a place ends
abbrev pub end_at : List ℕ → ℕ → ℕ
end_at bytes at = at + get_or (widths (drop at bytes)) 0 0

-- the table holds the ends from the next place on
pub record TableFrom (bytes ends : List ℕ) (at : ℕ) : Type 0 where
  pub inside : at < length bytes
  pub short : length bytes ≤ text_limit
  pub room : length bytes < length ends
  pub told : (i : ℕ) → at < i → i ≤ length bytes → get_or ends i 0 ≡ end_at bytes i

-- the whole table, and what lies past it as it was
pub record Filled (bytes before after : List ℕ) : Type 0 where
  pub long : length after ≡ length before
  pub told : (i : ℕ) → i ≤ length bytes → get_or after i 0 ≡ end_at bytes i
  pub kept : (i : ℕ) → length bytes < i → get_or after i 0 ≡ get_or before i 0

pub record FillOutcome (bytes before after : List ℕ) : Type 0 where
  pub filled : length bytes ≤ text_limit → length bytes < length before → Filled bytes before after
  pub untouched : (text_limit < length bytes) ⊎ (length before ≤ length bytes) → after ≡ before

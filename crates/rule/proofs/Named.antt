-- Laws of a name whose number stands behind a sign. No code.
use mathlib.Core.Path.{ap}
use mathlib.Core.List.{List}
use Prim.Native.Nat.{ℕ, ◌+◌, ◌≤◌}
use native.Mathlib.Omega.{arith}
use lib.ListN.{length, length-drop}
use Rattle.std.specs.Prelude.{Option, Some, None}
use Rattle.meaning.specs.Limits.{text_limit, domain_limit}
use Rattle.spelling.specs.Scan.{NumberAt}
use Rattle.rule.specs.Facts.{NamedWithin}

-- behind a sign, what a number ends ends within the text
pub named_within : (text : List ℕ) (at more : ℕ) (n : Option ℕ) → length text ≤ text_limit → more ≤ domain_limit → NumberAt text (at + 1) n
    → NamedWithin n more (at + 3)
named_within text at more None short few h = tt
named_within text at more (Some n) short few h = (h.0, few, omega (arith, short, ap length h.1, length-drop (at + 1) text))

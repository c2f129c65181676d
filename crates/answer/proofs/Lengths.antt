-- How long the printed lines are: no answer has more than 47 bytes.
use mathlib.Core.Path.{◌≡◌}
use mathlib.Core.Bool.{Bool, true, false}
use mathlib.Core.List.{List}
use mathlib.Core.Option.{Option, some, none}
use Prim.Native.Nat.{ℕ, ◌≤◌, ◌<◌}
use native.Mathlib.Omega.{arith}
use lib.ListN.{length, length-append, length-take}
use Rattle.refusal.specs.Number.{number_of}
use Rattle.refusal.proofs.Numbers.{number_low}
use Rattle.refusal.specs.declared.Refusal.{Refusal}
use Rattle.meaning.specs.Limits.{more_limit}
use Rattle.spelling.specs.Numeral.{hex8}
use Rattle.spelling.proofs.Numeral.{length_numeral}
use Rattle.spelling.proofs.LogText.{log_long}
use Rattle.std.specs.Prelude.{Option as RustOption, Some, None, IfSome}
use Rattle.answer.specs.declared.Ending.{Ending}
use Rattle.answer.specs.Outcome.{Ended, ending_of}
use Rattle.answer.specs.Text.{line, yes_no, finish_text, answer_text, refusal_text}
use Rattle.spelling.proofs.Plain.{length_decimal}

pub verdict_length : (verdict : Bool) → length (line "verdict=" (yes_no verdict)) ≤ 12
verdict_length true = omega arith
verdict_length false = omega arith

pub state_length : (word : ℕ) → length (line "state=" (hex8 word)) ≡ 15
state_length word = simp (length-append, length_numeral) (omega arith)

-- a sequence of the length that a sheet can ask for, or none
abbrev pub Short : Option (List ℕ) → Type 0
Short (some ending) = length ending ≤ more_limit
Short none = Unit {0}

finish_length : (finish : Option (List ℕ)) → Short finish → length (line "finish=" (finish_text finish)) ≤ 20
finish_length (some ending) short = simp length-append (omega (arith, log_long ending))
finish_length none short = omega arith

pub short_ending : (ending : RustOption Ending) → IfSome ending Ended → Short (ending_of ending)
short_ending None ends = tt
short_ending (Some e) ends = let few = ends.few in simp length-take (omega arith)

pub ending_length : (ending : RustOption Ending) → IfSome ending Ended → length (finish_text (ending_of ending)) ≤ 12
ending_length ending ends = omega (arith, simp length-append at (finish_length (ending_of ending) (short_ending ending ends)))

pub answer_length : (verdict : Bool) (word : ℕ) (finish : Option (List ℕ)) → Short finish → length (answer_text verdict word finish) ≤ 47
unfolding answer_text
answer_length verdict word finish short =
    simp length-append
    (omega (arith, simp length-append at (verdict_length verdict), simp length-append at (state_length word), simp length-append at (finish_length finish short)))

pub refusal_length : (number place : ℕ) → number < 1000 → place < 1000 → length (refusal_text number place) ≤ 21
unfolding refusal_text
refusal_length number place few low = simp length-append (omega (arith, length_decimal number few, length_decimal place low))

-- a refusal's number has three digits at most
pub number_small : (r : Refusal) → number_of r < 1000
number_small r = omega (arith, number_low r)

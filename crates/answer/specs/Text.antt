-- Document 01, "The answering program": the lines that are printed, byte for byte.
use Rattle.std.specs.Prelude.{Bool, true, false, List, [], ◌∷◌, ◌++◌, ℕ}
use Rattle.std.proofs.Math.Option.{Option, some, none}
use Prim.Native.String.{String}
use Rattle.laws.specs.Text.{bytes}
use Rattle.spelling.specs.Numeral.{lf, hex8, log_text}
use Rattle.spelling.specs.Decimal.{decimal}
use Rattle.answer.specs.Outcome.{Told, refused, answered}

-- lines, "each ended by one LF"
abbrev pub line : String → List ℕ → List ℕ
line key value = bytes key ++ value ++ (lf ∷ [])

-- "yes or no"
abbrev pub yes_no : Bool → List ℕ
yes_no true = bytes "yes"
yes_no false = bytes "no"

-- "the sequence as two digits an action (empty if no action is missing), or `none`"
abbrev pub finish_text : Option (List ℕ) → List ℕ
finish_text none = bytes "none"
finish_text (some ending) = log_text ending

-- "three lines": "`verdict=` yes or no ..", "`state=` the last state as 8 hex digits", "`finish=` the sequence .."
unfoldable pub answer_text : Bool → ℕ → Option (List ℕ) → List ℕ
answer_text verdict state finish =
    line "verdict=" (yes_no verdict) ++ line "state=" (hex8 state) ++ line "finish=" (finish_text finish)

-- "A refused sheet gives one such line, `refused=N,line=M`, in plain decimals."
unfoldable pub refusal_text : ℕ → ℕ → List ℕ
refusal_text number place = line "refused=" (decimal number ++ bytes ",line=" ++ decimal place)

-- the text of an outcome
abbrev pub text_of : Told → List ℕ
text_of (refused number line) = refusal_text number line
text_of (answered verdict state finish) = answer_text verdict state finish

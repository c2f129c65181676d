-- Document 02, Q-11, in the packers' words: what a log of prints and voids says of the labels. Knows cartons and their log alone: no theory, no mask, no rule.
use Rattle.std.specs.Prelude.{◌≡◌, List, ℕ, ◌+◌, ◌≤◌, ◌<◌, length, get_or}

-- "the number of cartons C, 1 to 16"
abbrev pub carton_limit : ℕ
carton_limit = 16

-- "a log over 63 actions": the desk's own limit, whatever the library takes
abbrev pub step_limit : ℕ
step_limit = 63

-- "actions 0 to C-1 print labels 1 to C, action C voids all"
abbrev pub label_of : ℕ → ℕ
label_of action = action + 1

abbrev pub void_of : ℕ → ℕ
void_of cartons = cartons

-- "printed after the last void, or since the start if none": within the first n steps the label was printed, and no void came behind that print
pub record OutAt (cartons : ℕ) (log : List ℕ) (n label : ℕ) : Type 0 where
  pub step : ℕ
  pub there : step < n
  pub printed : label_of (get_or log step 0) ≡ label
  pub since : (later : ℕ) → step < later → later < n → get_or log later 0 ≡ void_of cartons → ⊥

-- at the log's end
abbrev pub Out : ℕ → List ℕ → ℕ → Type 0
Out cartons log label = OutAt cartons log (length log) label

-- "label k may be printed: yes exactly when each lower label was printed after the last void, or since the start if none"
abbrev pub MayPrint : ℕ → List ℕ → ℕ → Type 0
MayPrint cartons log label = (lower : ℕ) → 1 ≤ lower → lower < label → Out cartons log lower

-- "the lowest label not yet out"
pub record LowestIs (cartons : ℕ) (log : List ℕ) (label : ℕ) : Type 0 where
  pub above : 1 ≤ label
  pub within : label ≤ cartons
  pub missing : Out cartons log label → ⊥
  pub lowest : (lower : ℕ) → 1 ≤ lower → lower < label → Out cartons log lower

-- "or that all are"
abbrev pub AllOut : ℕ → List ℕ → Type 0
AllOut cartons log = (label : ℕ) → 1 ≤ label → label ≤ cartons → Out cartons log label

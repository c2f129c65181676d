-- What the desk says of a line that it counts: "which label comes next and whether it was in order". The first is the desk's own (`NextIs`).
use Rattle.std.specs.Prelude.{◌≡◌, ◌⊎◌, List, ℕ, ◌≤◌, ◌<◌, length, get_or}
use Rattle.desk.specs.Log.{carton_limit, step_limit, label_of, void_of, MayPrint}

-- the log that the program keeps is one that the desk takes
pub record Kept (cartons : ℕ) (log : List ℕ) : Type 0 where
  pub some : 1 ≤ cartons
  pub few : cartons ≤ carton_limit
  pub short : length log ≤ step_limit
  pub known : (k : ℕ) → k < length log → get_or log k 0 ≤ void_of cartons

-- a void always is in order; a print, if the label may be printed
abbrev pub InOrder : ℕ → List ℕ → ℕ → Type 0
InOrder cartons before action = (action ≡ void_of cartons) ⊎ MayPrint cartons before (label_of action)

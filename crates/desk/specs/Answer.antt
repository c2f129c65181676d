-- What the desk's two calls answer: the refusals with their numbers, and the value or the slot.
use Rattle.std.specs.Prelude.{◌≡◌, ◌⊎◌, List, [], ◌∷◌, ℕ, ◌+◌, ◌<◌, Option, Some, None}
use Rattle.meaning.specs.Refusal.{Row, ◌when◌, Answered, BadLog}
use Rattle.desk.specs.Log.{carton_limit, step_limit, MayPrint, LowestIs, AllOut}

-- "C or k out of range is 3"
abbrev pub BadCartons : ℕ → Type 0
BadCartons cartons = (cartons < 1) ⊎ (carton_limit < cartons)

abbrev pub BadLabel : ℕ → ℕ → Type 0
BadLabel cartons label = (label < 1) ⊎ (cartons < label)

-- "a log over 63 actions, or an action above C, is 5"
abbrev pub BadSteps : ℕ → List ℕ → Type 0
BadSteps cartons log = BadLog step_limit (cartons + 1) log

abbrev pub print_rows : ℕ → List ℕ → ℕ → List {1} Row
print_rows cartons log label = (3 when (BadCartons cartons ⊎ BadLabel cartons label)) ∷ (5 when BadSteps cartons log) ∷ []

abbrev pub lowest_rows : ℕ → List ℕ → List {1} Row
lowest_rows cartons log = (3 when BadCartons cartons) ∷ (5 when BadSteps cartons log) ∷ []

-- a slot with a verdict: 1 for yes, 0 for no
abbrev pub Verdict : Type 0 → ℕ → Type 0
Verdict So slot = ((slot ≡ 1) × So) ⊎ ((slot ≡ 0) × ¬ So)

-- a refusal has 0 in the slot
abbrev pub PrintAnswered : ℕ → List ℕ → ℕ → ℕ → ℕ → Type 0
PrintAnswered cartons log label number slot =
    Answered (print_rows cartons log label) number (slot ≡ 0) (Verdict (MayPrint cartons log label) slot)

-- a slot with a label: 0 says that all are out
abbrev pub LowestAnswered : ℕ → List ℕ → ℕ → ℕ → Type 0
LowestAnswered cartons log number slot =
    Answered (lowest_rows cartons log) number (slot ≡ 0) (LowestIs cartons log slot ⊎ ((slot ≡ 0) × AllOut cartons log))

-- the label that comes next, or that all are out
abbrev pub NextIs : ℕ → List ℕ → Option ℕ → Type 0
NextIs cartons log (Some label) = LowestIs cartons log label
NextIs cartons log None = AllOut cartons log

-- the same answer with the label as a value: there is none where all are out, and on a refusal
abbrev pub NextAnswered : ℕ → List ℕ → ℕ → Option ℕ → Type 0
NextAnswered cartons log number next =
    Answered (lowest_rows cartons log) number (next ≡ None) (NextIs cartons log next)

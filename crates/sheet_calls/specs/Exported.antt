-- What the exported functions for a whole sheet promise, where what it says is a list of numbers.
use Rattle.std.specs.Prelude.{◌≡◌, ◌⊎◌, List, [], ◌∷◌, ℕ}
use Rattle.sheet.specs.Answer.{Handed, Refuses}
use Rattle.sheet.specs.declared.Parsed.{Parsed}

-- A sheet in numbers: the line of its refusal; or, behind a 0, fluents, actions, domain, start, the log's steps, the reading, where ask and run begin and end, more.
abbrev pub line_numbers : ℕ → List ℕ
line_numbers place = place ∷ 0 ∷ 0 ∷ 0 ∷ 0 ∷ 0 ∷ 0 ∷ 0 ∷ 0 ∷ 0 ∷ 0 ∷ 0 ∷ []

abbrev pub numbers_of : Parsed → List ℕ
numbers_of p =
    0
    ∷ p.setting.counts.fluents
    ∷ p.setting.counts.actions
    ∷ p.setting.counts.domain
    ∷ p.setting.start
    ∷ p.steps
    ∷ p.setting.reading
    ∷ p.ask.start
    ∷ p.ask.end
    ∷ p.run.start
    ∷ p.run.end
    ∷ p.more
    ∷ []

-- a refused sheet: its number and line; "A refusal .. changes no lent byte"
pub record SheetHeld (bytes masks log : List ℕ) (number : ℕ) (numbers masks' log' : List ℕ) : Type 0 where
  pub place : ℕ
  pub refused : Refuses bytes masks log number place masks' log'
  pub told : numbers ≡ line_numbers place

-- an accepted one: what it says is handed back
pub record SheetGiven (bytes masks log : List ℕ) (number : ℕ) (numbers masks' log' : List ℕ) : Type 0 where
  pub none : number ≡ 0
  pub parsed : Parsed
  pub handed : Handed bytes masks log parsed masks' log'
  pub told : numbers ≡ numbers_of parsed

abbrev pub SheetExported : List ℕ → List ℕ → List ℕ → ℕ → List ℕ → List ℕ → List ℕ → Type 0
SheetExported bytes masks log number numbers masks' log' =
    SheetHeld bytes masks log number numbers masks' log' ⊎ SheetGiven bytes masks log number numbers masks' log'

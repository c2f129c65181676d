-- Document 01, "Numbers of refusal", and what document 02, Q-2 and Q-7 add: when each number applies, which one is given, and the values that go with it.
use Rattle.std.specs.Prelude.{◌≡◌, ◌⊎◌, Bool, true, false, cond, List, [], ◌∷◌, ℕ, ◌*◌, ◌≤◌, ◌<◌, leb, length, get_or}
use Rattle.std.proofs.Math.Option.{Option, none, some}
use Rattle.laws.specs.Bit.{on}
use Rattle.meaning.specs.Limits.{fluent_limit, action_limit, places, text_limit, depth_limit, domain_limit, reading_limit, more_limit}
use Rattle.meaning.specs.Theory.{stride}
use Rattle.meaning.specs.Rule.{Kind, job_kind, Rule, Variable, Opens, actions_in, fluents_in, depth, backward_in, free_in, varies_in}

-- One row of the table for one call: its number is "given exactly when" this holds. A call has a row for each input that it has.
pub record Row : Type 1 where
  pub number : ℕ
  pub given : Type 0

infix 5 ◌when◌
abbrev pub ◌when◌ : ℕ → Type 0 → Row
k when x = record { number = k; given = x }

-- The number given is that of the first row of the call's list that holds: "smallest number first, except that 12 comes before 11" is the order of the list.
abbrev pub FirstHolding : List {1} Row → ℕ → Type 0
FirstHolding [] k = ⊥
FirstHolding (row ∷ rows) k = ((k ≡ row.number) × row.given) ⊎ ((row.given → ⊥) × FirstHolding rows k)

pub record Refused (rows : List {1} Row) (number : ℕ) : Type 0 where
  pub first : FirstHolding rows number

-- no refusal is given: no row holds
abbrev pub Accepted : List {1} Row → Type 0
Accepted [] = Unit {0}
Accepted (row ∷ rows) = (row.given → ⊥) × Accepted rows

-- where a number of the list is followed by a smaller one: nowhere, but for the places that the documents name
abbrev pub falls_from : ℕ → List {1} Row → List (ℕ × ℕ)
falls_from k [] = []
falls_from k (row ∷ rows) = cond (leb k row.number) (falls_from row.number rows) ((k, row.number) ∷ falls_from row.number rows)

abbrev pub falls : List {1} Row → List (ℕ × ℕ)
falls = falls_from 0

-- What every call answers, in one shape. Refused: the number, and "A refusal has ..", the values that go with it. Accepted: no number, and what is right.
pub record RefusedWith (rows : List {1} Row) (number : ℕ) (Blank : Type 0) : Type 0 where
  pub refused : Refused rows number
  pub blank : Blank

pub record AcceptedWith (rows : List {1} Row) (number : ℕ) (Right : Type 0) : Type 0 where
  pub none : number ≡ 0
  pub accepted : Accepted rows
  pub right : Right

abbrev pub Answered : List {1} Row → ℕ → Type 0 → Type 0 → Type 0
Answered rows number Blank Right = RefusedWith rows number Blank ⊎ AcceptedWith rows number Right

-- 3: "in a library call, a count or *more* out of range or a mask table of the wrong length".
abbrev pub BadCounts : ℕ → ℕ → Type 0
BadCounts fluents actions = (fluent_limit < fluents) ⊎ ((actions < 1) ⊎ (action_limit < actions))

abbrev pub BadTable : ℕ → List ℕ → Type 0
BadTable actions masks = length masks ≡ stride * actions → ⊥

-- 3 "for a bad domain": over 16 values; 0 is a call without variables
abbrev pub BadDomain : ℕ → Type 0
BadDomain domain = domain_limit < domain

-- 3 for a reading: "any other value is 3"
abbrev pub BadReading : ℕ → Type 0
BadReading reading = reading_limit < reading

abbrev pub BadMore : ℕ → Type 0
BadMore more = more_limit < more

-- 4: "start or an action's mask names a fluent the theory lacks"
pub record NamesLacking (fluents mask : ℕ) : Type 0 where
  pub fluent : ℕ
  pub lacking : fluents ≤ fluent
  pub named : on mask fluent ≡ true

pub record OneLacking (fluents : ℕ) (masks : List ℕ) : Type 0 where
  pub place : ℕ
  pub there : place < length masks
  pub lacks : NamesLacking fluents (get_or masks place 0)

abbrev pub BadMasks : ℕ → ℕ → List ℕ → Type 0
BadMasks fluents start masks = NamesLacking fluents start ⊎ OneLacking fluents masks

-- 5: "more than 63 actions, or an action the theory lacks"; how many are too many is the call's
pub record UnknownStep (actions : ℕ) (log : List ℕ) : Type 0 where
  pub place : ℕ
  pub there : place < length log
  pub lacking : actions ≤ get_or log place 0

abbrev pub BadLog : ℕ → ℕ → List ℕ → Type 0
BadLog limit actions log = (limit < length log) ⊎ UnknownStep actions log

-- "6 for the new signs in sheet=1, or domain 0 in a call": a rule has none of them where there are no values
abbrev pub Allowed : ℕ → Rule → Type 0
Allowed domain rule = domain ≡ 0 → varies_in rule ≡ false

-- 6: "a rule is empty, over 255 bytes, or not exactly one rule of its kind"; in reading one rule, "opens with no rule of that kind"
abbrev pub BadRule : ℕ → Kind → List ℕ → Type 0
BadRule domain kind bytes =
    (bytes ≡ []) ⊎ ((text_limit < length bytes) ⊎ ((rule : Rule) → Opens kind bytes rule [] → Allowed domain rule → ⊥))

abbrev pub BadOpening : ℕ → Kind → List ℕ → Type 0
BadOpening domain kind bytes =
    (bytes ≡ []) ⊎ ((text_limit < length bytes) ⊎ ((rule : Rule) (rest : List ℕ) → Opens kind bytes rule rest → Allowed domain rule → ⊥))

-- 7: "a rule names an action or fluent the theory lacks"; "a number plus the largest value is too big"
abbrev pub BadNames : ℕ → ℕ → ℕ → Rule → Type 0
BadNames domain fluents actions rule = (actions < actions_in domain rule) ⊎ (fluents < fluents_in domain rule)

-- 8: "depth over 24"
abbrev pub TooDeep : Rule → Type 0
TooDeep rule = depth_limit < depth rule

-- 9: "a backward sign in a job outside every `<` walk"
abbrev pub BadJob : Kind → Rule → Type 0
BadJob kind rule = (kind ≡ job_kind) × (backward_in rule ≡ true)

-- 13, "between 9 and 10": "an unbound variable"
pub record Unbound (rule : Rule) : Type 0 where
  pub variable : Variable
  pub free : free_in variable rule ≡ true

-- 10: "then > now, or now (or the position asked) > the log's length"
abbrev pub BadTimes : ℕ → ℕ → List ℕ → Type 0
BadTimes t now log = (now < t) ⊎ (length log < now)

-- 12: "the lent output is shorter than the normal form, or than *more*"
abbrev pub TooShort : ℕ → ℕ → Type 0
TooShort room wanted = room < wanted

-- "A refusal has set 0, count 0, earliest 64, state 0, an empty part where a part is handed back"
abbrev pub no_set : ℕ
no_set = 0

abbrev pub no_count : ℕ
no_count = 0

abbrev pub no_earliest : ℕ
no_earliest = places

abbrev pub no_state : ℕ
no_state = 0

-- a verdict says yes exactly where this is so, and no where it is not; a refusal has none
abbrev pub no_verdict : Option Bool
no_verdict = none

abbrev pub YesOrNo : Type 0 → Option Bool → Type 0
YesOrNo So verdict = ((verdict ≡ some true) × So) ⊎ ((verdict ≡ some false) × ¬ So)

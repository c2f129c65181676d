-- Which actions a search need not try: those that a smaller one stands in for, as the mask table and the job's text tell it. What the functions that look for them find. Knows masks and text;
-- no walk and no log.
use Rattle.std.specs.Prelude.{◌≡◌, Some, ◌⊎◌, ◌↔◌, true, false, List, ℕ, ◌+◌, ◌-◌, ◌*◌, ◌^◌, ◌≤◌, ◌<◌, length, get_or}
use Rattle.std.specs.Int.Bits.{bit_or}
use Rattle.laws.specs.Bit.{on}
use Rattle.meaning.specs.Limits.{action_limit}
use Rattle.meaning.specs.Theory.{stride}
use Rattle.meaning.specs.StandIn.{Decides, Alike, StandsIn}
use Rattle.spelling.specs.Scan.{NumberAt}
use Rattle.theory.specs.Subject.{table_masks}

-- the table is one of so many actions
pub record Table (actions : ℕ) (masks : List ℕ) : Type 0 where
  pub few : actions ≤ action_limit
  pub whole : length masks ≡ stride * actions

-- the numbers that a word does not hold
abbrev pub others : ℕ → ℕ
others word = 2 ^ action_limit - 1 - word

-- behind one of two signs, at this place of the text, stands this number
abbrev pub Behind : List ℕ → ℕ → ℕ → ℕ → ℕ → Type 0
Behind text one other at n = ((get_or text at 0 ≡ one) ⊎ (get_or text at 0 ≡ other)) × NumberAt text (at + 1) (Some n)

-- the word holds the numbers of actions that stand behind one of two signs in the first k places
pub record Named (text : List ℕ) (one other k word : ℕ) : Type 0 where
  pub each : (n : ℕ) → (on word n ≡ true) ↔ ((n < action_limit) × ((at : ℕ) × (at < k) × Behind text one other at n))

-- a sum, `bNNv`, `gNNv` or `sNNv`: its sign; and none stands in the first k places
abbrev pub Sum : ℕ → Type 0
Sum sign = (sign ≡ 98) ⊎ (sign ≡ 103) ⊎ (sign ≡ 115)

pub record Unsummed (text : List ℕ) (k : ℕ) : Type 0 where
  pub each : (at : ℕ) → at < k → Sum (get_or text at 0) → ⊥

-- an `n` stands in the first k places
abbrev pub AnyStep : List ℕ → ℕ → Type 0
AnyStep text k = (at : ℕ) × (at < k) × (get_or text at 0 ≡ 110)

-- the word holds the fluents of a need, a ban, a when or an unless of the first k actions
pub record Decisive (masks : List ℕ) (k word : ℕ) : Type 0 where
  pub each : (i : ℕ) → (on word i ≡ true) ↔ ((a : ℕ) × (a < k) × Decides (table_masks masks a) i)

-- one of these actions, smaller than b, is like it on the fluents that matter
pub record Like (masks : List ℕ) (these matter b : ℕ) : Type 0 where
  pub by : ℕ
  pub smaller : by < b
  pub one : on these by ≡ true
  pub alike : Alike (others matter) (table_masks masks by) (table_masks masks b)

-- some action stands in for b
abbrev pub Stood : List ℕ → ℕ → ℕ → ℕ → Type 0
Stood masks unnamed idle b = (a : ℕ) × StandsIn (table_masks masks) unnamed idle a b

-- of the first k actions the word leaves out those that have a stand-in, and no other
pub record Sifted (masks : List ℕ) (unnamed idle k kept : ℕ) : Type 0 where
  pub each : (b : ℕ) → b < action_limit → (on kept b ≡ false) ↔ ((b < k) × Stood masks unnamed idle b)

-- What the job names of actions and of fluents, and what the conditions of actions name
pub record Known (actions : ℕ) (masks job : List ℕ) (labels fluents decide : ℕ) : Type 0 where
  pub acts : Named job 97 114 (length job) labels
  pub shows : Named job 102 102 (length job) fluents
  pub decides : Decisive masks actions decide

-- An action is left out of a job with a sign that takes any action, and no sum: a smaller one that the job names as little is possible in the same states, and does the same to every fluent
-- that matters.
pub record LeftOut (actions : ℕ) (masks job : List ℕ) (b : ℕ) : Type 0 where
  pub few : b < actions
  pub unsummed : Unsummed job (length job)
  pub any : AnyStep job (length job)
  pub labels : ℕ
  pub fluents : ℕ
  pub decide : ℕ
  pub known : Known actions masks job labels fluents decide
  pub stood : Stood masks (others labels) (others (bit_or fluents decide)) b

-- bit b is off exactly where action b is left out
pub record Worth (actions : ℕ) (masks job : List ℕ) (worth : ℕ) : Type 0 where
  pub each : (b : ℕ) → b < action_limit → (on worth b ≡ false) ↔ LeftOut actions masks job b

-- A stand-in: an action that may take another's place in a log, and no job can tell. Knows masks and what a rule names; no log.
use Rattle.std.specs.Prelude.{◌≡◌, ◌⊎◌, true, false, cond, ℕ, ◌<◌}
use Rattle.laws.specs.Bit.{on}
use Rattle.meaning.specs.Limits.{fluent_limit}
use Rattle.meaning.specs.Theory.{Clause, Masks}
use Rattle.meaning.specs.Rule.{Name, plain, plus, Walk, walk_names}

-- 1 for a number that the mask holds, 0 for any other; a sum may stand for any number
abbrev pub among : ℕ → Name → ℕ
among mask (plain i) = cond (on mask i) 1 0
among mask (plus i v) = 1

-- the walk names no action of the one mask and no fluent of the other, not in its tests either
abbrev pub NamesNone : ℕ → ℕ → Walk → Type 0
NamesNone actions fluents x = walk_names (among actions) (among fluents) x ≡ 0

-- a fluent decides about a clause, or about an action: a need, a ban, a when or an unless names it
abbrev pub Asked : Clause → ℕ → Type 0
Asked c i = (on c.when i ≡ true) ⊎ (on c.unless i ≡ true)

abbrev pub Decides : Masks → ℕ → Type 0
Decides m i = ((on m.need i ≡ true) ⊎ (on m.ban i ≡ true)) ⊎ (Asked m.one i ⊎ Asked m.two i)

-- these fluents decide about no action
abbrev pub Idle : (ℕ → Masks) → ℕ → Type 0
Idle masks fluents = (a i : ℕ) → Decides (masks a) i → on fluents i ≡ false

-- acting in the same states, and but for the idle fluents with the same effects: "put wins", so a fluent that is put may be dropped or not
pub record SameClause (idle : ℕ) (c c' : Clause) : Type 0 where
  pub when : c.when ≡ c'.when
  pub unless : c.unless ≡ c'.unless
  pub put : (i : ℕ) → i < fluent_limit → on idle i ≡ false → on c.put i ≡ on c'.put i
  pub drop : (i : ℕ) → i < fluent_limit → on idle i ≡ false → on c.put i ≡ false → on c.drop i ≡ on c'.drop i

-- possible in the same states, with the same effects
pub record Alike (idle : ℕ) (m m' : Masks) : Type 0 where
  pub need : m.need ≡ m'.need
  pub ban : m.ban ≡ m'.ban
  pub one : SameClause idle m.one m'.one
  pub two : SameClause idle m.two m'.two

-- a smaller action a stands in for b: neither is named, and they are alike
pub record StandsIn (masks : ℕ → Masks) (unnamed idle a b : ℕ) : Type 0 where
  pub smaller : a < b
  pub apart : on unnamed a ≡ true
  pub spared : on unnamed b ≡ true
  pub alike : Alike idle (masks a) (masks b)

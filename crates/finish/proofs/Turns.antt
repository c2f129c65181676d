-- The fluents that can be on and those that can be off, gathered from action 0 up. Knows numbers and masks; no job.
use mathlib.Core.Path.{◌≡◌, refl, sym, subst, ◌∙◌}
use mathlib.Core.Bool.{true, false}
use Prim.Native.Nat.{ℕ, ◌+◌, ◌-◌, ◌^◌, ◌<◌}
use native.Mathlib.Decide.{ℕ_discrete}
use native.Mathlib.Omega.{arith}
use lib.Bits.{bit_and, bit_or}
use borrow.Author.Tests.{lt-ltb}
use Rattle.laws.specs.Bit.{on}
use Rattle.laws.proofs.Bitwise.{on_and}
use Rattle.laws.proofs.Shift.{on_not}
use Rattle.meaning.specs.Limits.{fluent_limit}
use Rattle.meaning.specs.Theory.{Clause, Masks}
use Rattle.meaning.specs.Lengths.{Turns, Reaching}
use Rattle.meaning.proofs.Measured.{or_left, or_right}

-- what is off in a state
pub off_there : (state i : ℕ) → state < 2 ^ fluent_limit → i < fluent_limit → on state i ≡ false → on (2 ^ fluent_limit - 1 - state) i ≡ true
off_there state i short h e = on_not fluent_limit short i ∙ rw (lt-ltb i fluent_limit h, e) refl

-- what drop names and put does not
pub gone_there : (put drop i : ℕ) → put < 2 ^ fluent_limit → i < fluent_limit → on drop i ≡ true → on put i ≡ false
    → on (bit_and drop (2 ^ fluent_limit - 1 - put)) i ≡ true
gone_there put drop i short h e off = on_and drop (2 ^ fluent_limit - 1 - put) i ∙ rw (e, off_there put i short h off) refl

-- a clause turns no more among more
turns_more : (c : Clause) (ons offs ons' offs' : ℕ) → Turns c ons offs → Turns c (bit_or ons ons') (bit_or offs offs')
turns_more c ons offs ons' offs' t =
    record { put = λ i low e. or_left ons ons' i (t.put i low e); dropped = λ i low e off. or_left offs offs' i (t.dropped i low e off) }

-- what it drops and does not put, in a word
abbrev pub Gone : Clause → ℕ → Type 0
Gone c gone = (i : ℕ) → i < fluent_limit → on c.drop i ≡ true → on c.put i ≡ false → on gone i ≡ true

module _ (masks : ℕ → Masks) (state : ℕ) where
  pub reach_none : (ons : ℕ) → ons ≡ state → state < 2 ^ fluent_limit → Reaching 0 masks state ons (2 ^ fluent_limit - 1 - state)
  reach_none ons same short = record {
    here = λ i h. (λ e. subst (λ (n : ℕ). on n i ≡ true) (sym same) e, λ e. off_there state i short h e);
    one = λ a h. absurd (omega arith);
    two = λ a h. absurd (omega arith);
  }

  pub reach_more : (a ons offs gone gone' : ℕ) → Gone (masks a).one gone → Gone (masks a).two gone' → Reaching a masks state ons offs
      → Reaching (a + 1) masks state (bit_or ons (bit_or (masks a).one.put (masks a).two.put)) (bit_or offs (bit_or gone gone'))
  reach_more a ons offs gone gone' lost lost' r = record {
    here = λ i h. (λ e. or_left ons puts i ((r.here i h).0 e), λ e. or_left offs drops i ((r.here i h).1 e));
    one = λ b h. elim (ℕ_discrete b a) [
      | yes same ↦ subst (λ (j : ℕ). Turns (masks j).one (bit_or ons puts) (bit_or offs drops)) (sym same) first
      | no other ↦ turns_more (masks b).one ons offs puts drops (r.one b (omega arith))
    ];
    two = λ b h. elim (ℕ_discrete b a) [
      | yes same ↦ subst (λ (j : ℕ). Turns (masks j).two (bit_or ons puts) (bit_or offs drops)) (sym same) second
      | no other ↦ turns_more (masks b).two ons offs puts drops (r.two b (omega arith))
    ];
  }
    where
      put : ℕ
      put = (masks a).one.put

      put' : ℕ
      put' = (masks a).two.put

      puts : ℕ
      puts = bit_or put put'

      drops : ℕ
      drops = bit_or gone gone'

      first : Turns (masks a).one (bit_or ons puts) (bit_or offs drops)
      first = record {
        put = λ i low e. or_right ons puts i (or_left put put' i e);
        dropped = λ i low e off. or_right offs drops i (or_left gone gone' i (lost i low e off));
      }

      second : Turns (masks a).two (bit_or ons puts) (bit_or offs drops)
      second = record {
        put = λ i low e. or_right ons puts i (or_right put put' i e);
        dropped = λ i low e off. or_right offs drops i (or_right gone gone' i (lost' i low e off));
      }

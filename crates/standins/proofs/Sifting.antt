-- Actions sifted from the first one up: what is left out has a stand-in, and what has one is left out, since of those alike the smallest is kept. Knows words and masks.
use mathlib.Core.Path.{◌≡◌, refl, sym, subst, ◌∙◌}
use mathlib.Core.Logic.{⊎_elim}
use mathlib.Core.Bool.{Bool, true, false, ◌&&◌}
use mathlib.Core.List.{List}
use Prim.Native.Nat.{ℕ, zero, suc, ◌+◌, ◌-◌, ◌*◌, ◌%◌, ◌^◌, ◌≤◌, ◌<◌}
use native.Mathlib.Decide.{ℕ_discrete}
use native.Mathlib.Omega.{arith}
use lib.Bits.{bit_and, bit_or}
use lib.ListN.{length}
use borrow.Author.Tests.{eq-eqb, ne_eqb, lt-ltb}
use Rattle.laws.specs.Bit.{on}
use Rattle.laws.proofs.Truth.{off_on, true_or_false, and_iff}
use Rattle.laws.proofs.Bitwise.{on_and}
use Rattle.laws.proofs.Shift.{on_not, on_one_shl, on_ones}
use Rattle.meaning.specs.Limits.{action_limit}
use Rattle.meaning.specs.StandIn.{StandsIn}
use Rattle.theory.specs.Subject.{table_masks}
use Rattle.standins.specs.Worth.{others, Unsummed, AnyStep, Like, Stood, Sifted, Known, Worth}
use Rattle.standins.proofs.Same.{stands_onward}
use Rattle.standins.proofs.Determined.{named_determined, decisive_determined}

-- the word without one action
abbrev Without : ℕ → ℕ → ℕ
Without kept b = bit_and kept (2 ^ action_limit - 1 - 1 * 2 ^ b % 2 ^ action_limit)

others_stay : (kept b c : ℕ) → c < action_limit → b < action_limit → (c ≡ b → ⊥) → on (Without kept b) c ≡ on kept c
others_stay kept b c few known apart =
    rw (on_and, on_not action_limit {a = 1 * 2 ^ b % 2 ^ action_limit} (omega arith) c, on_one_shl b action_limit c known, lt-ltb c action_limit few, ne_eqb c b apart) (unit (on kept c))
  where
    unit : (x : Bool) → (x && true) ≡ x
    unit true = refl
    unit false = refl

it_goes : (kept b : ℕ) → b < action_limit → on (Without kept b) b ≡ false
it_goes kept b known =
    rw (on_and, on_not action_limit {a = 1 * 2 ^ b % 2 ^ action_limit} (omega arith) b, on_one_shl b action_limit b known, lt-ltb b action_limit known, eq-eqb b b refl) (none (on kept b))
  where
    none : (x : Bool) → (x && false) ≡ false
    none true = refl
    none false = refl

all_kept : (b : ℕ) → b < action_limit → on (2 ^ action_limit - 1) b ≡ true
all_kept b few = on_ones action_limit b ∙ lt-ltb b action_limit few

module _ (masks : List ℕ) (unnamed idle : ℕ) where
  pub sifted_none : Sifted masks unnamed idle 0 (2 ^ action_limit - 1)
  sifted_none = record { each = λ b few. (λ off. absurd (off_on off (all_kept b few)), λ h. absurd (omega (arith, h.0))) }

  -- the next action has no stand-in, and is kept
  pub sifted_kept : (k kept : ℕ) → (Stood masks unnamed idle k → ⊥) → Sifted masks unnamed idle k kept → Sifted masks unnamed idle (k + 1) kept
  sifted_kept k kept none d = record {
    each = λ b few. (
      λ off. let old = (d.each b few).0 off in (omega (arith, old.0), old.1),
      λ h. elim (ℕ_discrete b k) [
        | yes e ↦ absurd (none (subst (Stood masks unnamed idle) e h.1))
        | no e ↦ (d.each b few).1 (omega (arith, h.0), h.1)
      ],
    );
  }

  -- it has one, and is left out
  pub sifted_out : (k kept : ℕ) → k < action_limit → Stood masks unnamed idle k → Sifted masks unnamed idle k kept → Sifted masks unnamed idle (k + 1) (Without kept k)
  sifted_out k kept known stood d = record {
    each = λ b few. elim (ℕ_discrete b k) [
      | yes e ↦ (λ off. (omega arith, subst (Stood masks unnamed idle) (sym e) stood), λ h. subst (λ (c : ℕ). on (Without kept k) c ≡ false) (sym e) (it_goes kept k known))
      | no e ↦ (
        λ off. let old = (d.each b few).0 (sym (others_stay kept k b few known e) ∙ off) in (omega (arith, old.0), old.1),
        λ h. others_stay kept k b few known e ∙ (d.each b few).1 (omega (arith, h.0), h.1),
      )
    ];
  }

  -- of the stand-ins for b that are below k one is kept: the smallest
  lowest : (k kept : ℕ) → k ≤ action_limit → Sifted masks unnamed idle k kept → (below a b : ℕ) → a < below → a < k → StandsIn (table_masks masks) unnamed idle a b
      → (c : ℕ) × (on kept c ≡ true) × StandsIn (table_masks masks) unnamed idle c b
  lowest k kept most d zero a b l low h = absurd (omega arith)
  lowest k kept most d (suc below) a b l low h = ⊎_elim
      (λ held. (a, held, h))
      (λ off.
      let more = (d.each a (omega arith)).0 off in
      let less = more.1.1.smaller in
      lowest k kept most d below more.1.0 b (omega arith) (omega arith) (stands_onward (table_masks masks) unnamed idle more.1.0 a b more.1.1 h))
      (true_or_false (on kept a))

-- one of those kept that the job does not name either: so it is found that b has a stand-in
pub like_stands : (masks : List ℕ) (kept unnamed matter b : ℕ) → on unnamed b ≡ true → Like masks (bit_and kept unnamed) matter b → Stood masks unnamed (others matter) b
like_stands masks kept unnamed matter b free h = (
  h.by,
  record {
    smaller = h.smaller;
    apart = ((and_iff (on kept h.by) (on unnamed h.by)).0 (sym (on_and kept unnamed h.by) ∙ h.one)).1;
    spared = free;
    alike = h.alike;
  },
)

pub stands_like : (masks : List ℕ) (kept unnamed matter b : ℕ) → b ≤ action_limit → Sifted masks unnamed (others matter) b kept
    → Stood masks unnamed (others matter) b → Like masks (bit_and kept unnamed) matter b
stands_like masks kept unnamed matter b most d s =
    let found = lowest masks unnamed (others matter) b kept most d b s.0 b s.1.smaller s.1.smaller s.1 in
    record {
      by = found.0;
      smaller = found.2.smaller;
      one = on_and kept unnamed found.0 ∙ (and_iff (on kept found.0) (on unnamed found.0)).1 (found.1, found.2.apart);
      alike = found.2.alike;
    }

-- every action is worth trying; or all but those that are sifted out
pub all_worth : (actions : ℕ) (masks job : List ℕ) → (Unsummed job (length job) × AnyStep job (length job) → ⊥) → Worth actions masks job (2 ^ action_limit - 1)
all_worth actions masks job none = record { each = λ b few. (λ off. absurd (off_on off (all_kept b few)), λ h. absurd (none (h.unsummed, h.any))) }

pub sifted_worth : (actions : ℕ) (masks job : List ℕ) (labels fluents decide kept : ℕ) → Unsummed job (length job) → AnyStep job (length job)
    → Known actions masks job labels fluents decide → Sifted masks (others labels) (others (bit_or fluents decide)) actions kept → Worth actions masks job kept
sifted_worth actions masks job labels fluents decide kept unsummed any known sift = record {
  each = λ b few. (
    λ off.
        let found = (sift.each b few).0 off in
        record { few = found.0; unsummed = unsummed; any = any; labels = labels; fluents = fluents; decide = decide; known = known; stood = found.1 },
    λ h. (sift.each b few).1 (h.few, same_words h.labels h.fluents h.decide h.known b h.stood),
  );
}
  where
    same_words : (l f d : ℕ) → Known actions masks job l f d → (b : ℕ) → Stood masks (others l) (others (bit_or f d)) b → Stood masks (others labels) (others (bit_or fluents decide)) b
    same_words l f d k b s =
        rw (
          named_determined _ _ _ _ labels l known.acts k.acts,
          named_determined _ _ _ _ fluents f known.shows k.shows,
          decisive_determined _ _ decide d known.decides k.decides,
        ) s

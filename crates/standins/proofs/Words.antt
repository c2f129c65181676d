-- Words of the numbers that stand in a text and of the fluents of conditions, a place or an action after the other. Knows words, text and masks.
use mathlib.Core.Path.{◌≡◌, refl, sym, ap, subst, ◌∙◌}
use mathlib.Core.Logic.{◌⊎◌, ◌↔◌, inl, inr, ⊎_elim}
use mathlib.Core.Bool.{Bool, true, false, not, ◌&&◌}
use mathlib.Core.List.{List}
use Prim.Native.Nat.{ℕ, ◌+◌, ◌*◌, ◌/◌, ◌%◌, ◌^◌, ◌≤◌, ◌<◌}
use native.Mathlib.Decide.{ℕ_discrete, dec_lt}
use native.Mathlib.Omega.{arith}
use lib.Bits.{bit_or}
use lib.Dec.{ltb}
use borrow.Author.Tests.{not-false, eqb-true, eq-eqb, ne_eqb, lt-ltb}
use Rattle.laws.specs.Bit.{on}
use Rattle.laws.proofs.Truth.{off_on, or_iff}
use Rattle.laws.proofs.On.{on_none}
use Rattle.laws.proofs.Bitwise.{on_or}
use Rattle.laws.proofs.Shift.{on_not, on_one_shl}
use Rattle.meaning.specs.Limits.{action_limit}
use Rattle.meaning.specs.Theory.{Clause, Masks}
use Rattle.meaning.specs.StandIn.{Decides}
use Rattle.std.specs.Prelude.{Some, None}
use Rattle.spelling.specs.Scan.{NumberAt}
use Rattle.spelling.proofs.Determined.{two_digits_determined}
use Rattle.theory.specs.Subject.{table_masks}
use Rattle.standins.specs.Worth.{others, Behind, Named, Decisive}

-- the lowest bit of a word that was shifted down is one of its bits
pub bit_on : (word a : ℕ) → word / 2 ^ a % 2 ≡ 1 → on word a ≡ true
unfolding on
bit_on word a h = eq-eqb (word / 2 ^ a % 2) 1 h

pub bit_off : (word a : ℕ) → (word / 2 ^ a % 2 ≡ 1 → ⊥) → on word a ≡ false
unfolding on
bit_off word a h = ne_eqb (word / 2 ^ a % 2) 1 h

-- what a word holds, the others lack; and what the others lack, it holds
pub others_lack : (word i : ℕ) → on word i ≡ true → on (others word) i ≡ false
others_lack word i h = elim (dec_lt word (2 ^ action_limit)) [
  | yes l ↦ on_not action_limit l i ∙ both (ltb i action_limit) (on word i) h
  | no l ↦ let none : others word ≡ 0 = omega arith in rw (none, on_none i)
]
  where
    both : (a b : Bool) → b ≡ true → (a && not b) ≡ false
    both true b e = rw e
    both false b e = refl

pub word_holds : (word i : ℕ) → word < 2 ^ action_limit → i < action_limit → on (others word) i ≡ false → on word i ≡ true
word_holds word i l low h = not-false (on word i) (sym (ap (λ (b : Bool). b && not (on word i)) (lt-ltb i action_limit low)) ∙ sym (on_not action_limit l i) ∙ h)

-- the number at a place, as a bit
module _ (text : List ℕ) (at : ℕ) where
  abbrev pub BitAt : ℕ → Type 0
  BitAt word = (n : ℕ) → (on word n ≡ true) ↔ ((n < action_limit) × NumberAt text at (Some n))

  pub one_bit : (m : ℕ) → m < action_limit → NumberAt text at (Some m) → BitAt (1 * 2 ^ m % 2 ^ action_limit)
  one_bit m low here n = (
    λ e.
        let same : n ≡ m = eqb-true n m (sym (on_one_shl m action_limit n low) ∙ e) in
        (omega arith, subst (λ (k : ℕ). NumberAt text at (Some k)) (sym same) here),
    λ h.
        let same = two_digits_determined text at (Some m) (Some n) here h.1 in
        let e : m ≡ n = cc in
        on_one_shl m action_limit n low ∙ eq-eqb n m (sym e),
  )

  pub no_bit : (m : ℕ) → action_limit ≤ m → NumberAt text at (Some m) → BitAt 0
  no_bit m high here n = (
    λ e. absurd (off_on (on_none n) e),
    λ h.
        let same = two_digits_determined text at (Some m) (Some n) here h.1 in
        let e : m ≡ n = cc in
        absurd (omega (arith, h.0)),
  )

  pub no_number : NumberAt text at None → BitAt 0
  no_number other n = (λ e. absurd (off_on (on_none n) e), λ h. absurd (other n _ h.1.0 h.1.1))

-- the numbers behind two signs, a place after the other
module _ (text : List ℕ) (one other : ℕ) where
  pub named_none : Named text one other 0 0
  named_none = record { each = λ n. (λ e. absurd (off_on (on_none n) e), λ h. absurd (omega (arith, h.1.1))) }

  pub named_more : (k all bit : ℕ) → ((n : ℕ) → (on bit n ≡ true) ↔ ((n < action_limit) × Behind text one other k n)) → Named text one other k all
      → Named text one other (k + 1) (bit_or all bit)
  named_more k all bit here d = record {
    each = λ n. (
      λ e. ⊎_elim
          (λ h. let old = (d.each n).0 h in (old.0, (old.1.0, omega (arith, old.1.1), old.1.2)))
          (λ h. let new = (here n).0 h in (new.0, (k, omega arith, new.1)))
          ((or_iff (on all n) (on bit n)).0 (sym (on_or all bit n) ∙ e)),
      λ h. on_or all bit n ∙ (or_iff (on all n) (on bit n)).1 (elim (ℕ_discrete h.1.0 k) [
        | yes e ↦ inr ((here n).1 (h.0, subst (λ (i : ℕ). Behind text one other i n) e h.1.2))
        | no e ↦ inl ((d.each n).1 (h.0, (h.1.0, omega (arith, h.1.1), h.1.2)))
      ]),
    );
  }

-- the fluents of an action's conditions, in one word
pub decides_word : (m : Masks) (i : ℕ)
    → (on (bit_or (bit_or m.need m.ban) (bit_or (bit_or m.one.when m.one.unless) (bit_or m.two.when m.two.unless))) i ≡ true) ↔ Decides m i
decides_word m i = (
  λ e. ⊎_elim (λ h. inl ((either m.need m.ban).0 h)) (λ h. inr (⊎_elim (λ k. inl ((asked m.one).0 k)) (λ k. inr ((asked m.two).0 k)) ((either (asks m.one) (asks m.two)).0 h)))
      ((either (bit_or m.need m.ban) (bit_or (asks m.one) (asks m.two))).0 e),
  λ d. (either (bit_or m.need m.ban) (bit_or (asks m.one) (asks m.two))).1
      (⊎_elim (λ h. inl ((either m.need m.ban).1 h)) (λ h. inr ((either (asks m.one) (asks m.two)).1 (⊎_elim (λ k. inl ((asked m.one).1 k)) (λ k. inr ((asked m.two).1 k)) h))) d),
)
  where
    asks : Clause → ℕ
    asks c = bit_or c.when c.unless

    either : (a b : ℕ) → (on (bit_or a b) i ≡ true) ↔ ((on a i ≡ true) ⊎ (on b i ≡ true))
    either a b = (λ e. (or_iff (on a i) (on b i)).0 (sym (on_or a b i) ∙ e), λ h. on_or a b i ∙ (or_iff (on a i) (on b i)).1 h)

    asked : (c : Clause) → (on (asks c) i ≡ true) ↔ ((on c.when i ≡ true) ⊎ (on c.unless i ≡ true))
    asked c = either c.when c.unless

-- an action after the other
module _ (masks : List ℕ) where
  pub decisive_none : Decisive masks 0 0
  decisive_none = record { each = λ i. (λ e. absurd (off_on (on_none i) e), λ h. absurd (omega (arith, h.1))) }

  pub decisive_more : (k all here : ℕ) → ((i : ℕ) → (on here i ≡ true) ↔ Decides (table_masks masks k) i) → Decisive masks k all → Decisive masks (k + 1) (bit_or all here)
  decisive_more k all here held d = record {
    each = λ i. (
      λ e. ⊎_elim
          (λ h. let old = (d.each i).0 h in (old.0, omega (arith, old.1), old.2))
          (λ h. (k, omega arith, (held i).0 h))
          ((or_iff (on all i) (on here i)).0 (sym (on_or all here i) ∙ e)),
      λ h. on_or all here i ∙ (or_iff (on all i) (on here i)).1 (elim (ℕ_discrete h.0 k) [
        | yes e ↦ inr ((held i).1 (subst (λ (j : ℕ). Decides (table_masks masks j) i) e h.2))
        | no e ↦ inl ((d.each i).1 (h.0, omega (arith, h.1), h.2))
      ]),
    );
  }

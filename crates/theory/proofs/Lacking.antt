-- What a mask names beyond the fluents of a theory, by one shift; and what several masks name, by one mask. Knows bits and refusal 4; no code.
use mathlib.Core.Path.{◌≡◌, sym, ap, ◌∙◌}
use mathlib.Core.Logic.{◌↔◌, ◌⊎◌, inl, inr, ⊎_elim}
use mathlib.Core.Bool.{true}
use mathlib.Core.List.{List}
use Prim.Native.Nat.{ℕ, ◌+◌, ◌-◌, ◌/◌, ◌^◌, ◌≤◌, ◌<◌}
use native.Mathlib.Nat.{eq-or-lt_of_le}
use native.Mathlib.Decide.{dec_le}
use native.Mathlib.Omega.{arith}
use lib.Bits.{bit_or}
use lib.ListN.{length, get_or}
use lib.Pow.{shr_le}
use Rattle.laws.specs.Bit.{on, first_below}
use Rattle.laws.proofs.On.{on_none, on_shr, on_high, same_bits}
use Rattle.laws.proofs.Bitwise.{on_or}
use Rattle.laws.proofs.First.{first_le, first_found, first_none}
use Rattle.laws.proofs.Truth.{or_iff, off_on}
use Rattle.meaning.specs.Refusal.{NamesLacking, BadMasks}
use Rattle.theory.specs.Union.{Named, Union}

-- a number that is not 0 has a bit on
pub some_on : (k : ℕ) {n : ℕ} → n < 2 ^ k → (n ≡ 0 → ⊥) → (i : ℕ) × (on n i ≡ true)
some_on k {n} small more =
    ⊎_elim
    (λ none.
    let off = (first_none k (on n)).0 none in
    absurd (more (same_bits n 0 (λ i.
    rw on_none (elim (dec_le k i) [ yes far ↦ on_high k small far | no near ↦ off i (omega arith) ])))))
    (λ found. (first_below k (on n), first_found k (on n) found))
    (eq-or-lt_of_le (first_le k (on n)))

-- nothing is left of a number after a shift: it has no bit on from there
shifted_out : (n k i : ℕ) → n / 2 ^ k ≡ 0 → k ≤ i → on n i ≡ true → ⊥
shifted_out n k i none far h =
    let back : i - k + k ≡ i = omega arith in
    off_on (on_none (i - k)) (sym (ap (λ (m : ℕ). on m (i - k)) none) ∙ on_shr n k (i - k) ∙ ap (on n) back ∙ h)

-- what is left of the mask after its first `fluents` bits is what the theory lacks
pub lacking_iff : (k fluents : ℕ) {mask : ℕ} → mask < 2 ^ k → (mask / 2 ^ fluents ≡ 0 → ⊥) ↔ NamesLacking fluents mask
lacking_iff k fluents {mask} small = (
  λ more.
      let rest : mask / 2 ^ fluents < 2 ^ k = omega (arith, shr_le mask fluents) in
      let bit = some_on k rest more in
      record { fluent = bit.0 + fluents; lacking = omega arith; named = sym (on_shr mask fluents bit.0) ∙ bit.1 },
  λ l none. shifted_out mask fluents l.fluent none l.lacking l.named,
)

-- no mask, and one mask more
pub union_none : (masks : List ℕ) → Union masks 0 0
union_none masks = record { all = λ i m. absurd (omega (arith, m.there)); only = λ i h. absurd (off_on (on_none i) h) }

pub union_more : (masks : List ℕ) (n all : ℕ) → Union masks n all → Union masks (n + 1) (bit_or all (get_or masks n 0))
union_more masks n all u =
    record {
      all = λ i m. on_or all (get_or masks n 0) i ∙ (or_iff (on all i) (on (get_or masks n 0) i)).1 (later i m);
      only = λ i h. ⊎_elim (earlier i) (λ l. record { place = n; there = omega arith; names = l })
          ((or_iff (on all i) (on (get_or masks n 0) i)).0 (sym (on_or all (get_or masks n 0) i) ∙ h));
    }
  where
    earlier : (i : ℕ) → on all i ≡ true → Named masks (n + 1) i
    earlier i h = let m = u.only i h in let l = m.there in record { place = m.place; there = omega arith; names = m.names }

    later : (i : ℕ) → Named masks (n + 1) i → (on all i ≡ true) ⊎ (on (get_or masks n 0) i ≡ true)
    later i m =
        let within : m.place ≤ n = omega (arith, m.there) in
        ⊎_elim
        (λ last. inr (ap (λ (p : ℕ). on (get_or masks p 0) i) (sym last) ∙ m.names))
        (λ l. inl (u.all i (record { place = m.place; there = l; names = m.names })))
        (eq-or-lt_of_le within)

-- "start or an action's mask names a fluent the theory lacks"
pub masks_lacking_iff : (fluents start : ℕ) (masks : List ℕ) (all : ℕ) → Union masks (length masks) all
    → NamesLacking fluents (bit_or start all) ↔ BadMasks fluents start masks
masks_lacking_iff fluents start masks all u = (
  λ l. ⊎_elim
      (λ h. inl (record { fluent = l.fluent; lacking = l.lacking; named = h }))
      (λ h.
      let m = u.only l.fluent h in
      inr (record { place = m.place; there = m.there; lacks = record { fluent = l.fluent; lacking = l.lacking; named = m.names } }))
      ((or_iff (on start l.fluent) (on all l.fluent)).0 (sym (on_or start all l.fluent) ∙ l.named)),
  ⊎_elim
      (λ l. either l.fluent l.lacking (inl l.named))
      (λ o.
      let l = o.lacks in
      either l.fluent l.lacking (inr (u.all l.fluent (record { place = o.place; there = o.there; names = l.named })))),
)
  where
    either : (i : ℕ) → fluents ≤ i → (on start i ≡ true) ⊎ (on all i ≡ true) → NamesLacking fluents (bit_or start all)
    either i far h = record { fluent = i; lacking = far; named = on_or start all i ∙ (or_iff (on start i) (on all i)).1 h }

-- Any two outcomes that the contracts of this crate allow are equal: a set is told by its positions, a table by what each of its slots has.
use mathlib.Core.Path.{◌≡◌, sym, ap, subst⁻¹, ◌∙◌}
use mathlib.Core.Logic.{◌⊎◌, inl, inr, ⊎_elim}
use mathlib.Core.List.{List}
use Prim.Native.Nat.{ℕ, zero, suc, ◌≤◌, ◌<◌}
use native.Mathlib.Decide.{dec_lt, ℕ_discrete}
use native.Mathlib.Omega.{arith}
use lib.ListN.{length, get_or}
use lib.Seq.{ext_get_or}
use Rattle.laws.proofs.On.{same_bits}
use Rattle.laws.proofs.Truth.{same_truth}
use Rattle.positions.specs.declared.PositionSet.{PositionSet}
use Rattle.positions.specs.Positions.{holds, Proper}
use Rattle.positions.proofs.Held.{same_set}
use Rattle.steps.specs.declared.letters.Values.{Values}
use Rattle.steps.specs.Values.{listed}
use Rattle.runs.specs.Image.{Set}
use Rattle.runs.specs.Values.{own_in, inner_in}
use Rattle.runs.specs.Slots.{slot, Stored, Cleared, Forgotten}
use Rattle.runs.specs.Readings.{NextTurn, Renewed}

-- `kept`
pub kept_determined : (slots : List ℕ) (i : ℕ) (r s : PositionSet) → Proper r → Proper s → ((q : ℕ) → holds r q ≡ slot slots i q) → ((q : ℕ) → holds s q ≡ slot slots i q) → r ≡ s
kept_determined slots i r s proper proper' f g = same_set r s proper proper' (λ q. f q ∙ sym (g q))

-- `keep`
pub keep_determined : {before after after' : List ℕ} {i : ℕ} {set : Set} → Stored before i set after → Stored before i set after' → after ≡ after'
keep_determined {before} {after} {after'} {i} x y = ext_get_or 0 after after' (x.long ∙ sym y.long) (λ j low. at j (ℕ_discrete j i))
  where
    own : get_or after i 0 ≡ get_or after' i 0
    own = same_bits (get_or after i 0) (get_or after' i 0) (λ q. same_truth (slot after i q) (slot after' i q) (λ h. (y.own q).1 ((x.own q).0 h)) (λ h. (x.own q).1 ((y.own q).0 h)))

    at : (j : ℕ) → Dec (j ≡ i) → get_or after j 0 ≡ get_or after' j 0
    at j (yes e) = subst⁻¹ (λ (k : ℕ). get_or after k 0 ≡ get_or after' k 0) e own
    at j (no apart) = x.other j apart ∙ sym (y.other j apart)

-- a place lies between two others, or outside
between : (from to j : ℕ) → ((from ≤ j) × (j < to)) ⊎ ((j < from) ⊎ (to ≤ j))
between from to j = go (dec_lt j from) (dec_lt j to)
  where
    go : Dec (j < from) → Dec (j < to) → ((from ≤ j) × (j < to)) ⊎ ((j < from) ⊎ (to ≤ j))
    go (yes low) d = inr (inl low)
    go (no low) (yes high) = inl (omega arith, high)
    go (no low) (no high) = inr (inr (omega arith))

-- `clear`
pub clear_determined : {bytes before after after' : List ℕ} {from to : ℕ} → Cleared bytes before from to after → length after ≡ length before → Cleared bytes before from to after'
    → length after' ≡ length before → after ≡ after'
clear_determined {bytes} {before} {after} {after'} {from} {to} x long y long' = ext_get_or 0 after after' (long ∙ sym long') (λ j low. at j (ℕ_discrete (get_or bytes j 0) 42))
  where
    at : (j : ℕ) → Dec (get_or bytes j 0 ≡ 42) → get_or after j 0 ≡ get_or after' j 0
    at j (yes star) =
        ⊎_elim
        (λ b. x.stars j b.0 b.1 star ∙ sym (y.stars j b.0 b.1 star))
        (λ o. x.outside.same j o ∙ sym (y.outside.same j o))
        (between from to j)
    at j (no other) = x.signs j other ∙ sym (y.signs j other)

-- `forget`
pub forget_determined : {before after after' : List ℕ} {from to : ℕ} → Forgotten before from to after → length after ≡ length before → Forgotten before from to after'
    → length after' ≡ length before → after ≡ after'
forget_determined {before} {after} {after'} {from} {to} x long y long' =
    ext_get_or 0 after after' (long ∙ sym long') (λ j low.
    ⊎_elim
    (λ b. x.none j b.0 b.1 ∙ sym (y.none j b.0 b.1))
    (λ o. x.outside.same j o ∙ sym (y.outside.same j o))
    (between from to j))

-- `renew`
pub renew_determined : {bound before after after' : List ℕ} {from to : ℕ} → Renewed bound before from to after → length after ≡ length before → Renewed bound before from to after'
    → length after' ≡ length before → after ≡ after'
renew_determined {bound} {before} {after} {after'} x long y long' = go (ℕ_discrete (own_in bound) (inner_in bound))
  where
    go : Dec (own_in bound ≡ inner_in bound) → after ≡ after'
    go (yes one) = x.same one ∙ sym (y.same one)
    go (no two) = forget_determined (x.other two) long (y.other two) long'

-- `next_turn`
pub next_turn_determined : {left : Set} {n own own' : ℕ} {bound : List ℕ} (r s : PositionSet) → Proper r → Proper s → NextTurn left n bound own (holds r) → NextTurn left n bound own' (holds s)
    → (own ≡ own') × (r ≡ s)
next_turn_determined {left} {n} {own} {own'} {bound} r s proper proper' x y = go (ℕ_discrete (own_in bound) 0)
  where
    go : Dec (own_in bound ≡ 0) → (own ≡ own') × (r ≡ s)
    go (yes e) =
        let one = x.step e in
        let two = y.step e in
        let same = one.0 ∙ sym two.0 in (
          same,
          same_set r s proper proper' (λ q.
              same_truth (holds r q) (holds s q) (λ h. (two.1 q).1 ((one.1 q).0 h ∙ same)) (λ h. (one.1 q).1 ((two.1 q).0 h ∙ sym same))),
        )
    go (no e) =
        let one = x.end e in
        let two = y.end e in
        (one.0 ∙ sym two.0, same_set r s proper proper' (λ q. one.1 q ∙ sym (two.1 q)))

-- `none_bound`, `inside`, `rebound`: the list of seven numbers tells all
pub values_determined : (r s : Values) → length r.of ≡ 4 → length s.of ≡ 4 → listed r ≡ listed s → r ≡ s
values_determined r s long long' e = λ i. record {
  of = same i;
  domain = ap (λ (l : List ℕ). get_or l 4 0) e i;
  own = ap (λ (l : List ℕ). get_or l 5 0) e i;
  inner = ap (λ (l : List ℕ). get_or l 6 0) e i;
}
  where
    at : (j : ℕ) → j < 4 → get_or r.of j 0 ≡ get_or s.of j 0
    at zero low = ap (λ (l : List ℕ). get_or l 0 0) e
    at (suc zero) low = ap (λ (l : List ℕ). get_or l 1 0) e
    at (suc (suc zero)) low = ap (λ (l : List ℕ). get_or l 2 0) e
    at (suc (suc (suc zero))) low = ap (λ (l : List ℕ). get_or l 3 0) e
    at (suc (suc (suc (suc j)))) low = absurd (omega arith)

    same : r.of ≡ s.of
    same = ext_get_or 0 r.of s.of (long ∙ sym long') (λ j low. at j (omega (arith, low, long)))

-- The quick yes "equals the test's verdict": for the places of a log, the last possible occurrence comes after the last impossible step exactly when `<-;aNN*n1` is
-- true at the log's end. Knows the tables of walks and tests.
use mathlib.Core.Path.{◌≡◌, refl, sym, subst, ◌∙◌}
use mathlib.Core.Logic.{◌⊎◌, ◌↔◌, inl, inr, ⊎_elim}
use mathlib.Core.Option.{some}
use Prim.Native.Nat.{ℕ, zero, suc, ◌+◌, ◌-◌, ◌≤◌, ◌<◌}
use native.Mathlib.Decide.{ℕ_discrete}
use native.Mathlib.Omega.{arith}
use lib.ListN.{length, get_or}
use Rattle.laws.proofs.Truth.{off_on, true_or_false}
use Rattle.meaning.specs.Theory.{Possible, World, state_before}
use Rattle.meaning.specs.Leads.{AnyStep, Chain, stay, link, Leads, Holds}
use Rattle.meaning.proofs.Theory.{get_elem_get_d}
use Rattle.meaning.proofs.Possible.{possible, possible_tells}
use Rattle.meaning.proofs.Converse.{converse}
use Rattle.meaning.specs.Rule.{plain, act, next, seq, star}
use Rattle.tables.specs.Tables.{TakenAt}
use Rattle.tally.specs.Record.{Last, ImpossibleAt}
use Rattle.tally.specs.Made.{happened_test}
use Rattle.tally.proofs.Growth.{taken_within}

-- some action was taken at p
abbrev Crossed : World → ℕ → Type 0
Crossed w p = (a : ℕ) × TakenAt w p a

-- a step of the log was possible or not
crossed_or_not : (w : World) (p : ℕ) → p < length w.log → Crossed w p ⊎ ImpossibleAt w p
crossed_or_not w p h =
    let b : ℕ = get_or w.log p 0 in
    let logged = get_elem_get_d w.log p h in
    ⊎_elim
    (λ can. inl (b, (logged, (possible_tells (w.masks b) (state_before w p)).0 can)))
    (λ cannot. inr (
      h,
      λ a t.
          let same : a ≡ b = let e : some a ≡ some b = sym t.0 ∙ logged in cc in
          off_on cannot ((possible_tells (w.masks b) (state_before w p)).1 (subst (λ (k : ℕ). Possible (w.masks k) (state_before w p)) same t.1)),
    ))
    (true_or_false (possible (w.masks b) (state_before w p)))

-- a chain of any-steps crosses every step between its ends, and there is one where each can be crossed
chain_crosses : (w : World) (n : ℕ) {m q : ℕ} → Chain (AnyStep w) n m q → (r : ℕ) → m ≤ r → r < q → Crossed w r
chain_crosses w n (stay e low) r l h = absurd (omega arith)
chain_crosses w n (link {p = p} {m = m} step more) r l h = elim (ℕ_discrete r p) [
  | yes e ↦ subst (Crossed w) (sym e) (step.0, (step.1.logged, step.1.able))
  | no ne ↦ chain_crosses w n more r (omega (arith, step.1.onward)) h
]

chain_over : (w : World) (n k m : ℕ) → m + k ≡ n → ((r : ℕ) → m ≤ r → r < n → Crossed w r) → Chain (AnyStep w) n m n
chain_over w n zero m e each = stay {p = m} {q = n} (omega arith) (omega arith)
chain_over w n (suc k) m e each =
    let (a, taken) = each m (omega arith) (omega arith) in
    link {m = m + 1} (a, record { onward = refl; within = omega arith; logged = taken.0; able = taken.1 })
    (chain_over w n k (m + 1) (omega arith) (λ r l h. each r (omega arith) h))

module _ (w : World) (a : ℕ) {place impossible : ℕ} (last : Last (λ p. TakenAt w p a) place) (worst : Last (ImpossibleAt w) impossible) where
  abbrev n : ℕ
  n = length w.log

  -- a is taken at some step, and every step behind it was possible
  walked : impossible < place → (q : ℕ) × Leads w (seq (act (plain a)) (star next)) q n n
  unfolding Leads
  walked h = ⊎_elim (λ none. absurd (omega arith)) found last.there
    where
      found : (p : ℕ) × (place ≡ p + 1) × TakenAt w p a → (q : ℕ) × Leads w (seq (act (plain a)) (star next)) q n n
      found (p, e, taken) =
          let inside = taken_within w p a taken in (
            p,
            (
              p + 1,
              record { onward = refl; within = omega arith; logged = taken.0; able = taken.1 },
              chain_over w n (n - (p + 1)) (p + 1) (omega arith) (λ r l low.
                  ⊎_elim (λ c. c) (λ i. absurd (omega (arith, worst.behind r i))) (crossed_or_not w r low)),
            ),
          )

  back : (q : ℕ) × Leads w (seq (act (plain a)) (star next)) q n n → impossible < place
  unfolding Leads
  back (q, (m, step, chain)) =
      let here = last.behind q (step.logged, step.able) in
      ⊎_elim
      (λ none. omega arith)
      (λ i.
      let r : ℕ = i.0 in
      let not-crossed : Crossed w r → ⊥ = λ c. i.2.1 c.0 c.1 in
      let before : ¬ (m ≤ r) = λ l. not-crossed (chain_crosses w n chain r l i.2.0) in
      let other : ¬ (r ≡ q) = λ e. not-crossed (subst (Crossed w) (sym e) (a, (step.logged, step.able))) in
      omega (arith, i.1, step.onward))
      worst.there

  pub happened_iff : (impossible < place) ↔ Holds w (happened_test a) n n
  unfolding Holds
  happened_iff = (
    λ h. let (q, leads) = walked h in (q, (converse w (seq (act (plain a)) (star next)) n q n).1 leads, tt),
    λ h. back (h.0, (converse w (seq (act (plain a)) (star next)) n h.0 n).0 h.1),
  )

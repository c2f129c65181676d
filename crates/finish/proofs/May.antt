-- Which truth a test may have, sign by sign: all the mathematics of `may_be`. Knows the text by the rules that stand in it; no code.
use Rattle.std.specs.Prelude.{Some}
use mathlib.Core.Path.{◌≡◌, refl, sym, subst, ◌∙◌}
use mathlib.Core.Logic.{inl, inr}
use mathlib.Core.Bool.{Bool, true, false, not, cond, ◌&&◌, ◌||◌, true≢false}
use mathlib.Core.List.{List}
use Prim.Native.Nat.{ℕ, ◌+◌, ◌<◌}
use native.Mathlib.Omega.{arith}
use lib.ListN.{get_or}
use Rattle.laws.specs.Bit.{on}
use Rattle.laws.proofs.Truth.{off_on, true_or_false}
use Rattle.meaning.specs.Limits.{fluent_limit}
use Rattle.meaning.specs.Theory.{World, bind, state_before}
use Rattle.meaning.specs.Rule.{Test, of_test}
use Rattle.meaning.specs.Leads.{Holds}
use Rattle.meaning.specs.Lengths.{Turning}
use Rattle.spelling.specs.Scan.{NumberAt}
use Rattle.grammar.proofs.Numbers.{number_tens, number_ones}
use Rattle.grammar.specs.Standing.{Ends}
use Rattle.grammar.proofs.Spread.{Spread, spread, always_at, fluent_at, neg_at, both_at, exists_at}
use Rattle.runs.proofs.Calls.{end_stands}
use Rattle.finish.specs.Lengths.{Lacks, Is, MayTold}

-- the number at a place is one only
pub named_lacks : (text : List ℕ) (at fluents i : ℕ) → NumberAt text at (Some i) → i < fluent_limit → on fluents i ≡ false → Lacks text at fluents
named_lacks text at fluents i h low off j k =
    let same : i ≡ j = omega (arith, number_tens text at i h, number_tens text at j k, number_ones text at i h, number_ones text at j k) in
    (omega arith, subst (λ (n : ℕ). on fluents n ≡ false) same off)

-- such a test has no such truth
abbrev Bars : Bool → ℕ → ℕ → Test → Type 0
Bars truth ons offs t = (w : World) (p n : ℕ) → Turning ons offs (state_before w p) → Is truth (Holds w t p n) → ⊥

module _ (ons offs : ℕ) {text : List ℕ} {at : ℕ} where
  -- `1`
  pub always_may : (truth : Bool) → get_or text at 0 ≡ 49 → MayTold text at truth ons offs truth
  unfolding Holds
  always_may truth sign = record { never = λ bar t h. go truth bar (spread h 49 sign) }
    where
      go : (b : Bool) → b ≡ false → {t : Test} → Spread text at 49 (of_test t) → Bars b ons offs t
      go true bar s = absurd (true≢false bar)
      go false bar always_at = λ w p n turn is. is tt

  -- `fNN`
  pub on_may : {answer : Bool} → get_or text at 0 ≡ 102 → (answer ≡ false → Lacks text (at + 1) ons) → MayTold text at true ons offs answer
  unfolding Holds
  on_may sign lacks = record { never = λ bar t h. go (lacks bar) (spread h 102 sign) }
    where
      go : Lacks text (at + 1) ons → {t : Test} → Spread text at 102 (of_test t) → Bars true ons offs t
      go none (fluent_at i d) = λ w p n turn is. let u = none i d in off_on u.1 ((turn i u.0).0 is)

  pub off_may : {answer : Bool} → get_or text at 0 ≡ 102 → (answer ≡ false → Lacks text (at + 1) offs) → MayTold text at false ons offs answer
  unfolding Holds
  off_may sign lacks = record { never = λ bar t h. go (lacks bar) (spread h 102 sign) }
    where
      go : Lacks text (at + 1) offs → {t : Test} → Spread text at 102 (of_test t) → Bars false ons offs t
      go none (fluent_at i d) = λ w p n turn is. let u = none i d in
          elim (true_or_false (on (state_before w p) i)) [ inl lit ↦ is lit | inr dark ↦ off_on u.1 ((turn i u.0).1 dark) ]

  -- `!T`
  pub neg_may : (truth : Bool) {answer : Bool} → get_or text at 0 ≡ 33 → MayTold text (at + 1) (not truth) ons offs answer → MayTold text at truth ons offs answer
  unfolding Holds
  neg_may truth {answer} sign told = record { never = λ bar t h. go truth bar told (spread h 33 sign) }
    where
      go : (b : Bool) → answer ≡ false → MayTold text (at + 1) (not b) ons offs answer → {t : Test} → Spread text at 33 (of_test t) → Bars b ons offs t
      go true bar m (neg_at t s) = λ w p n turn is. m.never bar t s w p n turn is
      go false bar m (neg_at t s) = λ w p n turn is. is (λ h. m.never bar t s w p n turn h)

  -- `evT`
  pub exists_may : {answer : Bool} → get_or text at 0 ≡ 101 → MayTold text (at + 2) true ons offs answer → MayTold text at true ons offs answer
  unfolding Holds
  exists_may {answer} sign told = record { never = λ bar t h. go bar (spread h 101 sign) }
    where
      go : answer ≡ false → {t : Test} → Spread text at 101 (of_test t) → Bars true ons offs t
      go bar (exists_at v t letter s) = λ w p n turn is. told.never bar t s (bind w v is.0) p n turn is.2

  -- `<WT`, `gNNv`, and where a value is wanted for which T is untrue
  pub some_may : (truth : Bool) → MayTold text at truth ons offs true
  some_may truth = record { never = λ bar. absurd (true≢false bar) }

-- `&TU`
module _ (ons offs : ℕ) {text ends : List ℕ} (marked : Ends text ends) {at other : ℕ} (place : other ≡ get_or ends (at + 1) 0) where
  pub both_may : (truth one two : Bool) {answer : Bool} → get_or text at 0 ≡ 38 → answer ≡ cond truth (one && two) (one || two) → MayTold text (at + 1) truth ons offs one
      → MayTold text other truth ons offs two → MayTold text at truth ons offs answer
  unfolding Holds
  both_may truth one two sign e f g = record { never = λ bar t h. go truth one two (sym e ∙ bar) f g (spread h 38 sign) }
    where
      go : (b x y : Bool) → cond b (x && y) (x || y) ≡ false → MayTold text (at + 1) b ons offs x → MayTold text other b ons offs y → {t : Test} → Spread text at 38 (of_test t)
          → Bars b ons offs t
      go true true true bar f g s = absurd (true≢false bar)
      go true true false bar f g (both_at t u p q) = λ w i n turn is. g.never refl u (end_stands marked p other place q) w i n turn is.1
      go true false y bar f g (both_at t u p q) = λ w i n turn is. f.never refl t p w i n turn is.0
      go false true y bar f g s = absurd (true≢false bar)
      go false false true bar f g s = absurd (true≢false bar)
      go false false false bar f g (both_at t u p q) = λ w i n turn is.
          f.never refl t p w i n turn (λ a. g.never refl u (end_stands marked p other place q) w i n turn (λ b. is (a, b)))

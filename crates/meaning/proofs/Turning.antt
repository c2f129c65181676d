-- Which fluents can still be on, or off: what holds of one state and is kept by every action holds of every later state. Knows the effect of an action.
use mathlib.Core.Path.{◌≡◌, refl, sym, ap, subst, ◌∙◌}
use mathlib.Core.Logic.{inl, inr, ⊎_elim}
use mathlib.Core.Bool.{Bool, true, false, not, ◌&&◌}
use mathlib.Core.List.{List, [], ◌∷◌, ◌++◌}
use Prim.Native.Nat.{ℕ, zero, suc, ◌+◌, ◌-◌, ◌≤◌, ◌<◌}
use native.Mathlib.Omega.{arith}
use lib.ListN.{length, take}
use Rattle.laws.specs.Bit.{on}
use Rattle.laws.proofs.Truth.{and_iff, or_iff, off_on, neither, implies_iff, true_or_false}
use Rattle.meaning.specs.Limits.{fluent_limit}
use Rattle.meaning.specs.Theory.{Clause, Masks, World, acts, clause_puts, clause_drops, puts, drops, after, relog, run, state_before}
use Rattle.meaning.specs.Finish.{Able}
use Rattle.meaning.specs.Lengths.{Turning, Turns, Reaching}
use Rattle.meaning.proofs.Effects.{after_bit}
use Rattle.meaning.proofs.Theory.{run_append}

-- what a clause drops and does not put, where it acts
lost : (put acts drop : Bool) → (put && acts) ≡ false → (drop && acts) ≡ true → (drop ≡ true) × (put ≡ false)
lost true acts drop e d = absurd (off_on e ((and_iff drop acts).0 d).1)
lost false acts drop e d = (((and_iff drop acts).0 d).0, refl)

-- an action keeps it
module _ (m : Masks) (state ons offs : ℕ) (here : Turning ons offs state) (one : Turns m.one ons offs) (two : Turns m.two ons offs) where
  after_on : (i : ℕ) → i < fluent_limit → on (after m state) i ≡ true → on ons i ≡ true
  after_on i h e =
      ⊎_elim
      (λ p.
      ⊎_elim (λ q. one.put i h (named m.one.put m.one q)) (λ q. two.put i h (named m.two.put m.two q))
      ((or_iff (clause_puts m.one state i) (clause_puts m.two state i)).0 p))
      (λ k. (here i h).0 ((and_iff (on state i) (not (drops m state i))).0 k).0)
      ((or_iff (puts m state i) (on state i && not (drops m state i))).0 (sym (after_bit m state i h) ∙ e))
    where
      named : (mask : ℕ) (c : Clause) → (on mask i && acts c state) ≡ true → on mask i ≡ true
      named mask c p = ((and_iff (on mask i) (acts c state)).0 p).0

  after_off : (i : ℕ) → i < fluent_limit → on (after m state) i ≡ false → on offs i ≡ true
  after_off i h e =
      let off = neither (puts m state i) (on state i && not (drops m state i)) (sym (after_bit m state i h) ∙ e) in
      let unput = neither (clause_puts m.one state i) (clause_puts m.two state i) off.0 in
      elim (true_or_false (on state i)) [
        | inl was ↦
            ⊎_elim (gone m.one one unput.0) (gone m.two two unput.1)
            ((or_iff (clause_drops m.one state i) (clause_drops m.two state i)).0 ((implies_iff (on state i) (drops m state i)).0 off.1 was))
        | inr was ↦ (here i h).1 was
      ]
    where
      gone : (c : Clause) → Turns c ons offs → clause_puts c state i ≡ false → clause_drops c state i ≡ true → on offs i ≡ true
      gone c t p d = let l = lost (on c.put i) (acts c state) (on c.drop i) p d in t.dropped i h l.0 l.1

after_turning : (actions : ℕ) (masks : ℕ → Masks) (state ons offs a : ℕ) → Reaching actions masks state ons offs → a < actions
    → Reaching actions masks (after (masks a) state) ons offs
after_turning actions masks state ons offs a r known =
    let one = r.one a known in
    let two = r.two a known in
    record {
      here = λ i h. (after_on (masks a) state ons offs r.here one two i h, after_off (masks a) state ons offs r.here one two i h);
      one = r.one;
      two = r.two;
    }

-- and so it is after any actions of the theory
run_turning : (actions : ℕ) (masks : ℕ → Masks) (state ons offs : ℕ) (steps : List ℕ) (j : ℕ) → Reaching actions masks state ons offs → Able actions masks state steps
    → Turning ons offs (run masks state (take j steps))
unfolding run
run_turning actions masks state ons offs steps zero r able = r.here
run_turning actions masks state ons offs [] (suc j) r able = r.here
run_turning actions masks state ons offs (a ∷ steps) (suc j) r able =
    run_turning actions masks (after (masks a) state) ons offs steps j (after_turning actions masks state ons offs a r able.0) able.2

take_behind : (l more : List ℕ) (p j : ℕ) → p ≡ length l + j → take p (l ++ more) ≡ l ++ take j more
take_behind [] more p j e = let same : p ≡ j = omega arith in ap (λ i. take i more) same
take_behind (x ∷ l) more zero j e = absurd (omega arith)
take_behind (x ∷ l) more (suc p) j e = rw (take_behind l more p j (omega arith))

-- so of every state at the log's end or behind it
pub later_turning : (w : World) (ending : List ℕ) (ons offs p : ℕ) → Reaching w.actions w.masks (run w.masks w.start w.log) ons offs
    → Able w.actions w.masks (run w.masks w.start w.log) ending → length w.log ≤ p → Turning ons offs (state_before (relog w (w.log ++ ending)) p)
later_turning w ending ons offs p r able late =
    let j = p - length w.log in
    let same : p ≡ length w.log + j = omega arith in
    let cut : run w.masks w.start (take p (w.log ++ ending)) ≡ run w.masks (run w.masks w.start w.log) (take j ending) =
    ap (run w.masks w.start) (take_behind w.log ending p j same)
    ∙ run_append w.masks w.start w.log (take j ending) in
    subst (Turning ons offs) (sym cut) (run_turning w.actions w.masks (run w.masks w.start w.log) ons offs ending j r able)

-- What the word operations of one step mean: a mask met within a state, a mask barred from it, a clause that acts, and the state after. Knows bits and the
-- meaning of `acts` and `after`; no code.
use mathlib.Core.Path.{◌≡◌, refl, sym, ap, ◌∙◌}
use mathlib.Core.Logic.{◌↔◌}
use mathlib.Core.Bool.{Bool, true, false, not, ◌&&◌, ◌||◌, and-true, and-false}
use Prim.Native.Nat.{ℕ, ◌-◌, ◌^◌, ◌≤◌, ◌<◌}
use borrow.Author.Tests.{ltb-false}
use lib.Bits.{bit_and, bit_or, or_lt}
use lib.Dec.{ltb}
use Rattle.laws.specs.Bit.{on}
use Rattle.laws.proofs.On.{same_bits, on_none, on_high, on_below}
use Rattle.laws.proofs.Bitwise.{on_and, on_or}
use Rattle.laws.proofs.Shift.{on_not}
use Rattle.laws.proofs.Gather.{on_gather}
use Rattle.laws.proofs.Truth.{and_iff, no_truth, off_on, same_truth}
use Rattle.meaning.specs.Limits.{fluent_limit}
use Rattle.meaning.specs.Theory.{Clause, Masks, acts, after}
use Rattle.meaning.proofs.Effects.{acts_tells}
use Rattle.theory.specs.Step.{Met, Effected}

-- every bit of the mask is on in the state
pub met_iff : (mask state : ℕ) → (bit_and mask state ≡ mask) ↔ ((i : ℕ) → on mask i ≡ true → on state i ≡ true)
met_iff mask state = (
  λ e i h. ((and_iff (on mask i) (on state i)).0 (sym (on_and mask state i) ∙ ap (λ (n : ℕ). on n i) e ∙ h)).1,
  λ all. same_bits (bit_and mask state) mask (λ i.
      rw on_and
      (same_truth (on mask i && on state i) (on mask i)
      (λ b. ((and_iff (on mask i) (on state i)).0 b).0)
      (λ h. (and_iff (on mask i) (on state i)).1 (h, all i h)))),
)

-- no bit of the mask is on in the state
pub barred_iff : (mask state : ℕ) → (bit_and mask state ≡ 0) ↔ ((i : ℕ) → on mask i ≡ true → on state i ≡ false)
barred_iff mask state = (
  λ e i h. no_truth (on state i) (λ s.
      off_on (on_none i) (sym (ap (λ (n : ℕ). on n i) e) ∙ on_and mask state i ∙ (and_iff (on mask i) (on state i)).1 (h, s))),
  λ all. same_bits (bit_and mask state) 0 (λ i.
      rw (on_and, on_none)
      (no_truth (on mask i && on state i) (λ b.
      let both = (and_iff (on mask i) (on state i)).0 b in
      off_on (all i both.0) both.1))),
)

pub both_iff : (ons offs state : ℕ) → ((bit_and ons state ≡ ons) × (bit_and offs state ≡ 0)) ↔ Met ons offs state
both_iff ons offs state = (
  λ h. ((met_iff ons state).0 h.0, (barred_iff offs state).0 h.1),
  λ h. ((met_iff ons state).1 h.0, (barred_iff offs state).1 h.1),
)

-- "its when bits are on and its unless bits off", of masks that are words
pub acts_iff : (c : Clause) (state : ℕ) → c.when < 2 ^ fluent_limit → c.unless < 2 ^ fluent_limit → (acts c state ≡ true) ↔ Met c.when c.unless state
acts_iff c state w u = (
  λ e.
      let h = (acts_tells c state).0 e in
      (λ i o. h.met i (on_below fluent_limit w o) o, λ i o. h.clear i (on_below fluent_limit u o) o),
  λ h. (acts_tells c state).1 (record { met = λ i l. h.0 i; clear = λ i l. h.1 i }),
)

-- a clause that acts, and one that does not
module _ (c : Clause) (state : ℕ) where
  pub effected : acts c state ≡ true → Effected c state c.put c.drop
  effected e = record { puts = λ i. rw (e, and-true); drops = λ i. rw (e, and-true) }

  pub unaffected : acts c state ≡ false → Effected c state 0 0
  unaffected e = record { puts = λ i. rw (e, and-false, on_none); drops = λ i. rw (e, and-false, on_none) }

-- "A fluent is then on if an acting clause puts it, or it was on and no acting clause drops it"
pub after_word : (m : Masks) (state put drop put' drop' : ℕ) → Effected m.one state put drop → Effected m.two state put' drop'
    → put < 2 ^ fluent_limit → drop < 2 ^ fluent_limit → put' < 2 ^ fluent_limit → drop' < 2 ^ fluent_limit → state < 2 ^ fluent_limit
    → bit_or (bit_or put put') (bit_and state ((2 ^ fluent_limit - 1) - bit_or drop drop')) ≡ after m state
unfolding after
after_word m state put drop put' drop' one two p d p' d' s = same_bits _ _ (λ i.
    rw (on_or (bit_or put put') _ i, on_and, on_not fluent_limit (or_lt fluent_limit drop drop' d d'), on_or put put' i, on_or drop drop' i, on_gather, ← one.puts i, ← one.drops i, ← two.puts i, ← two.drops i)
    (go (ltb i fluent_limit) (on put i || on put' i) (on state i) (not (on drop i || on drop' i)) (λ far.
    let beyond : fluent_limit ≤ i = ltb-false i fluent_limit far in
    (rw (on_high fluent_limit p beyond, on_high fluent_limit p' beyond), on_high fluent_limit s beyond))))
  where
    go : (below put was kept : Bool) → (below ≡ false → (put ≡ false) × (was ≡ false))
        → (put || (was && (below && kept))) ≡ (below && (put || (was && kept)))
    go true put was kept h = refl
    go false put was kept h = rw ((h refl).0, (h refl).1)

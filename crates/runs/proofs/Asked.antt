-- The word of the actions that a sign with no part to ask asks for at now from some position of a set, if it may. Knows sets by the positions that they
-- hold; no text and no code.
use mathlib.Core.Path.{◌≡◌, refl, sym, subst, ◌∙◌}
use mathlib.Core.Logic.{inl, inr}
use mathlib.Core.Bool.{Bool, true, cond, ◌&&◌}
use Prim.Native.Nat.{ℕ, ◌-◌, ◌^◌, ◌<◌}
use lib.Dec.{eqb}
use borrow.Author.Tests.{eqb-true, eq-eqb, lt-ltb}
use Rattle.laws.specs.Bit.{on}
use Rattle.laws.proofs.Truth.{off_on, true_or_false, and_iff}
use Rattle.laws.proofs.On.{on_none}
use Rattle.laws.proofs.Shift.{on_ones}
use Rattle.meaning.specs.Limits.{action_limit}
use Rattle.meaning.specs.Theory.{World, number_in}
use Rattle.meaning.specs.Rule.{Name, Walk, Test, act, undo, next, prev, check, conv}
use Rattle.meaning.specs.Asks.{AsksAt}
use Rattle.runs.specs.Found.{AskedBy}
use Rattle.runs.specs.Image.{Set}

-- a word with no bit on
none_asked : (may : ℕ → Bool) (w : World) (at : ℕ) (x : Walk) (n : ℕ) (from : Set) → ((p a : ℕ) → from p ≡ true → AsksAt may w at x p n a → ⊥)
    → AskedBy may w at x n from 0
none_asked may w at x n from quiet a h = (λ e. absurd (off_on (on_none a) e), λ u. absurd (quiet u.0 a u.1 u.2))

-- `aNN`, `bNNv`: what the name stands for, if the sign may ask and the set holds now
pub act_asked : (may : ℕ → Bool) (w : World) (at : ℕ) (b : Name) (n : ℕ) (from : Set) (asked : ℕ) → ((a : ℕ) → a < action_limit → on asked a ≡ eqb a (number_in w b))
    → AskedBy may w at (act b) n from (cond (may at && from n) asked 0)
unfolding AsksAt
act_asked may w at b n from asked bit = elim (true_or_false (may at && from n)) [
  | inl both ↦
      let u = (and_iff (may at) (from n)).0 both in
      rw both λ a h. (λ e. (n, u.1, (u.0, refl, eqb-true a (number_in w b) (sym (bit a h) ∙ e))), λ k. bit a h ∙ eq-eqb a (number_in w b) k.2.2)
  | inr not ↦ rw not (none_asked may w at (act b) n from λ p a h u.
      off_on not ((and_iff (may at) (from n)).1 (u.0, subst (λ (i : ℕ). from i ≡ true) u.1 h)))
]

-- `n`: any, if the sign may ask and the set holds now
pub next_asked : (may : ℕ → Bool) (w : World) (at n : ℕ) (from : Set) → AskedBy may w at next n from (cond (may at && from n) (2 ^ action_limit - 1) 0)
unfolding AsksAt
next_asked may w at n from = elim (true_or_false (may at && from n)) [
  | inl both ↦
      let u = (and_iff (may at) (from n)).0 both in
      rw both λ a h. (λ e. (n, u.1, (u.0, refl)), λ k. on_ones action_limit a ∙ lt-ltb a action_limit h)
  | inr not ↦ rw not (none_asked may w at next n from λ p a h u.
      off_on not ((and_iff (may at) (from n)).1 (u.0, subst (λ (i : ℕ). from i ≡ true) u.1 h)))
]

-- the other signs never ask
pub check_asked : (may : ℕ → Bool) (w : World) (at : ℕ) (t : Test) (n : ℕ) (from : Set) → AskedBy may w at (check t) n from 0
unfolding AsksAt
check_asked may w at t n from = none_asked may w at (check t) n from λ p a h u. u

pub undo_asked : (may : ℕ → Bool) (w : World) (at : ℕ) (b : Name) (n : ℕ) (from : Set) → AskedBy may w at (undo b) n from 0
unfolding AsksAt
undo_asked may w at b n from = none_asked may w at (undo b) n from λ p a h u. u

pub prev_asked : (may : ℕ → Bool) (w : World) (at n : ℕ) (from : Set) → AskedBy may w at prev n from 0
unfolding AsksAt
prev_asked may w at n from = none_asked may w at prev n from λ p a h u. u

pub conv_asked : (may : ℕ → Bool) (w : World) (at : ℕ) (x : Walk) (n : ℕ) (from : Set) → AskedBy may w at (conv x) n from 0
unfolding AsksAt
conv_asked may w at x n from = none_asked may w at (conv x) n from λ p a h u. u

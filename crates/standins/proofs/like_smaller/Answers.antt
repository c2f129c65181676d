-- `standins::like_smaller` meets its contract. The loop's invariant: none of the actions gone over is one of these and like b.
use mathlib.Core.Path.{◌≡◌, refl, subst}
use mathlib.Core.Bool.{true, false≢true}
use Prim.Native.Nat.{ℕ}
use native.Mathlib.Decide.{ℕ_discrete}
use native.Mathlib.Omega.{arith}
use Rattle.laws.specs.Bit.{on}
use Rattle.laws.proofs.Truth.{off_on}
use Rattle.meaning.specs.StandIn.{Alike}
use Rattle.theory.specs.Subject.{table_masks}
use Rattle.standins.specs.Worth.{others, Like}
use Rattle.standins.proofs.Words.{bit_on, bit_off}
use Rattle.standins.proofs.like_smaller.Goals as goal
use Rattle.standins.proofs.like_smaller.Goals.{else-these-a-eq1-via-then-these-a-eq1+else-alike, else-these-a-eq1-via-else-these-a-eq1}

pub returns-then-alike : goal.returns-then-alike
returns-then-alike c =
    let a = c.loop-a.a in
    (λ e. record { by = a; smaller = c.loop-a-test.true; one = bit_on _ a c.if-these-a-eq1.true; alike = c.alike.ensures.0 c.if-alike.true }, λ l. refl)

pub loop-a-preserved : goal.loop-a-preserved
loop-a-preserved c =
    let s = c.args in
    let k = c.loop-a in
    let passed : (like : Like s.masks.now s.these s.matter s.b) → like.by ≡ k.a → ⊥ = λ like e.
    elim c.else-these-a-eq1.branch [
      | else-these-a-eq1-via-then-these-a-eq1+else-alike w ↦ off_on w.if-alike.false (w.alike.ensures.1 (subst (λ (i : ℕ). Alike (others s.matter) (table_masks s.masks.now i) (table_masks s.masks.now s.b)) e like.alike))
      | else-these-a-eq1-via-else-these-a-eq1 w ↦ off_on (bit_off s.these k.a w.if-these-a-eq1.false) (subst (λ (i : ℕ). on s.these i ≡ true) e like.one)
    ] in
    λ like. elim (ℕ_discrete like.by k.a) [ yes e ↦ absurd (passed like e) | no e ↦ omega (arith, k.invariant like, e) ]

pub returns : goal.returns
returns c = (λ e. absurd (false≢true e), λ l. absurd (omega (arith, c.loop-a.invariant l, l.smaller)))

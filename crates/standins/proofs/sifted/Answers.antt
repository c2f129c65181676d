-- `standins::sifted` meets its contract. The loop's invariant: of the actions gone over, those that have a stand-in are left out, and no other is.
use Prim.Native.Nat.{◌<◌}
use native.Mathlib.Omega.{arith}
use Rattle.laws.proofs.Truth.{off_on}
use Rattle.meaning.specs.Limits.{action_limit}
use Rattle.standins.specs.Worth.{others, Stood}
use Rattle.standins.proofs.Words.{bit_on, bit_off}
use Rattle.standins.proofs.Sifting.{sifted_none, sifted_kept, sifted_out, like_stands, stands_like}
use Rattle.standins.proofs.sifted.Goals as goal
use Rattle.standins.proofs.sifted.Goals.{then-unnamed-b-eq1+then-like_smaller, else-unnamed-b-eq1, else-unnamed-b-eq1-via-then-unnamed-b-eq1+else-like_smaller, else-unnamed-b-eq1-via-else-unnamed-b-eq1}

pub loop-b-init : goal.loop-b-init
loop-b-init c = sifted_none _ _ _

pub loop-b-preserved : goal.loop-b-preserved
loop-b-preserved c =
    let a = c.args in
    let k = c.loop-b in
    let few : k.b < action_limit = omega arith in
    elim c.if-unnamed-b-eq1.branch [
      | then-unnamed-b-eq1+then-like_smaller w ↦
          let stood = like_stands a.masks.now k.kept a.unnamed a.matter k.b (bit_on _ k.b w.if-unnamed-b-eq1.true) (w.like_smaller.ensures.0 w.if-like_smaller.true) in
          rw w.kept-is (sifted_out _ _ _ k.b k.kept few stood k.invariant)
      | else-unnamed-b-eq1 w ↦
          let none : Stood a.masks.now a.unnamed (others a.matter) k.b → ⊥ = λ s.
          elim w.else-unnamed-b-eq1.branch [
            | else-unnamed-b-eq1-via-then-unnamed-b-eq1+else-like_smaller v ↦ off_on v.if-like_smaller.false (v.like_smaller.ensures.1 (stands_like a.masks.now k.kept a.unnamed a.matter k.b (omega arith) k.invariant s))
            | else-unnamed-b-eq1-via-else-unnamed-b-eq1 v ↦ off_on (bit_off _ k.b v.if-unnamed-b-eq1.false) s.1.spared
          ] in
          rw w.kept-is (sifted_kept _ _ _ k.b k.kept none k.invariant)
    ]

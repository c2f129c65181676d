-- Demand 3, first half, the paper's Theorem 5: the inward rules of the converse do give the walk from q to p. Knows the two tables; every world.
use mathlib.Core.Path.{◌≡◌, refl, sym, subst}
use mathlib.Core.Logic.Iff
use mathlib.Core.Logic.{◌↔◌, inl, inr}
use Prim.Native.Nat.{ℕ, ◌≤◌}
use Rattle.meaning.specs.Theory.{World, bind}
use Rattle.meaning.specs.Rule.{Walk, act, undo, next, prev, seq, alt, star, check, conv, pick}
use Rattle.meaning.specs.Leads.{Rel, Truth, Leads, Back, Holds, Then, Or, Many, Here, Pick, own_now}
use Rattle.meaning.proofs.Chain.{Within, chain_turn}
use Rattle.meaning.proofs.Bounds.{leads_within, back_within}

-- r from p to q is s from q to p
abbrev Exchanged : Rel → Rel → Type 0
Exchanged r s = (p q n : ℕ) → r p q n ↔ s q p n

then_exchanged : {r r' s s' : Rel} → Exchanged r r' → Exchanged s s' → Exchanged (Then s r) (Then r' s')
then_exchanged f g p q n = (
  λ h. (h.0, (f h.0 q n).0 h.2, (g p h.0 n).0 h.1),
  λ h. (h.0, (g p h.0 n).1 h.2, (f h.0 q n).1 h.1),
)

or_exchanged : {r r' s s' : Rel} → Exchanged r r' → Exchanged s s' → Exchanged (Or r s) (Or r' s')
or_exchanged f g p q n = (
  elim [ inl h ↦ inl ((f p q n).0 h) | inr h ↦ inr ((g p q n).0 h) ],
  elim [ inl h ↦ inl ((f p q n).1 h) | inr h ↦ inr ((g p q n).1 h) ],
)

many_exchanged : {r s : Rel} → Within r → Within s → Exchanged r s → Exchanged (Many r) (Many s)
many_exchanged low low' f p q n = (chain_turn low (λ i j. (f i j n).0), chain_turn low' (λ i j. (f j i n).1))

pick_exchanged : {d : ℕ} {r s : ℕ → Rel} → ((k : ℕ) → Exchanged (r k) (s k)) → Exchanged (Pick d r) (Pick d s)
pick_exchanged f p q n = (λ h. (h.0, h.1, (f h.0 p q n).0 h.2), λ h. (h.0, h.1, (f h.0 p q n).1 h.2))

-- a test stays at its place, whichever now it has, so it is its own converse
here_turn : (w : World) (x : Truth) (p q n : ℕ) → Here w x p q n → Here w x q p n
here_turn w x p q n h = subst (λ (k : ℕ). (p ≡ k) × (k ≤ n) × x k (own_now w k n)) (sym h.0) (refl, h.1, h.2)

here_exchanged : (w : World) (x : Truth) → Exchanged (Here w x) (Here w x)
here_exchanged w x p q n = (here_turn w x p q n, here_turn w x q p n)

pub back_exchanged : (w : World) (x : Walk) (p q n : ℕ) → Back w x p q n ↔ Leads w x q p n
unfolding Leads
back_exchanged w (act a) = λ p q n. Iff.rfl
back_exchanged w (undo a) = λ p q n. Iff.rfl
back_exchanged w next = λ p q n. Iff.rfl
back_exchanged w prev = λ p q n. Iff.rfl
back_exchanged w (seq v x) = then_exchanged (back_exchanged w v) (back_exchanged w x)
back_exchanged w (alt v x) = or_exchanged (back_exchanged w v) (back_exchanged w x)
back_exchanged w (star x) = many_exchanged (back_within w x) (leads_within w x) (back_exchanged w x)
back_exchanged w (check t) = here_exchanged w (Holds w t)
back_exchanged w (conv x) = λ p q n. Iff.symm (back_exchanged w x q p n)
back_exchanged w (pick v x) = pick_exchanged (λ k. back_exchanged (bind w v k) x)

-- `-W` is W from q to p
pub converse : (w : World) (x : Walk) (p q n : ℕ) → Leads w (conv x) p q n ↔ Leads w x q p n
unfolding Leads
converse w x p q n = back_exchanged w x p q n

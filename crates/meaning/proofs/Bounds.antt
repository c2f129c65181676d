-- The paper's Lemma 6: a walk goes from and to positions at most now, and a test inside it has a now between its position and the walk's. Knows the table of walks
-- and nothing of the log's length.
use mathlib.Core.Path.{◌≡◌, refl}
use Prim.Native.Nat.{ℕ, ◌≤◌}
use native.Mathlib.Omega.{arith}
use mathlib.Core.Logic.{inl, inr}
use Rattle.meaning.specs.Theory.{Reading, now_step, now_end, World, bind}
use Rattle.meaning.specs.Rule.{Walk, act, undo, next, prev, seq, alt, star, check, conv, pick}
use Rattle.meaning.specs.Leads.{Rel, Leads, Back, Then, Or, Pick, own_now}
use Rattle.meaning.proofs.Chain.{Within, many_within}

-- whichever reading, a test's now is from its position up to the walk's now
pub own_within : (w : World) (p n : ℕ) → p ≤ n → (p ≤ own_now w p n) × (own_now w p n ≤ n)
unfolding own_now
own_within w p n h = go w.own refl
  where
    go : (r : Reading) → w.own ≡ r → (p ≤ own_now w p n) × (own_now w p n ≤ n)
    go now_step e = rw e (omega arith, omega arith)
    go now_end e = rw e (omega arith, omega arith)

then_within : {r s : Rel} → Within r → Within s → Within (Then r s)
then_within f g p q n h = ((f p h.0 n h.1).0, (g h.0 q n h.2).1)

or_within : {r s : Rel} → Within r → Within s → Within (Or r s)
or_within f g p q n (inl h) = f p q n h
or_within f g p q n (inr h) = g p q n h

pick_within : {d : ℕ} {r : ℕ → Rel} → ((k : ℕ) → Within (r k)) → Within (Pick d r)
pick_within f p q n h = f h.0 p q n h.2

mutual
  unfolding Leads

  pub leads_within : (w : World) (x : Walk) → Within (Leads w x)
  leads_within w (act a) = λ p q n h. omega arith
  leads_within w (undo a) = λ p q n h. omega arith
  leads_within w next = λ p q n h. let step = h.1 in omega arith
  leads_within w prev = λ p q n h. let step = h.1 in omega arith
  leads_within w (seq v x) = then_within (leads_within w v) (leads_within w x)
  leads_within w (alt v x) = or_within (leads_within w v) (leads_within w x)
  leads_within w (star x) = many_within (leads_within w x)
  leads_within w (check t) = λ p q n h. omega arith
  leads_within w (conv x) = back_within w x
  leads_within w (pick v x) = pick_within (λ k. leads_within (bind w v k) x)

  pub back_within : (w : World) (x : Walk) → Within (Back w x)
  back_within w (act a) = λ p q n h. omega arith
  back_within w (undo a) = λ p q n h. omega arith
  back_within w next = λ p q n h. let step = h.1 in omega arith
  back_within w prev = λ p q n h. let step = h.1 in omega arith
  -- found by search, for it does not matter here that the order is exchanged
  back_within w (seq v x) = search (then_within, back_within w v, back_within w x)
  back_within w (alt v x) = or_within (back_within w v) (back_within w x)
  back_within w (star x) = many_within (back_within w x)
  back_within w (check t) = λ p q n h. omega arith
  back_within w (conv x) = leads_within w x
  back_within w (pick v x) = pick_within (λ k. back_within (bind w v k) x)

-- A walk with no backward sign never goes back, so in a job its now may be moved wherever its end does not pass. Knows the table of walks; a job's own test has
-- its position as now, so no test is looked into.
use mathlib.Core.Path.{◌≡◌, refl}
use mathlib.Core.Logic.{inl, inr}
use mathlib.Core.Bool.{Bool, true, false, ◌||◌, true≢false}
use Prim.Native.Nat.{ℕ, ◌≤◌}
use native.Mathlib.Omega.{arith}
use Rattle.meaning.specs.Theory.{World, as_job, bind, number_in}
use Rattle.meaning.specs.Rule.{Walk, act, undo, next, prev, seq, alt, star, check, conv, pick, backward}
use Rattle.meaning.specs.Leads.{Rel, Leads, Step, Then, Or, Many, Pick, own_now, stay, link}
use Rattle.meaning.proofs.Bounds.{leads_within}

-- what a walk of two parts with no backward sign says of its parts
pub neither : (a b : Bool) → (a || b) ≡ false → (a ≡ false) × (b ≡ false)
neither true true e = (e, e)
neither true false e = (e, refl)
neither false true e = (refl, e)
neither false false e = (refl, refl)

-- the relation never goes back; its now may be moved wherever its end is not passed
abbrev pub Onward : Rel → Type 0
Onward r = (p q n : ℕ) → r p q n → p ≤ q

abbrev pub Movable : Rel → Type 0
Movable r = (p q n k : ℕ) → r p q n → q ≤ k → r p q k

then_onward : {r s : Rel} → Onward r → Onward s → Onward (Then r s)
then_onward f g p q n h = omega (arith, f p h.0 n h.1, g h.0 q n h.2)

or_onward : {r s : Rel} → Onward r → Onward s → Onward (Or r s)
or_onward f g p q n (inl h) = f p q n h
or_onward f g p q n (inr h) = g p q n h

-- now stays, while the positions change
onward_at : {r : Rel} (n : ℕ) → Onward r → (p q : ℕ) → Many r p q n → p ≤ q
onward_at n f p q (stay e low) = omega arith
onward_at n f p q (link {m = m} step more) = omega (arith, f p m n step, onward_at n f m q more)

pub many_onward : {r : Rel} → Onward r → Onward (Many r)
many_onward f p q n h = onward_at n f p q h

pick_onward : {d : ℕ} {r : ℕ → Rel} → ((k : ℕ) → Onward (r k)) → Onward (Pick d r)
pick_onward f p q n h = f h.0 p q n h.2

then_movable : {r s : Rel} → Onward s → Movable r → Movable s → Movable (Then r s)
then_movable up f g p q n k h l =
    let m = h.0 in
    let b : m ≤ k = omega (arith, up m q n h.2) in
    (m, f p m n k h.1 b, g m q n k h.2 l)

or_movable : {r s : Rel} → Movable r → Movable s → Movable (Or r s)
or_movable f g p q n k (inl h) l = inl (f p q n k h l)
or_movable f g p q n k (inr h) l = inr (g p q n k h l)

movable_at : {r : Rel} (n k : ℕ) → Onward r → Movable r → (p q : ℕ) → Many r p q n → q ≤ k → Many r p q k
movable_at n k up f p q (stay e low) l = stay e (omega arith)
movable_at n k up f p q (link {m = m} step more) l =
    link (f p m n k step (omega (arith, many_onward up m q n more))) (movable_at n k up f m q more l)

many_movable : {r : Rel} → Onward r → Movable r → Movable (Many r)
many_movable up f p q n k h l = movable_at n k up f p q h l

pick_movable : {d : ℕ} {r : ℕ → Rel} → ((k : ℕ) → Movable (r k)) → Movable (Pick d r)
pick_movable f p q n j h l = (h.0, h.1, f h.0 p q n j h.2 l)

-- a walk with no backward sign never goes back
pub onward : (w : World) (x : Walk) → backward x ≡ false → Onward (Leads w x)
unfolding Leads backward
onward w (act a) b = λ p q n h. omega arith
onward w (undo a) b = absurd (true≢false b)
onward w next b = λ p q n h. let step = h.1 in omega arith
onward w prev b = absurd (true≢false b)
onward w (seq v x) b =
    let e = neither (backward v) (backward x) b in
    then_onward (onward w v e.0) (onward w x e.1)
onward w (alt v x) b =
    let e = neither (backward v) (backward x) b in
    or_onward (onward w v e.0) (onward w x e.1)
onward w (star x) b = many_onward (onward w x b)
onward w (check t) b = λ p q n h. omega arith
onward w (conv x) b = absurd (true≢false b)
onward w (pick v x) b = pick_onward (λ k. onward (bind w v k) x b)

step_movable : (w : World) (a : ℕ) → Movable (Step w a)
step_movable w a p q n k h l = record { onward = h.onward; within = l; logged = h.logged; able = h.able }

-- and in a job its now may be moved, back to its end and forth as far as one likes
pub movable : (w : World) (x : Walk) → backward x ≡ false → Movable (Leads (as_job w) x)
unfolding Leads backward own_now
movable w (act a) b = step_movable (as_job w) (number_in w a)
movable w (undo a) b = absurd (true≢false b)
movable w next b = λ p q n k h l. (h.0, step_movable (as_job w) h.0 p q n k h.1 l)
movable w prev b = absurd (true≢false b)
movable w (seq v x) b =
    let e = neither (backward v) (backward x) b in
    then_movable (onward (as_job w) x e.1) (movable w v e.0) (movable w x e.1)
movable w (alt v x) b =
    let e = neither (backward v) (backward x) b in
    or_movable (movable w v e.0) (movable w x e.1)
movable w (star x) b = many_movable (onward (as_job w) x b) (movable w x b)
movable w (check t) b = λ p q n k h l. (h.0, omega arith, h.2)
movable w (conv x) b = absurd (true≢false b)
movable w (pick v x) b = pick_movable (λ k. movable (bind w v k) x b)

-- shortened: cut at any k that its end does not pass; lengthened: any later now
pub lengthen : (w : World) (x : Walk) → backward x ≡ false → (p q k n : ℕ) → k ≤ n → Leads (as_job w) x p q k → Leads (as_job w) x p q n
lengthen w x b p q k n l h = movable w x b p q k n h (omega (arith, leads_within (as_job w) x p q k h))

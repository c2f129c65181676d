-- If a job, which has no backward sign, goes on past k, then the step at k is one that it asks for: what leaves an action out of the search only where it
-- cannot finish. What is asked for at k hangs on the first k steps alone. Knows the table of walks.
use mathlib.Core.Path.{◌≡◌, refl}
use mathlib.Core.Logic.{◌⊎◌, inl, inr, ◌↔◌}
use mathlib.Core.Bool.{false, true≢false}
use mathlib.Core.List.{List, ◌∷◌, ◌++◌, append_assoc}
use mathlib.Core.Option.{some}
use Prim.Native.Nat.{ℕ, ◌+◌, ◌≤◌, ◌<◌}
use native.Mathlib.Decide.{dec_lt}
use native.Mathlib.Omega.{arith}
use lib.ListN.{length, length-append}
use Rattle.meaning.specs.Theory.{World, as_job, bind, number_in, relog, step_at}
use Rattle.meaning.specs.Rule.{Walk, act, undo, next, prev, seq, alt, star, check, conv, pick, backward}
use Rattle.meaning.specs.Leads.{Rel, Leads, Then, Or, Many, Pick, stay, link}
use Rattle.meaning.specs.Stands.{Agree}
use Rattle.meaning.specs.Asks.{Asks}
use Rattle.meaning.specs.Finish.{Finishes}
use Rattle.meaning.proofs.Theory.{get_elem_seam}
use Rattle.meaning.proofs.Cut.{agree_append, agree_turned, leads_cut}
use Rattle.meaning.proofs.Chain.{chain_map}
use Rattle.meaning.proofs.Onward.{Movable, neither, movable}

-- r, where it goes from p past k, waits at k as x says
abbrev Waits : ℕ → Rel → (ℕ → Type 0) → Type 0
Waits k r x = (p q n : ℕ) → r p q n → p ≤ k → k < q → x p

then_waits : {k : ℕ} {r s : Rel} {x y : ℕ → Type 0} → Movable r → Waits k r x → Waits k s y
    → Waits k (Then r s) (λ p. x p ⊎ ((m : ℕ) × r p m k × y m))
then_waits {k} move f g p q n h low high = elim (dec_lt k h.0) [
  | yes l ↦ inl (f p h.0 n h.1 low l)
  | no l ↦ inr (h.0, move p h.0 n k h.1 (omega arith), g h.0 q n h.2 (omega arith) high)
]

-- now stays, while the positions change
waits_at : (n : ℕ) {k : ℕ} {r : Rel} {x : ℕ → Type 0} → Movable r → Waits k r x → (p q : ℕ) → Many r p q n → p ≤ k → k < q → (m : ℕ) × Many r p m k × x m
waits_at n {k} move f p q (stay e here) low high = absurd (omega arith)
waits_at n {k} {r} {x} move f p q (link {m = m} step more) low high = go (dec_lt k m) (waits_at n move f m q more)
  where
    go : Dec (k < m) → (m ≤ k → k < q → (i : ℕ) × Many r m i k × x i) → (i : ℕ) × Many r p i k × x i
    go (yes l) rest = (p, stay refl low, f p m n step low l)
    go (no l) rest =
        let low' : m ≤ k = omega arith in
        let found = rest low' high in
        (found.0, link (move p m n k step low') found.1, found.2)

many_waits : {k : ℕ} {r : Rel} {x : ℕ → Type 0} → Movable r → Waits k r x → Waits k (Many r) (λ p. (m : ℕ) × Many r p m k × x m)
many_waits move f p q n h low high = waits_at n move f p q h low high

or_waits : {k : ℕ} {r s : Rel} {x y : ℕ → Type 0} → Waits k r x → Waits k s y → Waits k (Or r s) (λ p. x p ⊎ y p)
or_waits f g p q n (inl h) low high = inl (f p q n h low high)
or_waits f g p q n (inr h) low high = inr (g p q n h low high)

pick_waits : {k d : ℕ} {r : ℕ → Rel} {x : ℕ → ℕ → Type 0} → ((i : ℕ) → Waits k (r i) (x i)) → Waits k (Pick d r) (λ p. (i : ℕ) × (i < d) × x i p)
pick_waits f p q n h low high = (h.0, h.1, f h.0 p q n h.2 low high)

waits : (w : World) (x : Walk) → backward x ≡ false → (k a : ℕ) → step_at w k ≡ some a → Waits k (Leads (as_job w) x) (λ p. Asks (as_job w) x p k a)
unfolding Leads backward Asks
waits w (act c) b k a s = λ p q n h low high.
    let here : p ≡ k = omega arith in
    let step : step_at w p ≡ some (number_in w c) = h.logged in
    (here, cc)
waits w (undo c) b k a s = absurd (true≢false b)
waits w next b k a s = λ p q n h low high. let step = h.1 in omega arith
waits w prev b k a s = absurd (true≢false b)
waits w (seq v x) b k a s =
    let e = neither (backward v) (backward x) b in
    then_waits (movable w v e.0) (waits w v e.0 k a s) (waits w x e.1 k a s)
waits w (alt v x) b k a s =
    let e = neither (backward v) (backward x) b in
    or_waits (waits w v e.0 k a s) (waits w x e.1 k a s)
waits w (star x) b k a s = many_waits (movable w x b) (waits w x b k a s)
waits w (check t) b k a s = λ p q n h low high. absurd (omega arith)
waits w (conv x) b k a s = absurd (true≢false b)
waits w (pick v x) b k a s = pick_waits (λ i. waits (bind w v i) x b k a s)

pub asks : (w : World) (x : Walk) (p q n k a : ℕ) → backward x ≡ false → Leads (as_job w) x p q n → p ≤ k → k < q → step_at w k ≡ some a
    → Asks (as_job w) x p k a
asks w x p q n k a b h low high s = waits w x b k a s p q n h low high

-- what is asked for at k hangs on the first k steps
asks_kept : (w : World) (x : Walk) (l l' : List ℕ) (p k a : ℕ) → Agree l l' k → Asks (relog w l) x p k a → Asks (relog w l') x p k a
unfolding Asks
asks_kept w (act c) l l' p k a e h = h
asks_kept w (undo c) l l' p k a e h = h
asks_kept w next l l' p k a e h = h
asks_kept w prev l l' p k a e h = h
asks_kept w (seq v x) l l' p k a e (inl h) = inl (asks_kept w v l l' p k a e h)
asks_kept w (seq v x) l l' p k a e (inr h) = inr (h.0, (leads_cut w v l l' p h.0 k e).0 h.1, asks_kept w x l l' h.0 k a e h.2)
asks_kept w (alt v x) l l' p k a e (inl h) = inl (asks_kept w v l l' p k a e h)
asks_kept w (alt v x) l l' p k a e (inr h) = inr (asks_kept w x l l' p k a e h)
asks_kept w (star x) l l' p k a e h =
    (h.0, chain_map (λ i j. (leads_cut w x l l' i j k e).0) h.1, asks_kept w x l l' h.0 k a e h.2)
asks_kept w (check t) l l' p k a e h = h
asks_kept w (conv x) l l' p k a e h = h
asks_kept w (pick v x) l l' p k a e h = (h.0, h.1, asks_kept (bind w v h.0) x l l' p k a e h.2)

pub asks_cut : (w : World) (x : Walk) (l l' : List ℕ) (p k a : ℕ) → Agree l l' k → Asks (relog w l) x p k a ↔ Asks (relog w l') x p k a
asks_cut w x l l' p k a e = (asks_kept w x l l' p k a e, asks_kept w x l' l p k a (agree_turned l l' k e))

-- so an action that a job takes next, whatever follows, is one that it asks for at the end of the log that stands
pub next_asked : (w : World) (x : Walk) (l rest : List ℕ) (a p q n : ℕ) → backward x ≡ false → Leads (relog (as_job w) (l ++ a ∷ rest)) x p q n
    → p ≤ length l → length l < q → Asks (relog (as_job w) l) x p (length l) a
next_asked w x l rest a p q n b h low high =
    asks_kept (as_job w) x (l ++ a ∷ rest) l p (length l) a (agree_append l (a ∷ rest) (length l) (omega arith))
    (asks (relog w (l ++ a ∷ rest)) x p q n (length l) a b h low high (get_elem_seam l a rest))

-- and of the sequences that finish, none that begins as tried goes on with an action not asked for
pub finish_asks : (w : World) (job : Walk) (more : ℕ) (tried : List ℕ) (a : ℕ) (rest : List ℕ) → backward job ≡ false
    → Finishes w job more (tried ++ a ∷ rest) → Asks (relog (as_job w) (w.log ++ tried)) job 0 (length (w.log ++ tried)) a
finish_asks w job more tried a rest b f =
    let end = length w.log + length (tried ++ a ∷ rest) in
    next_asked w job (w.log ++ tried) rest a 0 end end b (rw append_assoc f.done) (omega arith) (simp length-append (omega arith))

-- If a job, which has no backward sign, goes on past k, then a sign of it asks for the step at k behind which it can be as long as it is. Knows the table of walks.
use mathlib.Core.Path.{◌≡◌, refl, sym, ap, subst, ◌∙◌}
use mathlib.Core.Logic.{◌⊎◌, inl, inr, ◌↔◌, ⊎_elim}
use mathlib.Core.Bool.{Bool, true, false, true≢false}
use mathlib.Core.List.{List, ◌∷◌, ◌++◌, append_assoc}
use mathlib.Core.Option.{some}
use Prim.Native.Nat.{ℕ, ◌+◌, ◌-◌, ◌≤◌, ◌<◌}
use native.Mathlib.Decide.{dec_lt}
use native.Mathlib.Omega.{arith}
use lib.ListN.{length, get_elem?, length-append}
use Rattle.laws.specs.Bit.{on}
use Rattle.meaning.specs.Limits.{more_limit}
use Rattle.meaning.specs.Theory.{World, as_job, bind, number_in, relog, run, state_before, step_at}
use Rattle.meaning.specs.Rule.{plain, plus, Walk, act, undo, next, prev, seq, alt, star, check, conv, pick, backward, walk_text}
use Rattle.meaning.specs.Leads.{Rel, Leads, Then, Many, stay, link}
use Rattle.meaning.specs.Finish.{Able}
use Rattle.meaning.specs.Stands.{Agree}
use Rattle.meaning.specs.Asks.{Asks, AsksAt}
use Rattle.meaning.specs.Lengths.{Turning, Reaching, Inside, Measured, allows}
use Rattle.meaning.proofs.Theory.{get_elem_seam}
use Rattle.meaning.proofs.Turning.{later_turning}
use Rattle.meaning.proofs.Cut.{agree_append, leads_cut}
use Rattle.meaning.proofs.Chain.{chain_map}
use Rattle.meaning.proofs.Onward.{Onward, Movable, neither, onward, movable, many_onward}
use Rattle.meaning.proofs.Measured.{Counted, counted, many_counted}

-- where every sign of the walk may ask, it is what the walk asks for
pub all_ask : (may : ℕ → Bool) (w : World) (at : ℕ) (x : Walk) → ((i : ℕ) → i < at + length (walk_text x) → may i ≡ true) → (p k a : ℕ)
    → AsksAt may w at x p k a ↔ Asks w x p k a
unfolding Asks AsksAt walk_text
all_ask may w at (act (plain b)) all p k a = (λ h. (h.1, h.2), λ h. (all at (omega arith), h.0, h.1))
all_ask may w at (act (plus b v)) all p k a = (λ h. (h.1, h.2), λ h. (all at (omega arith), h.0, h.1))
all_ask may w at (undo b) all p k a = (λ h. h, λ h. h)
all_ask may w at next all p k a = (λ h. h.1, λ h. (all at (omega arith), h))
all_ask may w at prev all p k a = (λ h. h, λ h. h)
all_ask may w at (seq v x) all p k a =
    let one = all_ask may w (at + 1) v (λ i h. all i (simp length-append (omega arith))) in
    let two = all_ask may w (at + 1 + length (walk_text v)) x (λ i h. all i (simp length-append (omega arith))) in (
      ⊎_elim (λ h. inl ((one p k a).0 h)) (λ h. inr (h.0, h.1, (two h.0 k a).0 h.2)),
      ⊎_elim (λ h. inl ((one p k a).1 h)) (λ h. inr (h.0, h.1, (two h.0 k a).1 h.2)),
    )
all_ask may w at (alt v x) all p k a =
    let one = all_ask may w (at + 1) v (λ i h. all i (simp length-append (omega arith))) in
    let two = all_ask may w (at + 1 + length (walk_text v)) x (λ i h. all i (simp length-append (omega arith))) in (
      ⊎_elim (λ h. inl ((one p k a).0 h)) (λ h. inr ((two p k a).0 h)),
      ⊎_elim (λ h. inl ((one p k a).1 h)) (λ h. inr ((two p k a).1 h)),
    )
all_ask may w at (star x) all p k a =
    let one = all_ask may w (at + 1) x (λ i h. all i (omega arith)) in
    (λ h. (h.0, h.1, (one h.0 k a).0 h.2), λ h. (h.0, h.1, (one h.0 k a).1 h.2))
all_ask may w at (check t) all p k a = (λ h. h, λ h. h)
all_ask may w at (conv x) all p k a = (λ h. h, λ h. h)
all_ask may w at (pick v x) all p k a = (
  λ h. (h.0, h.1, (all_ask may (bind w v h.0) (at + 2) x (λ i l. all i (omega arith)) p k a).0 h.2),
  λ h. (h.0, h.1, (all_ask may (bind w v h.0) (at + 2) x (λ i l. all i (omega arith)) p k a).1 h.2),
)

-- what is asked for at k hangs on the first k steps
pub asks_at_kept : (may : ℕ → Bool) (w : World) (at : ℕ) (x : Walk) (l l' : List ℕ) (p k a : ℕ) → Agree l l' k → AsksAt may (relog w l) at x p k a
    → AsksAt may (relog w l') at x p k a
unfolding AsksAt
asks_at_kept may w at (act c) l l' p k a e h = h
asks_at_kept may w at (undo c) l l' p k a e h = h
asks_at_kept may w at next l l' p k a e h = h
asks_at_kept may w at prev l l' p k a e h = h
asks_at_kept may w at (seq v x) l l' p k a e (inl h) = inl (asks_at_kept may w _ v l l' p k a e h)
asks_at_kept may w at (seq v x) l l' p k a e (inr h) = inr (h.0, (leads_cut w v l l' p h.0 k e).0 h.1, asks_at_kept may w _ x l l' h.0 k a e h.2)
asks_at_kept may w at (alt v x) l l' p k a e (inl h) = inl (asks_at_kept may w _ v l l' p k a e h)
asks_at_kept may w at (alt v x) l l' p k a e (inr h) = inr (asks_at_kept may w _ x l l' p k a e h)
asks_at_kept may w at (star x) l l' p k a e h =
    (h.0, chain_map (λ i j. (leads_cut w x l l' i j k e).0) h.1, asks_at_kept may w _ x l l' h.0 k a e h.2)
asks_at_kept may w at (check t) l l' p k a e h = h
asks_at_kept may w at (conv x) l l' p k a e h = h
asks_at_kept may w at (pick v x) l l' p k a e h = (h.0, h.1, asks_at_kept may (bind w v h.0) _ x l l' p k a e h.2)

-- r, where it goes from p past k and is t steps from the job's end behind the step at k, waits at k as x says
abbrev Waits : ℕ → ℕ → Rel → ℕ → (ℕ → Type 0) → Type 0
Waits k t r behind x = (p q n l : ℕ) → r p q n → p ≤ k → k < q → on behind l ≡ true → k + 1 + t ≡ q + l → x p

then_waits : (k t base behind middle : ℕ) {r s : Rel} {x y : ℕ → Type 0} → base ≤ k → t ≤ more_limit → Movable r → Onward s → Counted base s behind middle → Waits k t r middle x
    → Waits k t s behind y → Waits k t (Then r s) behind (λ p. x p ⊎ ((m : ℕ) × r p m k × y m))
then_waits k t base behind middle late most move up count f g p q n l h low high e same = elim (dec_lt k h.0) [
  | yes i ↦
      let m = h.0 in
      let b : m ≤ q = up m q n h.2 in
      inl (f p m n (q + l - m) h.1 low i (count m q n l (q + l - m) (omega arith) h.2 e (omega arith) (omega arith)) (omega arith))
  | no i ↦ inr (h.0, move p h.0 n k h.1 (omega arith), g h.0 q n l h.2 (omega arith) high e same)
]

-- now stays, while the positions change
waits_at : (n l k t base behind rounds : ℕ) {r : Rel} {x : ℕ → Type 0} → base ≤ k → t ≤ more_limit → Movable r → Onward r → Counted base r rounds rounds → Inside behind rounds
    → Waits k t r rounds x → (p q : ℕ) → Many r p q n → p ≤ k → k < q → on behind l ≡ true → k + 1 + t ≡ q + l → (m : ℕ) × Many r p m k × x m
waits_at n l k t base behind rounds late most move up count start f p q (stay e here) low high g same = absurd (omega arith)
waits_at n l k t base behind rounds {r = r} {x = x} late most move up count start f p q (link {m = m} step more) low high e same =
    go (dec_lt k m) (waits_at n l k t base behind rounds late most move up count start f m q more)
  where
    go : Dec (k < m) → (m ≤ k → k < q → on behind l ≡ true → k + 1 + t ≡ q + l → (i : ℕ) × Many r m i k × x i) → (i : ℕ) × Many r p i k × x i
    go (yes i) rest =
        let b : m ≤ q = many_onward up m q n more in
        (p, stay refl low, f p m n (q + l - m) step low i (many_counted base behind rounds up start count m q n l (q + l - m) (omega arith) more e (omega arith) (omega arith)) (omega arith))
    go (no i) rest =
        let low' : m ≤ k = omega arith in
        let found = rest low' high e same in
        (found.0, link (move p m n k step low') found.1, found.2)

many_waits : (k t base behind rounds : ℕ) {r : Rel} {x : ℕ → Type 0} → base ≤ k → t ≤ more_limit → Movable r → Onward r → Counted base r rounds rounds → Inside behind rounds
    → Waits k t r rounds x → Waits k t (Many r) behind (λ p. (m : ℕ) × Many r p m k × x m)
many_waits k t base behind rounds late most move up count start f p q n l h low high e same = waits_at n l k t base behind rounds late most move up count start f p q h low high e same

waits : (w : World) (x : Walk) → backward x ≡ false → (ons offs : ℕ) (follow : List ℕ) (base k t a : ℕ) → base ≤ k → t ≤ more_limit → step_at w k ≡ some a
    → ((p : ℕ) → base ≤ p → Turning ons offs (state_before w p)) → (at behind before : ℕ) → Measured ons offs follow at x behind before
    → Waits k t (Leads (as_job w) x) behind (λ p. AsksAt (allows follow t) (as_job w) at x p k a)
unfolding Leads backward AsksAt Measured
waits w (act c) b ons offs f base k t a late most s turn at behind before h = λ p q n l step low high e same.
    let here : p ≡ k = omega (arith, step.onward) in
    let named : step_at w p ≡ some (number_in w c) = step.logged in
    let left : l ≡ t = omega (arith, step.onward) in
    (h.0 t (rw left at e), here, cc)
waits w (undo c) b ons offs f base k t a late most s turn at behind before h = absurd (true≢false b)
waits w next b ons offs f base k t a late most s turn at behind before h = λ p q n l step low high e same.
    let one = step.1 in
    let left : l ≡ t = omega (arith, one.onward) in
    (h.0 t (rw left at e), omega (arith, one.onward))
waits w prev b ons offs f base k t a late most s turn at behind before h = absurd (true≢false b)
waits w (seq v x) b ons offs f base k t a late most s turn at behind before h =
    let e = neither (backward v) (backward x) b in
    then_waits k t base behind h.0 late most (movable w v e.0) (onward (as_job w) x e.1) (counted (as_job w) x e.1 ons offs f base turn _ behind h.0 h.1)
    (waits w v e.0 ons offs f base k t a late most s turn _ h.0 before h.2) (waits w x e.1 ons offs f base k t a late most s turn _ behind h.0 h.1)
waits w (alt v x) b ons offs f base k t a late most s turn at behind before h = λ p q n l step low high e same.
    let n' = neither (backward v) (backward x) b in
    ⊎_elim
    (λ u. inl (waits w v n'.0 ons offs f base k t a late most s turn _ behind before h.0 p q n l u low high e same))
    (λ u. inr (waits w x n'.1 ons offs f base k t a late most s turn _ behind before h.1 p q n l u low high e same))
    step
waits w (star x) b ons offs f base k t a late most s turn at behind before h =
    many_waits k t base behind h.0 late most (movable w x b) (onward (as_job w) x b) (counted (as_job w) x b ons offs f base turn _ h.0 h.0 h.2) h.1
    (waits w x b ons offs f base k t a late most s turn _ h.0 h.0 h.2)
waits w (check c) b ons offs f base k t a late most s turn at behind before h = λ p q n l step low high e same. absurd (omega (arith, step.0))
waits w (conv x) b ons offs f base k t a late most s turn at behind before h = absurd (true≢false b)
waits w (pick v x) b ons offs f base k t a late most s turn at behind before h = λ p q n l step low high e same.
    (step.0, step.1, waits (bind w v step.0) x b ons offs f base k t a late most s turn _ behind before h p q n l step.2 low high e same)

-- So an action that a job takes next, with so many actions behind it, is one that a sign asks for at the end of the log that stands: where the table has been made for an
-- earlier log, from which only actions of the theory have led on.
pub next_asked_at : (w : World) (x : Walk) (ons offs : ℕ) (follow : List ℕ) (before : ℕ) (tried : List ℕ) (a : ℕ) (rest : List ℕ) → backward x ≡ false
    → Reaching w.actions w.masks (run w.masks w.start w.log) ons offs → Measured ons offs follow 0 x 1 before
    → Able w.actions w.masks (run w.masks w.start w.log) (tried ++ a ∷ rest) → length rest ≤ more_limit
    → Leads (relog (as_job w) (w.log ++ (tried ++ a ∷ rest))) x 0 (length (w.log ++ (tried ++ a ∷ rest))) (length (w.log ++ (tried ++ a ∷ rest)))
    → AsksAt (allows follow (length rest)) (relog (as_job w) (w.log ++ tried)) 0 x 0 (length (w.log ++ tried)) a
unfolding on
next_asked_at w x ons offs follow before tried a rest b reach measured able short h =
    let ending = tried ++ a ∷ rest in
    let l = w.log ++ tried in
    let whole : w.log ++ ending ≡ l ++ a ∷ rest = sym (append_assoc w.log tried (a ∷ rest)) in
    let k = length l in
    let long : length (w.log ++ ending) ≡ k + 1 + length rest = ap length whole ∙ simp length-append (omega arith) in
    let here : step_at (relog w (w.log ++ ending)) k ≡ some a = subst (λ (i : List ℕ). get_elem? i k ≡ some a) (sym whole) (get_elem_seam l a rest) in
    let base : length w.log ≤ k = simp length-append (omega arith) in
    asks_at_kept (allows follow (length rest)) (as_job w) 0 x (w.log ++ ending) l 0 k a
    (subst (λ (i : List ℕ). Agree i l k) (sym whole) (agree_append l (a ∷ rest) k (omega arith)))
    (waits (relog w (w.log ++ ending)) x b ons offs follow (length w.log) k (length rest) a base short here
    (λ p late. later_turning w ending ons offs p reach able late) 0 1 before measured 0 (length (w.log ++ ending)) (length (w.log ++ ending)) 0 h (omega arith) (omega arith) refl (omega arith))

-- Laws of the lengths of a walk: of no length, of fewer and of more, of two sets together; and that no walk of the meaning has a length that is left out. Knows
-- the table of walks.
use mathlib.Core.Path.{◌≡◌, sym, subst, ◌∙◌}
use mathlib.Core.Logic.{inl, inr, ⊎_elim}
use mathlib.Core.Bool.{true, false, true≢false}
use mathlib.Core.List.{List}
use Prim.Native.Nat.{ℕ, ◌+◌, ◌-◌, ◌≤◌}
use lib.ListN.{length}
use native.Mathlib.Omega.{arith}
use lib.Bits.{bit_or}
use Rattle.laws.specs.Bit.{on}
use Rattle.laws.proofs.Truth.{off_on, or_iff}
use Rattle.laws.proofs.On.{on_none}
use Rattle.laws.proofs.Bitwise.{on_or}
use Rattle.meaning.specs.Limits.{more_limit}
use Rattle.meaning.specs.Theory.{World, bind, state_before}
use Rattle.meaning.specs.Rule.{Walk, act, undo, next, prev, seq, alt, star, check, conv, pick, backward, walk_text}
use Rattle.meaning.specs.Leads.{Rel, Leads, Then, Many, stay, link, own_now}
use Rattle.meaning.specs.Lengths.{Turning, Inside, Longer, Measured, Grown}
use Rattle.meaning.proofs.Onward.{Onward, neither, onward, many_onward}

pub or_left : (a b : ℕ) → Inside a (bit_or a b)
or_left a b l e = on_or a b l ∙ (or_iff (on a l) (on b l)).1 (inl e)

pub or_right : (a b : ℕ) → Inside b (bit_or a b)
or_right a b l e = on_or a b l ∙ (or_iff (on a l) (on b l)).1 (inr e)

pub or_inside : (a b c : ℕ) → Inside a c → Inside b c → Inside (bit_or a b) c
or_inside a b c f g l e = ⊎_elim (f l) (g l) ((or_iff (on a l) (on b l)).0 (sym (on_or a b l) ∙ e))

pub none_inside : (a : ℕ) → Inside 0 a
none_inside a l e = absurd (off_on (on_none l) e)

both_inside : (a b c d : ℕ) → Inside a c → Inside b d → Inside (bit_or a b) (bit_or c d)
both_inside a b c d f g = or_inside a b (bit_or c d) (λ l e. or_left c d l (f l e)) (λ l e. or_right c d l (g l e))

both_longer : (a b c d : ℕ) → Longer a c → Longer b d → Longer (bit_or a b) (bit_or c d)
both_longer a b c d f g l h e =
    ⊎_elim (λ k. or_left c d (l + 1) (f l h k)) (λ k. or_right c d (l + 1) (g l h k)) ((or_iff (on a l) (on b l)).0 (sym (on_or a b l) ∙ e))

-- of no length behind it
pub measured_none : (ons offs : ℕ) (follow : List ℕ) (at : ℕ) (x : Walk) → Measured ons offs follow at x 0 0
unfolding Measured
measured_none ons offs follow at (act a) = (none_inside _, λ l h e. absurd (off_on (on_none l) e))
measured_none ons offs follow at (undo a) = tt
measured_none ons offs follow at next = (none_inside _, λ l h e. absurd (off_on (on_none l) e))
measured_none ons offs follow at prev = tt
measured_none ons offs follow at (seq v x) = (0, measured_none ons offs follow (at + 1 + length (walk_text v)) x, measured_none ons offs follow (at + 1) v)
measured_none ons offs follow at (alt v x) = (measured_none ons offs follow (at + 1) v, measured_none ons offs follow (at + 1 + length (walk_text v)) x)
measured_none ons offs follow at (star x) = (0, none_inside 0, measured_none ons offs follow (at + 1) x, none_inside 0)
measured_none ons offs follow at (check t) = inr (none_inside 0)
measured_none ons offs follow at (conv x) = tt
measured_none ons offs follow at (pick v x) = measured_none ons offs follow (at + 2) x

-- of fewer behind it, of more before it, and in a table that has grown
pub measured_wide : (ons offs : ℕ) (follow larger : List ℕ) (at : ℕ) (x : Walk) (behind before fewer more : ℕ) → Grown follow larger → Inside fewer behind → Inside before more
    → Measured ons offs follow at x behind before → Measured ons offs larger at x fewer more
unfolding Measured
measured_wide ons offs f f' at (act a) b r b' r' g fewer more h = (λ l e. g at l (h.0 l (fewer l e)), λ l k e. more (l + 1) (h.1 l k (fewer l e)))
measured_wide ons offs f f' at (undo a) b r b' r' g fewer more h = tt
measured_wide ons offs f f' at next b r b' r' g fewer more h = (λ l e. g at l (h.0 l (fewer l e)), λ l k e. more (l + 1) (h.1 l k (fewer l e)))
measured_wide ons offs f f' at prev b r b' r' g fewer more h = tt
measured_wide ons offs f f' at (seq v x) b r b' r' g fewer more h = (
  h.0,
  measured_wide ons offs f f' (at + 1 + length (walk_text v)) x b h.0 b' h.0 g fewer (λ l e. e) h.1,
  measured_wide ons offs f f' (at + 1) v h.0 r h.0 r' g (λ l e. e) more h.2,
)
measured_wide ons offs f f' at (alt v x) b r b' r' g fewer more h =
    (measured_wide ons offs f f' (at + 1) v b r b' r' g fewer more h.0, measured_wide ons offs f f' (at + 1 + length (walk_text v)) x b r b' r' g fewer more h.1)
measured_wide ons offs f f' at (star x) b r b' r' g fewer more h = (
  h.0,
  λ l e. h.1 l (fewer l e),
  measured_wide ons offs f f' (at + 1) x h.0 h.0 h.0 h.0 g (λ l e. e) (λ l e. e) h.2,
  λ l e. more l (h.3 l e),
)
measured_wide ons offs f f' at (check t) b r b' r' g fewer more (inl never) = inl never
measured_wide ons offs f f' at (check t) b r b' r' g fewer more (inr h) = inr (λ l e. more l (h l (fewer l e)))
measured_wide ons offs f f' at (conv x) b r b' r' g fewer more h = tt
measured_wide ons offs f f' at (pick v x) b r b' r' g fewer more h = measured_wide ons offs f f' (at + 2) x b r b' r' g fewer more h

-- of two sets of lengths behind it together
pub measured_both : (ons offs : ℕ) (follow : List ℕ) (at : ℕ) (x : Walk) (b c r s : ℕ) → Measured ons offs follow at x b r → Measured ons offs follow at x c s
    → Measured ons offs follow at x (bit_or b c) (bit_or r s)
unfolding Measured
measured_both ons offs f at (act a) b c r s h k = (or_inside b c _ h.0 k.0, both_longer b c r s h.1 k.1)
measured_both ons offs f at (undo a) b c r s h k = tt
measured_both ons offs f at next b c r s h k = (or_inside b c _ h.0 k.0, both_longer b c r s h.1 k.1)
measured_both ons offs f at prev b c r s h k = tt
measured_both ons offs f at (seq v x) b c r s h k =
    (bit_or h.0 k.0, measured_both ons offs f (at + 1 + length (walk_text v)) x b c h.0 k.0 h.1 k.1, measured_both ons offs f (at + 1) v h.0 k.0 r s h.2 k.2)
measured_both ons offs f at (alt v x) b c r s h k =
    (measured_both ons offs f (at + 1) v b c r s h.0 k.0, measured_both ons offs f (at + 1 + length (walk_text v)) x b c r s h.1 k.1)
measured_both ons offs f at (star x) b c r s h k = (
  bit_or h.0 k.0,
  both_inside b c h.0 k.0 h.1 k.1,
  measured_both ons offs f (at + 1) x h.0 k.0 h.0 k.0 h.2 k.2,
  both_inside h.0 k.0 r s h.3 k.3,
)
measured_both ons offs f at (check t) b c r s (inl never) k = inl never
measured_both ons offs f at (check t) b c r s (inr h) (inl never) = inl never
measured_both ons offs f at (check t) b c r s (inr h) (inr k) = inr (both_inside b c r s h k)
measured_both ons offs f at (conv x) b c r s h k = tt
measured_both ons offs f at (pick v x) b c r s h k = measured_both ons offs f (at + 2) x b c r s h k

-- From a position at or behind `base` the relation takes only such lengths: l steps are left behind its end, and t before it.
abbrev pub Counted : ℕ → Rel → ℕ → ℕ → Type 0
Counted base r behind before = (p q n l t : ℕ) → base ≤ p → r p q n → on behind l ≡ true → p + t ≡ q + l → t ≤ more_limit → on before t ≡ true

then_counted : (base behind middle before : ℕ) {r s : Rel} → Onward r → Onward s → Counted base s behind middle → Counted base r middle before
    → Counted base (Then r s) behind before
then_counted base behind middle before up up' g f p q n l t low h e same most =
    let m = h.0 in
    let a : p ≤ m = up p m n h.1 in
    let b : m ≤ q = up' m q n h.2 in
    f p m n (q + l - m) t low h.1 (g m q n l (q + l - m) (omega arith) h.2 e (omega arith) (omega arith)) (omega arith) most

-- now stays, while the positions change
counted_at : (n base behind rounds : ℕ) {r : Rel} → Onward r → Inside behind rounds → Counted base r rounds rounds
    → (p q l t : ℕ) → base ≤ p → Many r p q n → on behind l ≡ true → p + t ≡ q + l → t ≤ more_limit → on rounds t ≡ true
counted_at n base behind rounds up start f p q l t low (stay e here) k same most = subst (λ (i : ℕ). on rounds i ≡ true) (omega arith) (start l k)
counted_at n base behind rounds up start f p q l t low (link {m = m} step more) k same most =
    let a : p ≤ m = up p m n step in
    let b : m ≤ q = many_onward up m q n more in
    f p m n (q + l - m) t low step (counted_at n base behind rounds up start f m q l (q + l - m) (omega arith) more k (omega arith) (omega arith)) (omega arith) most

pub many_counted : (base behind rounds : ℕ) {r : Rel} → Onward r → Inside behind rounds → Counted base r rounds rounds → Counted base (Many r) behind rounds
many_counted base behind rounds up start f p q n l t low h k same most = counted_at n base behind rounds up start f p q l t low h k same most

step_counted : (base behind before p q l t : ℕ) → Longer behind before → q ≡ p + 1 → on behind l ≡ true → p + t ≡ q + l → t ≤ more_limit → on before t ≡ true
step_counted base behind before p q l t longer e k same most =
    subst (λ (i : ℕ). on before i ≡ true) (omega arith) (longer l (omega arith) k)

-- what a walk takes is among the lengths measured, where the states at `base` and behind it are as the tests are judged by
pub counted : (w : World) (x : Walk) → backward x ≡ false → (ons offs : ℕ) (follow : List ℕ) (base : ℕ) → ((p : ℕ) → base ≤ p → Turning ons offs (state_before w p))
    → (at behind before : ℕ) → Measured ons offs follow at x behind before → Counted base (Leads w x) behind before
unfolding Leads backward Measured
counted w (act a) b ons offs f base turn at behind before h = λ p q n l t low s k same most. step_counted base behind before p q l t h.1 s.onward k same most
counted w (undo a) b ons offs f base turn at behind before h = absurd (true≢false b)
counted w next b ons offs f base turn at behind before h = λ p q n l t low s k same most. step_counted base behind before p q l t h.1 s.1.onward k same most
counted w prev b ons offs f base turn at behind before h = absurd (true≢false b)
counted w (seq v x) b ons offs f base turn at behind before h =
    let e = neither (backward v) (backward x) b in
    then_counted base behind h.0 before (onward w v e.0) (onward w x e.1) (counted w x e.1 ons offs f base turn _ behind h.0 h.1) (counted w v e.0 ons offs f base turn _ h.0 before h.2)
counted w (alt v x) b ons offs f base turn at behind before h = λ p q n l t low s k same most.
    let e = neither (backward v) (backward x) b in
    ⊎_elim
    (λ s. counted w v e.0 ons offs f base turn _ behind before h.0 p q n l t low s k same most)
    (λ s. counted w x e.1 ons offs f base turn _ behind before h.1 p q n l t low s k same most)
    s
counted w (star x) b ons offs f base turn at behind before h = λ p q n l t low s k same most.
    h.3 t (many_counted base behind h.0 (onward w x b) h.1 (counted w x b ons offs f base turn _ h.0 h.0 h.2) p q n l t low s k same most)
counted w (check c) b ons offs f base turn at behind before h = λ p q n l t low s k same most.
    ⊎_elim
    (λ never. absurd (never w p (own_now w p n) (turn p low) s.2))
    (λ i. subst (λ (j : ℕ). on before j ≡ true) (omega (arith, s.0)) (i l k))
    h
counted w (conv x) b ons offs f base turn at behind before h = absurd (true≢false b)
counted w (pick v x) b ons offs f base turn at behind before h = λ p q n l t low s k same most.
    counted (bind w v s.0) x b ons offs f base turn _ behind before h p q n l t low s.2 k same most

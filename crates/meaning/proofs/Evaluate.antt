-- An evaluator that computes: rows of a walk, with one now, and the value of a test. It is the meaning of document 01, for every world, walk and test.
-- It asks the definitions themselves for a state, a step and a test's own now, so that a change of one of them changes what is computed.
use mathlib.Core.Path.{◌≡◌, refl, ap, subst, subst⁻¹}
use mathlib.Core.Logic.Iff
use mathlib.Core.Bool.{Bool, true, false, not, ◌&&◌, ◌||◌}
use mathlib.Core.Option.{Option, none, some, none-ne-some}
use Prim.Native.Nat.{ℕ, zero, suc, ◌+◌}
use native.Mathlib.Omega.{arith}
use lib.Dec.{eqb, leb}
use Rattle.laws.specs.Bit.{on, gather, all_below}
use Rattle.meaning.specs.Theory.{Masks, World, bind, inside, number_in, acts, after, run, state_before}
use Rattle.meaning.specs.Rule.{Walk, Test, act, undo, next, prev, seq, alt, star, check, conv, pick, always, fluent, neg, both, diamond, exists}
use Rattle.meaning.specs.Leads.{Rel, Truth, Taken, Step, AnyStep, Here, own_now, Some, Exists, Leads, Back, Holds}
use Rattle.meaning.proofs.Chain.{Within}
use Rattle.meaning.proofs.Bounds.{leads_within, back_within}
use Rattle.meaning.proofs.Tells.{Tells, true_tells, false_tells, eq_tells, le_tells, and_tells, not_tells, tells_as, any_below, any_tells}
use Rattle.meaning.proofs.Possible.{possible, possible_tells}
use Rattle.meaning.proofs.Grid.{Grid, Draws, kept, kept_draws, turned_grid, turned_draws, then_grid, then_draws, or_grid, or_draws, many_grid, many_draws, pick_grid, pick_draws}

-- The leaves of the table of walks

unfoldable pub is_step : Option ℕ → ℕ → Bool
is_step none a = false
is_step (some b) a = eqb b a

is_step_tells : (step : Option ℕ) (a : ℕ) → Tells (is_step step a) (step ≡ some a)
unfolding is_step
is_step_tells none a = false_tells (none-ne-some a)
is_step_tells (some b) a = tells_as (eq_tells b a) (λ e. cc) (λ e. cc)

-- What a leaf asks is read off the definition: `the (Step w a p q n)` hands on the step, the masks and the state that Step gives to Taken.
pub data The (X : Type 0) : Type 0 where
  it : The X

pub the : (X : Type 0) → The X
the X = it

unfoldable pub taken : {step : Option ℕ} {m : Masks} {state a p q n : ℕ} → The (Taken step m state a p q n) → Bool
unfolding is_step possible
taken {step} {m} {state} {a} {p} {q} {n} asked = eqb q (p + 1) && (leb q n && (is_step step a && possible m state))

taken_tells : {step : Option ℕ} {m : Masks} {state a p q n : ℕ} (asked : The (Taken step m state a p q n)) → Tells (taken asked) (Taken step m state a p q n)
unfolding taken
taken_tells {step} {m} {state} {a} {p} {q} {n} asked =
    tells_as (and_tells (eq_tells q (p + 1)) (and_tells (le_tells q n) (and_tells (is_step_tells step a) (possible_tells m state))))
    (λ h. record { onward = h.0; within = h.1.0; logged = h.1.1.0; able = h.1.1.1 })
    (λ h. (h.onward, (h.within, (h.logged, h.able))))

-- some action: the one that the log has there
unfoldable pub taken_by : Option ℕ → (ℕ → Masks) → ℕ → ℕ → ℕ → ℕ → Bool
unfolding taken
taken_by none masks state p q n = false
taken_by (some b) masks state p q n = taken (the (Taken (some b) (masks b) state b p q n))

taken_by_tells : (step : Option ℕ) (masks : ℕ → Masks) (state p q n : ℕ)
    → Tells (taken_by step masks state p q n) ((a : ℕ) × Taken step (masks a) state a p q n)
unfolding taken_by
taken_by_tells none masks state p q n = false_tells (λ h. none-ne-some h.0 h.1.logged)
taken_by_tells (some b) masks state p q n =
    tells_as (taken_tells (the (Taken (some b) (masks b) state b p q n))) (λ h. (b, h))
    (λ h.
    let logged : some b ≡ some h.0 = h.1.logged in
    let same : h.0 ≡ b = cc in
    subst (λ (a : ℕ). Taken (some b) (masks a) state a p q n) same h.1)

unfoldable pub any_taken : {step : Option ℕ} {masks : ℕ → Masks} {state p q n : ℕ} → The ((a : ℕ) × Taken step (masks a) state a p q n) → Bool
unfolding taken_by
any_taken {step} {masks} {state} {p} {q} {n} asked = taken_by step masks state p q n

any_taken_tells : {step : Option ℕ} {masks : ℕ → Masks} {state p q n : ℕ} (asked : The ((a : ℕ) × Taken step (masks a) state a p q n))
    → Tells (any_taken asked) ((a : ℕ) × Taken step (masks a) state a p q n)
unfolding any_taken
any_taken_tells {step} {masks} {state} {p} {q} {n} asked = taken_by_tells step masks state p q n

unfoldable pub step_grid : World → ℕ → Grid
unfolding kept taken run acts after gather all_below on
step_grid w a = kept (λ n p q. taken (the (Step w a p q n)))

step_draws : (w : World) (a : ℕ) → Draws (step_grid w a) (Step w a)
unfolding step_grid
step_draws w a = kept_draws (λ p q n h. omega arith) (λ p q n. taken_tells (the (Step w a p q n)))

unfoldable pub any_grid : World → Grid
unfolding kept any_taken run acts after gather all_below on
any_grid w = kept (λ n p q. any_taken (the (AnyStep w p q n)))

any_draws : (w : World) → Draws (any_grid w) (AnyStep w)
unfolding any_grid
any_draws w = kept_draws (λ p q n h. let step = h.1 in omega arith) (λ p q n. any_taken_tells (the (AnyStep w p q n)))

-- a test's value, with each now and then; and that it is the test's truth
abbrev pub Value : Type 0
Value = ℕ → ℕ → Bool

abbrev pub Gives : Value → Truth → Type 0
Gives v x = (t n : ℕ) → Tells (v n t) (x t n)

unfoldable pub here_grid : World → Value → Grid
unfolding kept own_now
here_grid w v = kept (λ n p q. let answer = v (own_now w p n) p in eqb q p && (leb p n && answer))

here_draws : {x : Truth} {v : Value} (w : World) → Gives v x → Draws (here_grid w v) (Here w x)
unfolding here_grid
here_draws w f =
    kept_draws (λ p q n h. omega arith)
    (λ p q n.
    tells_as (and_tells (eq_tells q p) (and_tells (le_tells p n) (f p (own_now w p n)))) (λ h. (h.0, h.1.0, h.1.1)) (λ h. (h.0, (h.1, h.2))))

unfoldable pub not_value : Value → Value
not_value v n = let value = v n in λ t. not (value t)

unfoldable pub both_value : Value → Value → Value
both_value v u n = let one = v n in let other = u n in λ t. one t && other t

unfoldable pub some_value : Grid → Value → Value
unfolding any_below
some_value g v n = let there = g n in let value = v n in λ t. any_below (suc n) (λ q. there t q && value q)

some_gives : {r : Rel} {x : Truth} {g : Grid} {v : Value} → Within r → Draws g r → Gives v x → Gives (some_value g v) (Some r x)
unfolding some_value
some_gives low f k t n =
    tells_as (any_tells (λ q. and_tells (f t q n) (k q n)) (suc n)) (λ h. (h.0, h.2.0, h.2.1))
    (λ h. (h.0, omega (arith, low t h.0 n h.1), (h.1, h.2)))

-- for some value: each value's answers are made once for a now
unfoldable pub exists_value : ℕ → (ℕ → Value) → Value
exists_value zero v n = λ t. false
exists_value (suc d) v n = let one = v d n in let others = exists_value d v n in λ t. one t || others t

exists_gives : {d : ℕ} {x : ℕ → Truth} {v : ℕ → Value} → ((k : ℕ) → Gives (v k) (x k)) → Gives (exists_value d v) (Exists d x)
unfolding exists_value any_below
exists_gives {d} {x} {v} f t n = subst⁻¹ (λ (b : Bool). Tells b (Exists d x t n)) (value_is d)
    (tells_as (any_tells (λ k. f k t n) d) (λ h. (h.0, omega arith, h.2)) (λ h. (h.0, omega arith, h.2)))
  where
    value_is : (k : ℕ) → exists_value k v n t ≡ any_below k (λ i. v i n t)
    value_is zero = refl
    value_is (suc k) = ap (λ (b : Bool). v k n t || b) (value_is k)

-- The evaluator, sign by sign, as the two tables have it

unfoldable mutual
  unfolding step_grid turned_grid any_grid then_grid or_grid many_grid here_grid pick_grid not_value both_value some_value exists_value run acts after gather all_below on

  pub leads_grid : World → Walk → Grid
  leads_grid w (act a) = step_grid w (number_in w a)
  leads_grid w (undo a) = turned_grid (step_grid w (number_in w a))
  leads_grid w next = any_grid w
  leads_grid w prev = turned_grid (any_grid w)
  leads_grid w (seq v x) = then_grid (leads_grid w v) (leads_grid w x)
  leads_grid w (alt v x) = or_grid (leads_grid w v) (leads_grid w x)
  leads_grid w (star x) = many_grid (leads_grid w x)
  leads_grid w (check t) = here_grid w (value_of w t)
  leads_grid w (conv x) = back_grid w x
  leads_grid w (pick v x) = pick_grid w.domain (λ k. leads_grid (bind w v k) x)

  pub back_grid : World → Walk → Grid
  back_grid w (act a) = turned_grid (step_grid w (number_in w a))
  back_grid w (undo a) = step_grid w (number_in w a)
  back_grid w next = turned_grid (any_grid w)
  back_grid w prev = any_grid w
  back_grid w (seq v x) = then_grid (back_grid w x) (back_grid w v)
  back_grid w (alt v x) = or_grid (back_grid w v) (back_grid w x)
  back_grid w (star x) = many_grid (back_grid w x)
  back_grid w (check t) = here_grid w (value_of w t)
  back_grid w (conv x) = leads_grid w x
  back_grid w (pick v x) = pick_grid w.domain (λ k. back_grid (bind w v k) x)

  pub value_of : World → Test → Value
  value_of w always = λ n t. true
  value_of w (fluent i) = λ n t. on (state_before w t) (number_in w i)
  value_of w (neg x) = not_value (value_of w x)
  value_of w (both x y) = both_value (value_of w x) (value_of w y)
  value_of w (diamond v x) = some_value (leads_grid (inside w) v) (value_of w x)
  value_of w (exists v x) = exists_value w.domain (λ k. value_of (bind w v k) x)

-- The evaluator is the meaning

mutual
  unfolding leads_grid Leads

  pub leads_draws : (w : World) (x : Walk) → Draws (leads_grid w x) (Leads w x)
  leads_draws w (act a) = step_draws w (number_in w a)
  leads_draws w (undo a) = turned_draws (step_draws w (number_in w a))
  leads_draws w next = any_draws w
  leads_draws w prev = turned_draws (any_draws w)
  leads_draws w (seq v x) = then_draws (leads_within w v) (leads_within w x) (leads_draws w v) (leads_draws w x)
  leads_draws w (alt v x) = or_draws (leads_draws w v) (leads_draws w x)
  leads_draws w (star x) = many_draws (leads_within w x) (leads_draws w x)
  leads_draws w (check t) = here_draws w (value_gives w t)
  leads_draws w (conv x) = back_draws w x
  leads_draws w (pick v x) = pick_draws (λ k. leads_draws (bind w v k) x)

  pub back_draws : (w : World) (x : Walk) → Draws (back_grid w x) (Back w x)
  back_draws w (act a) = turned_draws (step_draws w (number_in w a))
  back_draws w (undo a) = step_draws w (number_in w a)
  back_draws w next = turned_draws (any_draws w)
  back_draws w prev = any_draws w
  back_draws w (seq v x) = then_draws (back_within w x) (back_within w v) (back_draws w x) (back_draws w v)
  back_draws w (alt v x) = or_draws (back_draws w v) (back_draws w x)
  back_draws w (star x) = many_draws (back_within w x) (back_draws w x)
  back_draws w (check t) = here_draws w (value_gives w t)
  back_draws w (conv x) = leads_draws w x
  back_draws w (pick v x) = pick_draws (λ k. back_draws (bind w v k) x)

  pub value_gives : (w : World) (x : Test) → Gives (value_of w x) (Holds w x)
  value_gives w always = λ t n. true_tells tt
  value_gives w (fluent i) = λ t n. Iff.rfl
  value_gives w (neg x) = λ t n. not_tells (value_gives w x t n)
  value_gives w (both x y) = λ t n. and_tells (value_gives w x t n) (value_gives w y t n)
  value_gives w (diamond v x) = some_gives (leads_within (inside w) v) (leads_draws (inside w) v) (value_gives w x)
  value_gives w (exists v x) = exists_gives (λ k. value_gives (bind w v k) x)

-- Document 02, Q-2: "7 if a number plus the largest value is too big". What a rule names with its values is what it names with every binder written out, so
-- that 7 is given to both or to neither. Knows what a rule names, and not what it means.
use mathlib.Core.Path.{◌≡◌, refl, ap₂, ◌∙◌}
use mathlib.Core.Bool.{Bool, true, false, cond}
use Prim.Native.Nat.{ℕ, zero, suc, ◌+◌, ◌≤◌, max}
use native.Mathlib.Omega.{arith}
use Rattle.meaning.specs.Rule.{Walk, Test, plain, plus, act, undo, next, prev, seq, alt, star, check, conv, pick, always, fluent, neg, both, diamond, exists}
use Rattle.meaning.specs.Rule.{Variable, is_variable, Name, walk_names, test_names, up_to, other, of_walk, of_test, actions_in, fluents_in}
use Rattle.meaning.specs.Written.{written_name, written, written_test, choice_to, none_to, spelled_out, test_out}

-- a value written in names no more, and the largest one as much
record Fair (d : ℕ) (f : Name → ℕ) : Type 0 where
  less : (v : Variable) (k : ℕ) (a : Name) → k ≤ d → f (written_name v k a) ≤ f a
  last : (v : Variable) (a : Name) → f (written_name v d a) ≡ f a

fair_up_to : (d : ℕ) → Fair d (up_to (suc d))
fair_up_to d = record { less = low; last = same }
  where
    low : (v : Variable) (k : ℕ) (a : Name) → k ≤ d → up_to (suc d) (written_name v k a) ≤ up_to (suc d) a
    low v k (plain n) h = omega arith
    low v k (plus n u) h = go (is_variable u v)
      where
        go : (b : Bool) → up_to (suc d) (cond b (plain (n + k)) (plus n u)) ≤ up_to (suc d) (plus n u)
        go true = omega arith
        go false = omega arith

    same : (v : Variable) (a : Name) → up_to (suc d) (written_name v d a) ≡ up_to (suc d) a
    same v (plain n) = refl
    same v (plus n u) = go (is_variable u v)
      where
        go : (b : Bool) → up_to (suc d) (cond b (plain (n + d)) (plus n u)) ≡ up_to (suc d) (plus n u)
        go true = omega arith
        go false = refl

fair_other : (d : ℕ) → Fair d other
fair_other d = record { less = λ v k a h. omega arith; last = λ v a. refl }

module _ (d : ℕ) (f g : Name → ℕ) (fair : Fair d f) (fair' : Fair d g) where
  -- so much is named with a value written in, and with the largest
  abbrev Less : (ℕ → ℕ) → ℕ → Type 0
  Less named whole = ((k : ℕ) → k ≤ d → named k ≤ whole) × (named d ≡ whole)

  two_less : {m n : ℕ → ℕ} {a b : ℕ} → Less m a → Less n b → Less (λ k. max (m k) (n k)) (max a b)
  two_less h i = (λ k low. omega (arith, h.0 k low, i.0 k low), ap₂ max h.1 i.1)

  under_less : {A : Type 0} (named : A → ℕ) (b : Bool) (x : A) (y : ℕ → A) → Less (λ k. named (y k)) (named x) → Less (λ k. named (cond b x (y k))) (named x)
  under_less named true x y h = (λ k low. omega arith, refl)
  under_less named false x y h = h

  mutual
    unfolding walk_names written

    walk_less : (v : Variable) (x : Walk) → Less (λ k. walk_names f g (written v k x)) (walk_names f g x)
    walk_less v (act a) = (λ k low. fair.less v k a low, fair.last v a)
    walk_less v (undo a) = (λ k low. fair.less v k a low, fair.last v a)
    walk_less v next = (λ k low. omega arith, refl)
    walk_less v prev = (λ k low. omega arith, refl)
    walk_less v (seq y x) = two_less (walk_less v y) (walk_less v x)
    walk_less v (alt y x) = two_less (walk_less v y) (walk_less v x)
    walk_less v (star x) = walk_less v x
    walk_less v (check t) = test_less v t
    walk_less v (conv x) = walk_less v x
    walk_less v (pick u x) = under_less (walk_names f g) (is_variable u v) x (λ k. written v k x) (walk_less v x)

    test_less : (v : Variable) (t : Test) → Less (λ k. test_names f g (written_test v k t)) (test_names f g t)
    test_less v always = (λ k low. omega arith, refl)
    test_less v (fluent i) = (λ k low. fair'.less v k i low, fair'.last v i)
    test_less v (neg t) = test_less v t
    test_less v (both t u) = two_less (test_less v t) (test_less v u)
    test_less v (diamond x t) = two_less (walk_less v x) (test_less v t)
    test_less v (exists u t) = under_less (test_names f g) (is_variable u v) t (λ k. written_test v k t) (test_less v t)

  -- the choice of all values names what the part names
  module _ (whole : ℕ) where
    choice_less : (walk : ℕ → Walk) → ((k : ℕ) → k ≤ d → walk_names f g (walk k) ≤ whole) → (j : ℕ) → j ≤ d → walk_names f g (choice_to walk j) ≤ whole
    unfolding walk_names
    choice_less walk h zero low = h 0 low
    choice_less walk h (suc j) low = omega (arith, choice_less walk h j (omega arith), h (suc j) low)

    choice_named : (walk : ℕ → Walk) → Less (λ k. walk_names f g (walk k)) whole → walk_names f g (choice_to walk d) ≡ whole
    unfolding walk_names
    choice_named walk h = go d (omega arith) h.1
      where
        go : (j : ℕ) → j ≤ d → walk_names f g (walk j) ≡ whole → walk_names f g (choice_to walk j) ≡ whole
        go zero low e = e
        go (suc j) low e = omega (arith, choice_less walk h.0 j (omega arith), e)

    none_less : (test : ℕ → Test) → ((k : ℕ) → k ≤ d → test_names f g (test k) ≤ whole) → (j : ℕ) → j ≤ d → test_names f g (none_to test j) ≤ whole
    unfolding walk_names
    none_less test h zero low = h 0 low
    none_less test h (suc j) low = omega (arith, none_less test h j (omega arith), h (suc j) low)

    none_named : (test : ℕ → Test) → Less (λ k. test_names f g (test k)) whole → test_names f g (none_to test d) ≡ whole
    unfolding walk_names
    none_named test h = go d (omega arith) h.1
      where
        go : (j : ℕ) → j ≤ d → test_names f g (test j) ≡ whole → test_names f g (none_to test j) ≡ whole
        go zero low e = e
        go (suc j) low e = omega (arith, none_less test h.0 j (omega arith), e)

  mutual
    unfolding walk_names spelled_out

    walk_named : (x : Walk) → walk_names f g (spelled_out d x) ≡ walk_names f g x
    walk_named (act a) = refl
    walk_named (undo a) = refl
    walk_named next = refl
    walk_named prev = refl
    walk_named (seq v x) = ap₂ max (walk_named v) (walk_named x)
    walk_named (alt v x) = ap₂ max (walk_named v) (walk_named x)
    walk_named (star x) = walk_named x
    walk_named (check t) = test_named t
    walk_named (conv x) = walk_named x
    walk_named (pick v x) = choice_named (walk_names f g (spelled_out d x)) (λ k. written v k (spelled_out d x)) (walk_less v (spelled_out d x)) ∙ walk_named x

    test_named : (t : Test) → test_names f g (test_out d t) ≡ test_names f g t
    test_named always = refl
    test_named (fluent i) = refl
    test_named (neg t) = test_named t
    test_named (both t u) = ap₂ max (test_named t) (test_named u)
    test_named (diamond x t) = ap₂ max (walk_named x) (test_named t)
    test_named (exists v t) = none_named (test_names f g (test_out d t)) (λ k. written_test v k (test_out d t)) (test_less v (test_out d t)) ∙ test_named t

-- of a rule, written out
module _ (d : ℕ) (x : Walk) where
  pub walk_actions : actions_in (suc d) (of_walk (spelled_out d x)) ≡ actions_in (suc d) (of_walk x)
  walk_actions = walk_named d (up_to (suc d)) other (fair_up_to d) (fair_other d) x

  pub walk_fluents : fluents_in (suc d) (of_walk (spelled_out d x)) ≡ fluents_in (suc d) (of_walk x)
  walk_fluents = walk_named d other (up_to (suc d)) (fair_other d) (fair_up_to d) x

module _ (d : ℕ) (t : Test) where
  pub test_actions : actions_in (suc d) (of_test (test_out d t)) ≡ actions_in (suc d) (of_test t)
  test_actions = test_named d (up_to (suc d)) other (fair_up_to d) (fair_other d) t

  pub test_fluents : fluents_in (suc d) (of_test (test_out d t)) ≡ fluents_in (suc d) (of_test t)
  test_fluents = test_named d other (up_to (suc d)) (fair_other d) (fair_up_to d) t

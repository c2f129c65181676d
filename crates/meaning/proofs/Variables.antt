-- Laws of the four variables and their values: two variables are one or apart, what a value given over another does, and what a name can stand for. Knows
-- nothing of rules.
use mathlib.Core.Path.{◌≡◌, refl}
use mathlib.Core.Logic.{◌⊎◌, ◌↔◌, inl, inr}
use mathlib.Core.Bool.{true, false}
use Prim.Native.Nat.{ℕ, suc, ◌≤◌, ◌<◌}
use native.Mathlib.Omega.{arith}
use Rattle.meaning.specs.Rule.{Variable, var_v, var_w, var_x, var_y, is_variable, Name, plain, plus, up_to}
use Rattle.meaning.specs.Theory.{Values, stands_for, with_value, no_values, number_of}

-- a variable is itself
pub variable_itself : (v : Variable) → is_variable v v ≡ true
variable_itself var_v = refl
variable_itself var_w = refl
variable_itself var_x = refl
variable_itself var_y = refl

-- it stands for the value last given
pub value_given : (s : Values) (v : Variable) (k : ℕ) → stands_for (with_value s v k) v ≡ k
value_given s var_v k = refl
value_given s var_w k = refl
value_given s var_x k = refl
value_given s var_y k = refl

pub value_over : (s : Values) (v : Variable) (j k : ℕ) → with_value (with_value s v k) v j ≡ with_value s v j
value_over s var_v j k = refl
value_over s var_w j k = refl
value_over s var_x j k = refl
value_over s var_y j k = refl

-- of two others, one's value does not touch the other's
pub record Apart (u v : Variable) : Type 0 where
  pub told : is_variable u v ≡ false
  pub stays : (s : Values) (k : ℕ) → stands_for (with_value s v k) u ≡ stands_for s u
  pub commute : (s : Values) (j k : ℕ) → with_value (with_value s v k) u j ≡ with_value (with_value s u j) v k

pub one_or_apart : (u v : Variable) → ((is_variable u v ≡ true) × (u ≡ v)) ⊎ Apart u v
one_or_apart var_v var_v = inl (refl, refl)
one_or_apart var_v var_w = inr (record { told = refl; stays = λ s k. refl; commute = λ s j k. refl })
one_or_apart var_v var_x = inr (record { told = refl; stays = λ s k. refl; commute = λ s j k. refl })
one_or_apart var_v var_y = inr (record { told = refl; stays = λ s k. refl; commute = λ s j k. refl })
one_or_apart var_w var_v = inr (record { told = refl; stays = λ s k. refl; commute = λ s j k. refl })
one_or_apart var_w var_w = inl (refl, refl)
one_or_apart var_w var_x = inr (record { told = refl; stays = λ s k. refl; commute = λ s j k. refl })
one_or_apart var_w var_y = inr (record { told = refl; stays = λ s k. refl; commute = λ s j k. refl })
one_or_apart var_x var_v = inr (record { told = refl; stays = λ s k. refl; commute = λ s j k. refl })
one_or_apart var_x var_w = inr (record { told = refl; stays = λ s k. refl; commute = λ s j k. refl })
one_or_apart var_x var_x = inl (refl, refl)
one_or_apart var_x var_y = inr (record { told = refl; stays = λ s k. refl; commute = λ s j k. refl })
one_or_apart var_y var_v = inr (record { told = refl; stays = λ s k. refl; commute = λ s j k. refl })
one_or_apart var_y var_w = inr (record { told = refl; stays = λ s k. refl; commute = λ s j k. refl })
one_or_apart var_y var_x = inr (record { told = refl; stays = λ s k. refl; commute = λ s j k. refl })
one_or_apart var_y var_y = inl (refl, refl)

-- each variable stands for a value
abbrev pub Below : ℕ → Values → Type 0
Below d s = (v : Variable) → stands_for s v < d

none_below : (d : ℕ) → Below (suc d) no_values
none_below d var_v = omega arith
none_below d var_w = omega arith
none_below d var_x = omega arith
none_below d var_y = omega arith

-- "a number plus the largest value": a theory that knows so many knows what the name stands for with every value, and no smaller one does
pub known_always : (a : Name) (d m : ℕ) → (up_to (suc d) a ≤ m) ↔ ((s : Values) → Below (suc d) s → number_of s a < m)
known_always (plain n) d m = (λ h s low. omega arith, λ h. omega (arith, h no_values (none_below d)))
known_always (plus n v) d m = (λ h s low. omega (arith, low v), λ h. omega (arith, h (largest d) (all_below_law d), all_largest d v))
  where
    largest : ℕ → Values
    largest k = record { of_v = k; of_w = k; of_x = k; of_y = k }

    all_largest : (k : ℕ) (u : Variable) → stands_for (largest k) u ≡ k
    all_largest k var_v = refl
    all_largest k var_w = refl
    all_largest k var_x = refl
    all_largest k var_y = refl

    all_below_law : (k : ℕ) → Below (suc k) (largest k)
    all_below_law k u = omega (arith, all_largest k u)

-- The binary digits of a number, lowest first. Knows nothing of jobs, logs or rules.
use Rattle.std.specs.Prelude.{Bool, true, cond, ◌&&◌, ℕ, zero, suc, ◌+◌, ◌/◌, ◌%◌, ◌^◌, eqb}

-- bit i of n is on
unfoldable pub on : ℕ → ℕ → Bool
on n i = eqb (n / 2 ^ i % 2) 1

-- the number whose bit i is on exactly where i is below k and f says so
unfoldable pub gather : ℕ → (ℕ → Bool) → ℕ
gather zero f = 0
gather (suc k) f = gather k f + cond (f k) (2 ^ k) 0

-- every number below k passes the test
unfoldable pub all_below : ℕ → (ℕ → Bool) → Bool
all_below zero f = true
all_below (suc k) f = f k && all_below k f

-- how many of the k numbers from 0 up pass the test
unfoldable pub count_below : ℕ → (ℕ → Bool) → ℕ
count_below zero f = 0
count_below (suc k) f = count_below k f + cond (f k) 1 0

-- the first number below k that passes the test, k when there is none
unfoldable pub first_below : ℕ → (ℕ → Bool) → ℕ
first_below zero f = 0
first_below (suc k) f = cond (f 0) 0 (suc (first_below k (λ i. f (suc i))))

-- Document 01, "The answering program": "in plain decimals".
use Rattle.std.specs.Prelude.{List, ℕ, suc, ◌^◌, ltb}
use Rattle.laws.specs.Bit.{first_below}
use Rattle.spelling.specs.Numeral.{numeral}

-- how many digits a number needs beside its last one
unfoldable pub further_digits : ℕ → ℕ
further_digits n = first_below n (λ k. ltb n (10 ^ suc k))

-- as many digits as the number needs, at least one, so that none of them is a leading zero
unfoldable pub decimal : ℕ → List ℕ
decimal n = numeral 10 (suc (further_digits n)) n

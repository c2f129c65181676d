-- The fluents that a list of masks names together.
use Rattle.std.specs.Prelude.{◌≡◌, true, List, ℕ, ◌<◌, get_or}
use Rattle.laws.specs.Bit.{on}

-- one of the first n masks names the fluent
pub record Named (masks : List ℕ) (n fluent : ℕ) : Type 0 where
  pub place : ℕ
  pub there : place < n
  pub names : on (get_or masks place 0) fluent ≡ true

-- the mask names what the first n masks name, and nothing else
pub record Union (masks : List ℕ) (n mask : ℕ) : Type 0 where
  pub all : (fluent : ℕ) → Named masks n fluent → on mask fluent ≡ true
  pub only : (fluent : ℕ) → on mask fluent ≡ true → Named masks n fluent

-- What the lines below the counts rely on: counts that a sheet may say.
use Rattle.std.specs.Prelude.{◌≤◌}
use Rattle.meaning.specs.Limits.{fluent_limit, action_limit, domain_limit}
use Rattle.theory.specs.declared.Counts.{Counts}

-- counts in range
pub record Ranged (c : Counts) : Type 0 where
  pub few_fluents : c.fluents ≤ fluent_limit
  pub some_actions : 1 ≤ c.actions
  pub few_actions : c.actions ≤ action_limit
  pub few_values : c.domain ≤ domain_limit

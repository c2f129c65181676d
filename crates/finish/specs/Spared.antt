-- What the search has of the actions that it does not try: for each a smaller one stands in, whatever the log.
use Rattle.std.specs.Prelude.{◌≡◌, false, List, ◌∷◌, ℕ, ◌<◌}
use Rattle.laws.specs.Bit.{on}
use Rattle.meaning.specs.Rule.{Walk}
use Rattle.theory.specs.Subject.{subject_of, world_of}
use Rattle.theory.specs.declared.Setting.{Setting}
use Rattle.finish.specs.Search.{Completes}
use Rattle.finish.specs.Sound.{JobIs}

-- a smaller action stands in for b: whatever the log, where b begins a sequence that completes the job, it does as well
pub record StoodIn (s : Setting) (masks : List ℕ) (x : Walk) (b : ℕ) : Type 0 where
  pub by : ℕ
  pub smaller : by < b
  pub completes : (log rest : List ℕ) → Completes (world_of (subject_of s masks log)) x (b ∷ rest) → Completes (world_of (subject_of s masks log)) x (by ∷ rest)

-- so it is with each action of the theory that the word leaves out
pub record Spared (s : Setting) (masks job : List ℕ) (worth : ℕ) : Type 0 where
  pub each : (x : Walk) → JobIs job x → (b : ℕ) → b < s.counts.actions → on worth b ≡ false → StoodIn s masks x b

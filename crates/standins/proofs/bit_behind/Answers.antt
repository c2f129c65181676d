-- `standins::bit_behind` meets its contract: where neither sign stands there is no bit.
use mathlib.Core.Logic.{⊎_elim}
use Rattle.laws.proofs.Truth.{off_on}
use Rattle.laws.proofs.On.{on_none}
use Rattle.standins.proofs.bit_behind.Goals as goal

pub returns-else-sign-other : goal.returns-else-sign-other
returns-else-sign-other c = λ n. (λ e. absurd (off_on (on_none n) e), λ h. absurd (⊎_elim c.if-sign-other.false.0 c.if-sign-other.false.1 h.1.0))

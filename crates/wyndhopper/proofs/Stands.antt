-- Document 02, Q-13, for the exported functions: two logs with the same steps before now, neither with a fault of its own, give the same answer at (then, now), to the refusal's number and to every
-- slot. So a verdict that was printed with its now is the byte that today's longer log gives. Knows the contracts of the exported functions.
use mathlib.Core.Path.{◌≡◌}
use mathlib.Core.List.{List, ◌++◌}
use Prim.Native.Nat.{ℕ, ◌≤◌}
use Rattle.meaning.specs.Stands.{Agree}
use Rattle.meaning.proofs.Cut.{agree_append, agree_turned}
use Rattle.theory.specs.Subject.{Subject, subject_of}
use Rattle.theory.specs.Answer.{StateAnswered}
use Rattle.theory.specs.declared.Setting.{Setting}
use Rattle.theory.proofs.Stands.{Reaches, state_stands}
use Rattle.ask.specs.Reach.{ReachAnswered}
use Rattle.ask.specs.Verdict.{VerdictAnswered}
use Rattle.ask.proofs.Stands.{reach_stands, verdict_stands}
use Rattle.board.specs.Answer.{BoardAnswered}
use Rattle.board.proofs.Stands.{board_stands}
use Rattle.exported.specs.Exported.{InSlot}
use Rattle.wyndhopper.proofs.Determined.{wyh_state_determined, wyh_reach_determined, wyh_verdict_determined, wyh_board_determined}

module _ (s : Setting) (masks l l' : List ℕ) (now : ℕ) (same : Agree l l' now) (one : Reaches s l now) (other : Reaches s l' now) where
  abbrev before : Subject
  before = subject_of s masks l

  abbrev after : Subject
  after = subject_of s masks l'

  pub wyh_verdict_stands : (test : List ℕ) (then : ℕ) {number number' yes yes' : ℕ} → InSlot (VerdictAnswered before test then now number) yes
      → InSlot (VerdictAnswered after test then now number') yes' → (number ≡ number') × (yes ≡ yes')
  wyh_verdict_stands test then x y =
      wyh_verdict_determined after test then now
      (record { verdict = x.verdict; written = x.written; said = verdict_stands s masks l l' test then now same one other x.said })
      y

  pub wyh_reach_stands : (walk : List ℕ) (then : ℕ) {number number' set set' count count' earliest earliest' : ℕ} → ReachAnswered before walk then now number set count earliest
      → ReachAnswered after walk then now number' set' count' earliest' → (number ≡ number') × (set ≡ set') × (count ≡ count') × (earliest ≡ earliest')
  wyh_reach_stands walk then x y = wyh_reach_determined after walk then now (reach_stands s masks l l' walk then now same one other x) y

  pub wyh_board_stands : (tests : List ℕ) (then : ℕ) (out : List ℕ) {told told' : List ℕ} {number number' count count' : ℕ} → BoardAnswered before tests then now out number count told
      → BoardAnswered after tests then now out number' count' told' → (number ≡ number') × (count ≡ count') × (told ≡ told')
  wyh_board_stands tests then out x y = wyh_board_determined after tests then now out (board_stands s masks l l' tests then now same one other x) y

  pub wyh_state_stands : (position : ℕ) → position ≤ now → {number number' state state' : ℕ} → StateAnswered before position number state
      → StateAnswered after position number' state' → (number ≡ number') × (state ≡ state')
  wyh_state_stands position low x y = wyh_state_determined after position (state_stands s masks l l' now position same one other low x) y

-- "Operators print a verdict with its now and compare it the next day": the log has grown since
pub yesterdays_verdict : (s : Setting) (masks log more test : List ℕ) (then now : ℕ) → Reaches s log now → Reaches s (log ++ more) now → {number number' yes yes' : ℕ}
    → InSlot (VerdictAnswered (subject_of s masks log) test then now number) yes → InSlot (VerdictAnswered (subject_of s masks (log ++ more)) test then now number') yes'
    → (number ≡ number') × (yes ≡ yes')
yesterdays_verdict s masks log more test then now one other =
    wyh_verdict_stands s masks log (log ++ more) now (agree_turned (log ++ more) log now (agree_append log more now one.long)) one other test then

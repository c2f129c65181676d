-- A legal sheet can be asked everything: no call about it is refused before it is answered.
use mathlib.Core.Logic.{◌⊎◌, ⊎_elim}
use mathlib.Core.Bool.{true}
use mathlib.Core.List.{◌++◌}
use Prim.Native.Nat.{◌<◌}
use native.Mathlib.Omega.{arith}
use lib.ListN.{length}
use Rattle.meaning.specs.Limits.{more_limit}
use Rattle.meaning.specs.Rule.{test_kind, job_kind}
use Rattle.meaning.proofs.Refusal.{accepts, passes, not_rest, accepted_both}
use Rattle.theory.specs.Subject.{counts_of}
use Rattle.theory.specs.Rows.{world_rows}
use Rattle.rule.specs.Outcome.{text_rows}
use Rattle.ask.specs.Rows.{time_rows}
use Rattle.finish.specs.Next.{next_rows}
use Rattle.finish.specs.Rows.{room_rows}
use Rattle.sheet.specs.Lines.{Sheet}
use Rattle.sheet.specs.Legal.{Legal}
use Rattle.answer.specs.Outcome.{end_of}
use Rattle.answer.specs.Respond.{Askable}

module _ (s : Sheet) (legal : Legal s) where
  -- the end is not past the end
  timely : (end_of s < end_of s) ⊎ (length s.subject.log < end_of s) → ⊥
  timely = ⊎_elim (λ l. omega arith) (λ l. omega arith)

  pub askable : Askable s
  askable =
      let counts = counts_of s.subject in
      let asks = text_rows true test_kind s.ask counts in
      let runs = text_rows true job_kind s.run counts in
      let few : ¬ (more_limit < s.more) = legal.more in
      record {
        asked =
            accepted_both (world_rows s.subject) (asks ++ time_rows s.subject (end_of s) (end_of s)) legal.world
            (accepted_both asks (time_rows s.subject (end_of s) (end_of s)) (not_rest legal.ask) (passes timely accepts));
        sought =
            passes legal.more
            (accepted_both (next_rows s.subject s.run) (room_rows s.more more_limit)
            (accepted_both (world_rows s.subject) runs legal.world (not_rest legal.run))
            (passes (λ h. few h) accepts));
      }

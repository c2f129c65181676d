-- `tally::appended` meets its contract: the theory's number stands, then the record's room and the action decide, and past them the record has one step more.
use mathlib.Core.Path.{refl}
use mathlib.Core.Logic.{◌⊎◌, inl, inr, ⊎_elim}
use Prim.Native.Nat.{◌≤◌}
use native.Mathlib.Omega.{arith}
use Rattle.meaning.specs.Limits.{log_limit}
use Rattle.meaning.proofs.Refusal.{here, passes, accepts, refused_second, accepted_both}
use Rattle.theory.specs.Subject.{setting_of}
use Rattle.theory.specs.Rows.{theory_rows}
use Rattle.theory.specs.declared.Setting.{Setting}
use Rattle.tally.specs.Calls.{full_rows}
use Rattle.tally.proofs.appended.Goals as goal
use Rattle.tally.proofs.appended.Goals.{then-from-ge-LOG_LIMIT-via-then-from-ge-LOG_LIMIT, then-from-ge-LOG_LIMIT-via-else-from-ge-LOG_LIMIT+then-actions-action}

pub returns-then-from-ge-LOG_LIMIT : goal.returns-then-from-ge-LOG_LIMIT
returns-then-from-ge-LOG_LIMIT c =
    let s : Setting = setting_of c.args.fluents c.args.actions 0 c.args.start 0 in
    let sound = rw c.of-s.ensures at c.in_ok-check_theory.ensures in
    let full : (log_limit ≤ c.args.t.steps) ⊎ (c.args.actions ≤ c.args.action) = elim c.then-from-ge-LOG_LIMIT.branch [
      | then-from-ge-LOG_LIMIT-via-then-from-ge-LOG_LIMIT w ↦ inl (omega arith)
      | then-from-ge-LOG_LIMIT-via-else-from-ge-LOG_LIMIT+then-actions-action w ↦ inr (omega arith)
    ] in
    inl (record { refused = refused_second (theory_rows s c.args.masks.now) (full_rows s c.args.t c.args.action) sound (here full); blank = refl })

pub returns : goal.returns
returns c =
    let s : Setting = setting_of c.args.fluents c.args.actions 0 c.args.start 0 in
    let sound = rw c.of-s.ensures at c.in_ok-check_theory.ensures in
    inr (record {
      none = refl;
      accepted =
          accepted_both (theory_rows s c.args.masks.now) (full_rows s c.args.t c.args.action) sound
          (passes (⊎_elim (λ h. omega arith) (λ h. omega arith)) accepts);
      right = c.grown.ensures;
    })

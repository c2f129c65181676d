-- `theory::possible` meets its contract: the world's number stands, then action and position decide, and past them the action's masks are asked.
use mathlib.Core.Path.{refl}
use mathlib.Core.Logic.{inl, inr}
use Prim.Native.Nat.{◌≤◌, ◌<◌}
use native.Mathlib.Omega.{arith}
use lib.ListN.{length}
use Rattle.std.proofs.lemmas.Result.{err_from_is_err_and}
use Rattle.meaning.proofs.Refusal.{passes, accepts, refused_first, accepted_both}
use Rattle.theory.specs.Subject.{Subject, plain_subject}
use Rattle.theory.specs.Rows.{world_rows}
use Rattle.theory.specs.Possible.{asked_rows}
use Rattle.theory.proofs.Verdict.{told}
use Rattle.theory.proofs.possible.Goals as goal

pub returns-in_err-check_world : goal.returns-in_err-check_world
returns-in_err-check_world c =
    let subject : Subject = plain_subject c.args.asked in
    let wrong = rw c.unvalued-setting.ensures at c.in_err-check_world.ensures in
    let p = err_from_is_err_and c.from_residual.result c.from_residual.ensures.1 in
    rw (p.1, p.2)
    (inl (record { refused = refused_first (world_rows subject) (asked_rows subject c.args.action c.args.position) wrong; blank = refl }))

pub returns : goal.returns
returns c =
    let a = c.args in
    let subject : Subject = plain_subject a.asked in
    let sound = rw c.unvalued-setting.ensures at c.in_ok-check_world.ensures in
    let known : a.asked.setting.counts.actions ≤ a.action → ⊥ = λ h. omega arith in
    let within : length a.asked.log.now < a.position → ⊥ = λ h. omega arith in
    inr (record {
      none = refl;
      accepted = accepted_both (world_rows subject) (asked_rows subject a.action a.position) sound (passes known (passes within accepts));
      right = told c.able.result (rw c.state_at-state.ensures at c.able.ensures);
    })

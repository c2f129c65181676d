-- `finish::seek` meets its contract: the log goes to the trail, and what is found behind it to the output.
use Rattle.std.specs.Prelude.{ℕ, Option, Result, ok_or}
use Rattle.std.specs.Prelude.{Some, None, Err}
use Rattle.std.proofs.lemmas.Result.{err_from_is_err_and}
use mathlib.Core.Path.{◌≡◌, refl, ap, ◌∙◌}
use native.Mathlib.Omega.{arith}
use lib.ListN.{length, length-append, length-drop}
use lib.Seq.{take-append_seam}
use Rattle.refusal.specs.declared.Refusal.{Refusal}
use Rattle.meaning.specs.Limits.{places}
use Rattle.grammar.proofs.Widths.{ends_told}
use Rattle.theory.specs.Subject.{subject}
use Rattle.finish.specs.Sound.{Wanted}
use Rattle.finish.proofs.Checking.{wanted}
use Rattle.finish.proofs.Seeking.{ready_first, nothing_sought, written_sought}
use Rattle.finish.proofs.seek.Goals as goal

-- what `ok_or` refuses with
refused : (found : Option ℕ) (e why : Refusal) → found ≡ None → ◌≡◌ {A = Result ℕ Refusal} (Err e) (ok_or found why) → e ≡ why
refused None e why none told = cc
refused (Some k) e why none told = cc

pub first-requires : goal.first-requires
first-requires c =
    let a = c.args in
    let w : Wanted a.asked.setting.counts.actions a.asked.masks.now a.asked.log.now a.job.now a.more (length a.out.now) = wanted (subject a.asked) a.job.now a.more (length a.out.now) c.requires in
    (rw c.copy_from_slice.ensures.after (ready_first _ _ a.asked.log.now _ _ _ _ _ w (ends_told _ _ w.short c.fill_ends.ensures) refl), w.short, w.few)

pub returns-in_err-k : goal.returns-in_err-k
returns-in_err-k c =
    let a = c.args in
    let p = err_from_is_err_and c.from_residual.result c.from_residual.ensures.1 in
    let none = c.in_err-k.ensures.ok_part in
    let why : c.in_err-k.field-0.0 ≡ Refusal.NoFinish = refused _ _ _ none c.in_err-k.ensures.value in
    rw (p.1, p.2, why) (nothing_sought a.asked.setting a.asked.masks.now a.asked.log.now a.job.now _ c.first.new.trail (length a.asked.log.now) a.more
    (rw c.copy_from_slice.ensures.after (take-append_seam _ _)) a.out.now (rw none at c.first.ensures))

pub returns : goal.returns
returns c =
    let a = c.args in
    let w : Wanted a.asked.setting.counts.actions a.asked.masks.now a.asked.log.now a.job.now a.more (length a.out.now) = wanted (subject a.asked) a.job.now a.more (length a.out.now) c.requires in
    let long : length c.first.new.trail ≡ places = c.first.auto.trail ∙ simp (length-append, length-drop) (omega (arith, ap length c.copy_from_slice.ensures.after, w.logged.short)) in
    written_sought a.asked.setting a.asked.masks.now a.asked.log.now a.job.now _ c.first.new.trail (length a.asked.log.now) a.more
    (rw c.copy_from_slice.ensures.after (take-append_seam _ _)) a.out.now c.in_ok-k.k c.copy_from_slice-2.new.self long c.copy_from_slice-2.ensures.after
    (rw c.in_ok-k.ensures.ok_part at c.first.ensures)

-- What the calls behind their checks tell of a sheet that can be asked: the verdict, the last state, and the first finishing sequence or that there is none.
use mathlib.Core.Path.{◌≡◌, sym, ap, subst, ◌∙◌}
use mathlib.Core.Logic.{inl, inr, ◌↔◌}
use mathlib.Core.Bool.{Bool, true, false≢true}
use mathlib.Core.List.{List}
use mathlib.Core.Option.{some}
use Prim.Native.Nat.{ℕ, ◌≤◌, ◌<◌}
use native.Mathlib.Omega.{arith}
use lib.ListN.{length, take, drop, length-append}
use lib.Seq.{take_at, drop_at}
use Rattle.meaning.specs.Limits.{more_limit}
use Rattle.meaning.specs.Theory.{state_before}
use Rattle.meaning.specs.Finish.{First}
use Rattle.meaning.specs.Refusal.{YesOrNo}
use Rattle.meaning.proofs.Refusal.{not_first, not_rest, accepted_parts}
use Rattle.std.specs.Prelude.{Some, None, Ok, Err}
use Rattle.refusal.specs.declared.Refusal.{Refusal}
use Rattle.theory.specs.Subject.{world_of}
use Rattle.ask.specs.Verdict.{TestJudged}
use Rattle.finish.specs.Next.{next_rows}
use Rattle.finish.specs.Rows.{room_rows}
use Rattle.finish.specs.Found.{SoughtTold}
use Rattle.finish.proofs.Checking.{Job, job_passed, job_is}
use Rattle.sheet.specs.Lines.{Sheet}
use Rattle.answer.specs.Outcome.{end_of, no_steps}
use Rattle.answer.specs.Respond.{Askable, Responded}

-- yes exactly when the test is true
truth_of : {So : Type 0} (verdict : Bool) → YesOrNo So (some verdict) → (verdict ≡ true) ↔ So
truth_of verdict (inl h) = (λ e. h.1, λ x. let e = h.0 in cc)
truth_of verdict (inr h) = (λ e. absurd (false≢true (let f = h.0 in cc)), λ x. absurd (h.1 x))

module _ (s : Sheet) (can : Askable s) (verdict : Bool) (state : ℕ) (judged : TestJudged s.subject s.ask (end_of s) (end_of s) (some verdict))
    (last : state ≡ state_before (world_of s.subject) (end_of s)) where
  few : s.more ≤ more_limit
  few = let bad : ¬ (more_limit < s.more) = not_first can.sought in omega arith

  job : Job s.run
  job = job_passed s.subject s.run (accepted_parts (next_rows s.subject s.run) (room_rows s.more more_limit) (not_rest can.sought)).0

  -- no sequence, and the first one
  pub unfinished : (steps : List ℕ) (r : Refusal) → SoughtTold s.subject s.run s.more no_steps steps (Err r)
      → Responded s (record { yes = verdict; state = state; finish = None })
  unfinished steps r told =
      let found = told.each job.walk (job_is job) in
      record {
        answers =
            record {
              ask = judged.test;
              asked = judged.spells;
              job = job.walk;
              ordered = job.spells;
              truth = truth_of verdict judged.judged;
              last = last;
              finished = found.1;
            };
        ends = tt;
      }

  pub finished : (steps : List ℕ) (n : ℕ) → SoughtTold s.subject s.run s.more no_steps steps (Ok n)
      → Responded s (record { yes = verdict; state = state; finish = Some (record { steps = steps; count = n }) })
  finished steps n told =
      let f = told.each job.walk (job_is job) in
      let long : length f.ending ≡ n = sym f.counted in
      let same : take n steps ≡ f.ending = ap (take n) f.written ∙ take_at f.ending (drop (length f.ending) no_steps) n long in
      let rest : drop n steps ≡ drop n no_steps =
      ap (drop n) f.written ∙ drop_at f.ending (drop (length f.ending) no_steps) n long ∙ ap (λ (k : ℕ). drop k no_steps) long in
      record {
        answers =
            record {
              ask = judged.test;
              asked = judged.spells;
              job = job.walk;
              ordered = job.spells;
              truth = truth_of verdict judged.judged;
              last = last;
              finished = subst (First (world_of s.subject) job.walk s.more) (sym same) f.first;
            };
        ends =
            record {
              spare = rest;
              few = omega (arith, f.first.finishes.short, long, few);
              within = omega (arith, long, ap length f.written, length-append f.ending (drop (length f.ending) no_steps));
            };
      }

-- From what reading the sheet hands back to its outcome: an accepted sheet can be asked about in the parts that were handed back, and either outcome can be
-- written.
use mathlib.Core.Path.{◌≡◌, refl, sym, ap, subst, ◌∙◌}
use mathlib.Core.List.{List}
use Prim.Native.Nat.{ℕ, ◌*◌, ◌≤◌, ◌<◌}
use native.Mathlib.Omega.{arith}
use lib.ListN.{length, take, drop, length-append}
use lib.Seq.{take_at}
use Rattle.meaning.specs.Limits.{action_limit}
use Rattle.meaning.specs.Theory.{stride}
use Rattle.theory.specs.Subject.{subject_of}
use Rattle.theory.proofs.Reading.{checked}
use Rattle.spelling.specs.Scan.{stretch}
use Rattle.sheet.specs.Lines.{Sheet, SheetSays}
use Rattle.sheet.specs.Answer.{parsed_of, Handed}
use Rattle.sheet.specs.Legal.{Legal}
use Rattle.sheet.specs.declared.Parsed.{Parsed}
use Rattle.sheet.proofs.Accepted.{legal as sheet-legal}
use Rattle.sheet.proofs.Places.{standing, place_small}
use Rattle.std.specs.Prelude.{Result, Ok, Err, IfOk, IfErr, IfSome}
use Rattle.sheet_lines.specs.declared.Fault.{Fault}
use Rattle.answer.specs.declared.Answered.{Answered}
use Rattle.refusal.specs.Number.{number_of}
use Rattle.spelling.specs.Wrote.{Wrote}
use Rattle.spelling.proofs.Writing.{wrote_front}
use Rattle.answer.specs.Written.{AnswerWritten}
use Rattle.answer.specs.Outcome.{OutcomeIs, Decided, Ended, ending_of, told_of}
use Rattle.answer.specs.Text.{text_of}
use Rattle.answer.specs.Respond.{saying, Askable, Responded}
use Rattle.answer.proofs.Asking.{askable}
use Rattle.answer.proofs.Lengths.{short_ending, answer_length, refusal_length, number_small}

-- the parts of an accepted sheet, as they are handed back
pub record Given (bytes : List ℕ) (p : Parsed) (masks log : List ℕ) : Type 0 where
  pub sheet : Sheet
  pub says : SheetSays bytes sheet
  pub legal : Legal sheet
  pub told : p ≡ parsed_of sheet
  pub few : p.setting.counts.actions ≤ action_limit
  pub within : stride * p.setting.counts.actions ≤ length masks
  pub masked : take (stride * p.setting.counts.actions) masks ≡ sheet.subject.masks
  pub log_within : p.steps ≤ length log
  pub logged : take p.steps log ≡ sheet.subject.log
  pub ask : stretch bytes p.ask.start p.ask.end ≡ sheet.ask
  pub run : stretch bytes p.run.start p.run.end ≡ sheet.run

module _ {bytes masks log : List ℕ} {p : Parsed} {masks' log' : List ℕ} where
  pub given : Handed bytes masks log p masks' log' → Given bytes p masks' log'
  given h =
      let s = h.sheet in
      let good = sheet-legal bytes s h.says in
      let world = checked s.subject good.world in
      let there = standing bytes s h.says in
      let m = s.subject.masks in
      let l = s.subject.log in
      let n = stride * s.subject.setting.counts.actions in
      subst (λ q. Given bytes q masks' log') (sym h.told)
      (record {
        sheet = s;
        says = h.says;
        legal = good;
        told = refl;
        few = world.few_actions;
        within = omega (arith, ap length h.filled, length-append m (drop (length m) masks), world.table);
        masked = ap (take n) h.filled ∙ take_at m (drop (length m) masks) n world.table;
        log_within = omega (arith, ap length h.logged, length-append l (drop (length l) log));
        logged = ap (take (length l)) h.logged ∙ take_at l (drop (length l) log) (length l) refl;
        ask = there.ask;
        run = there.run;
      })

-- the same sheet, wherever its rules stand
abbrev unplaced : Sheet → Sheet
unplaced s = saying s.subject s.ask s.run s.more

module _ {bytes : List ℕ} {p : Parsed} {masks log : List ℕ} (g : Given bytes p masks log) (test job : List ℕ)
    (asks : test ≡ stretch bytes p.ask.start p.ask.end) (runs : job ≡ stretch bytes p.run.start p.run.end) where
  abbrev passed : Sheet
  passed = saying (subject_of p.setting (take (stride * p.setting.counts.actions) masks) (take p.steps log)) test job p.more

  same : passed ≡ unplaced g.sheet
  same = λ i. saying (subject_of (g.told i).setting (g.masked i) (g.logged i)) ((asks ∙ g.ask) i) ((runs ∙ g.run) i) (g.told i).more

  pub can_be_asked : Askable passed
  can_be_asked =
      let l = g.legal in
      subst Askable (sym same) (askable (unplaced g.sheet) (record { world = l.world; ask = l.ask; run = l.run; more = l.more }))

  -- what was responded is the outcome of the sheet
  pub decided : (a : Answered) → Responded passed a → Decided bytes (Ok a)
  decided a r =
      let t = subst (λ s. Responded s a) same r in
      let all = t.answers in
      record {
        is =
            (g.sheet, g.says, record { ask = all.ask; asked = all.asked; job = all.job; ordered = all.ordered; truth = all.truth; last = all.last; finished = all.finished });
        ends = t.ends;
      }

-- every outcome of a sheet can be written
pub writable : (bytes : List ℕ) (outcome : Result Answered Fault) → OutcomeIs bytes (told_of outcome) → IfErr outcome (λ f. f.line < 1000)
writable bytes (Err f) is = place_small bytes _ _ is
writable bytes (Ok a) is = tt

-- and its text fits
fitting : (bytes : List ℕ) (outcome : Result Answered Fault) → OutcomeIs bytes (told_of outcome) → IfOk outcome (λ a. IfSome a.finish Ended) → length (text_of (told_of outcome)) ≤ 47
fitting bytes (Err f) is ends = omega (arith, refusal_length (number_of f.refusal) f.line (number_small f.refusal) (place_small bytes _ _ is))
fitting bytes (Ok a) is ends = answer_length a.yes a.state (ending_of a.finish) (short_ending a.finish ends)

-- so that what is written stands at the front
pub written : (bytes : List ℕ) (outcome : Result Answered Fault) → Decided bytes outcome
    → {before after : List ℕ} {n : ℕ} → 47 ≤ length before → Wrote before 0 (text_of (told_of outcome)) after n → AnswerWritten bytes before after n
written bytes outcome d long w =
    let front = wrote_front (omega (arith, long, fitting bytes outcome d.is d.ends)) w in
    record { told = told_of outcome; outcome = d.is; fronts = front.0; counted = front.1 }

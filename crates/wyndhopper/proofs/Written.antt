-- Request Q-2, about the calls: a rule with binders is "proved equal to the rule with values written in where that fits". The bytes spell a rule, others spell it
-- with every binder written out, in the signs of document 01. One call has the domain, the other has none, as there was none before variables. Where both are
-- accepted they give the same.
use mathlib.Core.Path.{◌≡◌, refl, sym, ap, ap₂, subst, subst⁻¹, ◌∙◌}
use mathlib.Core.Logic.{◌⊎◌, ◌↔◌, inl, inr, ⊎_elim}
use mathlib.Core.Bool.{Bool, true, false, true≢false}
use mathlib.Core.List.{List, [], ◌++◌}
use mathlib.Core.Option.{Option}
use Prim.Native.Nat.{ℕ, suc, ◌+◌}
use lib.ListN.{length, drop}
use Rattle.laws.specs.Bit.{on}
use Rattle.laws.proofs.On.{same_bits}
use Rattle.laws.proofs.Truth.{same_truth}
use Rattle.meaning.specs.Theory.{World, Values, Reading, now_step, varying, no_values, relog, owning, as_job}
use Rattle.meaning.specs.Rule.{Kind, test_kind, walk_kind, job_kind, Rule, of_test, of_walk, Opens, Variable, free_in, walk_free, test_free, walk_varies}
use Rattle.meaning.specs.Rule.{Walk, Test, plain, plus, act, undo, next, prev, seq, alt, star, check, conv, pick}
use Rattle.meaning.specs.Leads.{Rel, Truth, Leads, Holds, Many}
use Rattle.meaning.specs.Asks.{Asks}
use Rattle.meaning.specs.Written.{spelled_out, test_out}
use Rattle.meaning.specs.Reach.{ReachedAs}
use Rattle.meaning.specs.Finish.{Finishes, First}
use Rattle.meaning.specs.Refusal.{Row, Accepted, Answered, YesOrNo}
use Rattle.meaning.proofs.Onward.{neither}
use Rattle.meaning.proofs.Written.{none_free}
use Rattle.meaning.proofs.SpelledOut.{leads_out, holds_out}
use Rattle.meaning.proofs.Waiting.{asks_out}
use Rattle.meaning.proofs.Plain.{leads_plain, holds_plain, walk_out_plain, test_out_plain}
use Rattle.meaning.proofs.Reach.{reached_as_unique}
use Rattle.meaning.proofs.Finish.{first_unique}
use Rattle.meaning.proofs.Refusal.{refused_not_accepted, accepted_parts, one_verdict}
use Rattle.theory.specs.Subject.{Subject, setting_of, subject_of, world_of}
use Rattle.theory.specs.Rows.{world_rows}
use Rattle.theory.specs.declared.Setting.{Setting}
use Rattle.rule.specs.Outcome.{text_rows}
use Rattle.ask.specs.Rows.{time_rows, ask_rows}
use Rattle.ask.specs.Reach.{ReachAnswered}
use Rattle.ask.specs.Verdict.{VerdictAnswered}
use Rattle.finish.specs.Answer.{Finished, FinishAnswered}
use Rattle.finish.specs.Next.{MayCome, next_rows, NextAnswered}
use Rattle.finish.specs.Rows.{room_rows, check_rows, search_rows, finish_rows}
use Rattle.exported.proofs.Slots.{one_walk, one_test}

-- an accepted call has the right answer
right : {rows : List {1} Row} {number : ℕ} {Blank Right : Type 0} → Accepted rows → Answered rows number Blank Right → Right
right a (inl r) = absurd (refused_not_accepted r.refused a)
right a (inr r) = r.right

-- What a job waits for, from p, at k, action a. A walk with no sign of variables waits for the same whatever the domain and the values.
abbrev Wait : Type 1
Wait = ℕ → ℕ → ℕ → Type 0

abbrev Onward : Wait → Rel → Wait → Wait
Onward x r y p k a = x p k a ⊎ ((m : ℕ) × r p m k × y m k a)

abbrev Either : Wait → Wait → Wait
Either x y p k a = x p k a ⊎ y p k a

abbrev Again : Rel → Wait → Wait
Again r x p k a = (m : ℕ) × Many r p m k × x m k a

asks_plain : (w : World) (d : ℕ) (s : Values) (x : Walk) → walk_varies x ≡ false → Asks (varying w d s) x ≡ Asks w x
unfolding Asks walk_varies
asks_plain w d s (act (plain b)) e = refl
asks_plain w d s (act (plus b v)) e = absurd (true≢false e)
asks_plain w d s (undo b) e = refl
asks_plain w d s next e = refl
asks_plain w d s prev e = refl
asks_plain w d s (seq v x) e =
    let f = neither (walk_varies v) (walk_varies x) e in
    ap₂ (λ (g : Wait) (h : Wait). Onward g (Leads (varying w d s) v) h) (asks_plain w d s v f.0) (asks_plain w d s x f.1)
    ∙ ap (λ (r : Rel). Onward (Asks w v) r (Asks w x)) (leads_plain w d s v f.0)
asks_plain w d s (alt v x) e = let f = neither (walk_varies v) (walk_varies x) e in ap₂ Either (asks_plain w d s v f.0) (asks_plain w d s x f.1)
asks_plain w d s (star x) e = ap₂ Again (leads_plain w d s x e) (asks_plain w d s x e)
asks_plain w d s (check t) e = refl
asks_plain w d s (conv x) e = refl
asks_plain w d s (pick v x) e = absurd (true≢false e)

module _ (s : Setting) (masks log : List ℕ) (d : ℕ) (many : s.counts.domain ≡ suc d) where
  -- what is asked of, with the domain and with none
  abbrev some : Subject
  some = subject_of s masks log

  abbrev plainly : Subject
  plainly = subject_of (setting_of s.counts.fluents s.counts.actions 0 s.start s.reading) masks log

  -- a rule that is not refused as 13 has no variable free
  closed : {kind : Kind} {bytes : List ℕ} (r : Rule) → Opens kind bytes r [] → Accepted (text_rows true kind bytes s.counts) → (v : Variable) → free_in v r ≡ false
  closed r o (six, (names, (deep, (turned, (unbound, rest))))) = none_free r (λ u. unbound (record { rule = r; spells = o; faulty = u }))

  -- over any log: where the walk leads, however its own tests are read, and what it waits for as a job; when a test is true
  leads_same : (r : Reading) (x : Walk) → ((v : Variable) → walk_free v x ≡ false) → (l : List ℕ) (p q n : ℕ)
      → Leads (relog (owning (world_of some) r) l) x p q n ↔ Leads (relog (owning (world_of plainly) r) l) (spelled_out d x) p q n
  leads_same r x free l p q n =
      let w = relog (owning (world_of some) r) l in
      let out = leads_out d w x many p q n in
      let none = leads_plain w 0 no_values (spelled_out d x) (walk_out_plain d x free) in
      (λ h. subst⁻¹ (λ (r : Rel). r p q n) none (out.0 h), λ h. out.1 (subst (λ (r : Rel). r p q n) none h))

  asks_same : (x : Walk) → ((v : Variable) → walk_free v x ≡ false) → (p k a : ℕ)
      → Asks (as_job (world_of some)) x p k a ↔ Asks (as_job (world_of plainly)) (spelled_out d x) p k a
  asks_same x free p k a =
      let w = as_job (world_of some) in
      let out = asks_out d w x many p k a in
      let none = asks_plain w 0 no_values (spelled_out d x) (walk_out_plain d x free) in
      (λ h. subst⁻¹ (λ (f : Wait). f p k a) none (out.0 h), λ h. out.1 (subst (λ (f : Wait). f p k a) none h))

  holds_same : (t : Test) → ((v : Variable) → test_free v t ≡ false) → (then now : ℕ)
      → Holds (world_of some) t then now ↔ Holds (world_of plainly) (test_out d t) then now
  holds_same t free then now =
      let out = holds_out d (world_of some) t many then now in
      let none = holds_plain (world_of some) 0 no_values (test_out d t) (test_out_plain d t free) in
      (λ h. subst⁻¹ (λ (f : Truth). f then now) none (out.0 h), λ h. out.1 (subst (λ (f : Truth). f then now) none h))

  -- the rows of a rule's text, of those of a question
  text_of : (kind : Kind) (bytes : List ℕ) (then now : ℕ) → Accepted (ask_rows kind some bytes then now) → Accepted (text_rows true kind bytes s.counts)
  text_of kind bytes then now a =
      let rest = (accepted_parts (world_rows some) (text_rows true kind bytes s.counts ++ time_rows some then now) a).1 in
      (accepted_parts (text_rows true kind bytes s.counts) (time_rows some then now) rest).0

  pub reach_written_out : (x : Walk) (bytes out : List ℕ) (then now : ℕ) {number number' set set' count count' earliest earliest' : ℕ}
      → Opens walk_kind bytes (of_walk x) [] → Opens walk_kind out (of_walk (spelled_out d x)) []
      → Accepted (ask_rows walk_kind some bytes then now) → Accepted (ask_rows walk_kind plainly out then now)
      → ReachAnswered some bytes then now number set count earliest → ReachAnswered plainly out then now number' set' count' earliest'
      → (set ≡ set') × (count ≡ count') × (earliest ≡ earliest')
  reach_written_out x bytes out then now {set = set} {set' = set'} {count = count} {count' = count'} {earliest = earliest} {earliest' = earliest'} o p a b f g =
      let here = right a f in
      let there = right b g in
      let same = leads_same (world_of some).own x (closed (of_walk x) o (text_of walk_kind bytes then now a)) log in
      let found = subst (λ (v : Walk). ReachedAs (world_of some) v then now set count earliest) (one_walk here.spells o) here.reached in
      let told = subst (λ (v : Walk). ReachedAs (world_of plainly) v then now set' count' earliest') (one_walk there.spells p) there.reached in
      reached_as_unique (world_of some) x then now found
      (record {
        held = told.held;
        written = told.written;
        reached = record {
          holds = λ q. (λ h. (same then q now).1 ((told.reached.holds q).0 h), λ h. (told.reached.holds q).1 ((same then q now).0 h));
          counted = told.reached.counted;
          first = told.reached.first;
        };
      })

  pub verdict_written_out : (t : Test) (bytes out : List ℕ) (then now : ℕ) {number number' : ℕ} {verdict verdict' : Option Bool}
      → Opens test_kind bytes (of_test t) [] → Opens test_kind out (of_test (test_out d t)) []
      → Accepted (ask_rows test_kind some bytes then now) → Accepted (ask_rows test_kind plainly out then now)
      → VerdictAnswered some bytes then now number verdict → VerdictAnswered plainly out then now number' verdict' → verdict ≡ verdict'
  verdict_written_out t bytes out then now {verdict = verdict} {verdict' = verdict'} o p a b f g =
      let here = right a f in
      let there = right b g in
      let same = holds_same t (closed (of_test t) o (text_of test_kind bytes then now a)) then now in
      let found = subst (λ (u : Test). YesOrNo (Holds (world_of some) u then now) verdict) (one_test here.spells o) here.judged in
      let told = subst (λ (u : Test). YesOrNo (Holds (world_of plainly) u then now) verdict') (one_test there.spells p) there.judged in
      one_verdict found (⊎_elim (λ y. inl (y.0, same.1 y.1)) (λ n. inr (n.0, λ h. n.1 (same.0 h))) told)

  -- the same of a job's calls
  text_of_job : (job : List ℕ) → Accepted (next_rows some job) → Accepted (text_rows true job_kind job s.counts)
  text_of_job job a = (accepted_parts (world_rows some) (text_rows true job_kind job s.counts) a).1

  pub next_written_out : (x : Walk) (job out : List ℕ) {number number' actions actions' : ℕ}
      → Opens job_kind job (of_walk x) [] → Opens job_kind out (of_walk (spelled_out d x)) []
      → Accepted (next_rows some job) → Accepted (next_rows plainly out)
      → NextAnswered some job number actions → NextAnswered plainly out number' actions' → actions ≡ actions'
  next_written_out x job out {actions = actions} {actions' = actions'} o p a b f g =
      let here = right a f in
      let there = right b g in
      let same = asks_same x (closed (of_walk x) o (text_of_job job a)) 0 (length log) in
      let found = subst (λ (v : Walk). MayCome (world_of some) v actions) (one_walk here.spells o) here.told in
      let told = subst (λ (v : Walk). MayCome (world_of plainly) v actions') (one_walk there.spells p) there.told in
      same_bits actions actions' (λ i.
      same_truth (on actions i) (on actions' i)
      (λ h. let (low, able, asks) = (found i).0 h in (told i).1 (low, able, (same i).0 asks))
      (λ h. let (low, able, asks) = (told i).0 h in (found i).1 (low, able, (same i).1 asks)))

  finishes_same : (x : Walk) → ((v : Variable) → walk_free v x ≡ false) → (more : ℕ) (ending : List ℕ)
      → Finishes (world_of some) x more ending ↔ Finishes (world_of plainly) (spelled_out d x) more ending
  finishes_same x free more ending =
      let end : ℕ = length log + length ending in
      let same = leads_same now_step x free (log ++ ending) 0 end end in (
        λ f. record { short = f.short; fits = f.fits; able = f.able; done = same.0 f.done },
        λ f. record { short = f.short; fits = f.fits; able = f.able; done = same.1 f.done },
      )

  pub finish_written_out : (x : Walk) (job out : List ℕ) (more : ℕ) (before : List ℕ) {after after' : List ℕ} {number number' count count' : ℕ}
      → Opens job_kind job (of_walk x) [] → Opens job_kind out (of_walk (spelled_out d x)) []
      → Accepted (finish_rows some job more (length before)) → Accepted (finish_rows plainly out more (length before))
      → FinishAnswered some job more before number count after → FinishAnswered plainly out more before number' count' after'
      → (count ≡ count') × (after ≡ after')
  finish_written_out x job out more before {after} {after'} {count = count} {count' = count'} o p a b f g =
      let here = right a f in
      let there = right b g in
      let checked = (accepted_parts (check_rows some job more (length before)) (search_rows some job more) a).0.1 in
      let asked = (accepted_parts (next_rows some job) (room_rows more (length before)) checked).0 in
      let same = finishes_same x (closed (of_walk x) o (text_of_job job asked)) more in
      let found = subst (λ (v : Walk). Finished (world_of some) v more before after count) (one_walk here.spells o) here.finished in
      let told = subst (λ (v : Walk). Finished (world_of plainly) v more before after' count') (one_walk there.spells p) there.finished in
      let first : First (world_of some) x more told.ending = record {
        finishes = (same told.ending).1 told.first.finishes;
        earliest = λ other h. told.first.earliest other ((same other).0 h);
      } in
      let e = first_unique (world_of some) x more found.ending told.ending found.first first in (
        found.counted ∙ ap length e ∙ sym told.counted,
        found.written ∙ ap (λ (l : List ℕ). l ++ drop (length l) before) e ∙ sym told.written,
      )

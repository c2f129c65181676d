-- Request Q-5, about the calls: the quick yes of a record "the library made from that log and theory" "equals the test's verdict". What `wyh_happened` answers for it,
-- `wyh_verdict` answers for `<-;aNN*n1` at the log's end, number and slot, whichever domain it is given (request Q-2): the test has no variable.
use mathlib.Core.Path.{◌≡◌, refl, sym, subst}
use mathlib.Core.Logic.{◌⊎◌, ◌↔◌, inl, inr, ⊎_elim}
use mathlib.Core.Bool.{Bool, true, true≢false}
use mathlib.Core.List.{List, [], ◌++◌, cons≢nil}
use mathlib.Core.Option.{Option}
use Prim.Native.Nat.{ℕ, ◌≤◌, ◌<◌}
use native.Mathlib.Omega.{arith}
use lib.ListN.{length, get_or}
use Rattle.meaning.specs.Limits.{action_limit, domain_limit, reading_limit, number_limit}
use Rattle.meaning.specs.Rule.{Rule, of_test, test_kind, Opens, test_text, test_depth, test_names, test_free, test_varies}
use Rattle.meaning.specs.Leads.{Holds}
use Rattle.meaning.specs.Refusal.{Row, Accepted, BadRule, BadNames, TooDeep, BadJob, Unbound}
use Rattle.meaning.proofs.Reading.{unique_reading}
use Rattle.meaning.proofs.Refusal.{past, passes, accepts, rest_refused, refused_first, refused_second, accepted_both, not_first, not_rest}
use Rattle.theory.specs.Subject.{Subject, subject_of, unvalued, counts_of, world_of}
use Rattle.theory.specs.Rows.{world_rows}
use Rattle.theory.specs.declared.Setting.{Setting}
use Rattle.theory.proofs.Reading.{checked}
use Rattle.rule.specs.Outcome.{With, text_rows}
use Rattle.rule.proofs.Outcomes.{test_no_job}
use Rattle.ask.specs.Rows.{time_rows}
use Rattle.ask.specs.Verdict.{VerdictAnswered}
use Rattle.tally.specs.Calls.{HappenedAnswered}
use Rattle.tally.specs.Made.{Made, happened_test}
use Rattle.tally.specs.declared.Tally.{Tally}
use Rattle.tally.proofs.Made.{made_kept}
use Rattle.tally.proofs.Verdict.{happened_iff}
use Rattle.exported.specs.Exported.{InSlot}
use Rattle.wyndhopper.proofs.Determined.{wyh_verdict_determined}

-- the bytes `<-;aNN*n1`
abbrev pub happened_text : ℕ → List ℕ
happened_text a = test_text (happened_test a)

module _ (s : Subject) (a : ℕ) (writable : a < number_limit) where
  abbrev bytes : List ℕ
  bytes = happened_text a

  spelled : Opens test_kind bytes (of_test (happened_test a)) []
  unfolding test_text test_names
  spelled = record { fits = tt; spells = refl; short_actions = omega arith; short_fluents = omega arith }

  -- they spell that test and no other, so that a fault is a fault of it
  of_it : {Fault : Rule → Type 0} → With (λ r. Opens test_kind bytes r []) Fault → Fault (of_test (happened_test a))
  of_it {Fault} x = subst Fault (unique_reading x.spells spelled).0 x.faulty

  no_bad_rule : {domain : ℕ} → BadRule domain test_kind bytes → ⊥
  unfolding test_text test_varies
  no_bad_rule = ⊎_elim (λ e. cons≢nil e) (⊎_elim (λ h. omega arith) (λ none. none (of_test (happened_test a)) spelled (λ empty. refl)))

  -- of that test: which actions it needs to be known, and that it is not deep, no job and without variables
  lacks : (domain : ℕ) {fluents actions : ℕ} → actions ≤ a → BadNames domain fluents actions (of_test (happened_test a))
  unfolding test_names
  lacks domain h = inl (omega arith)

  knows : (domain : ℕ) {fluents actions : ℕ} → a < actions → BadNames domain fluents actions (of_test (happened_test a)) → ⊥
  unfolding test_names
  knows domain h = ⊎_elim (λ l. omega arith) (λ l. omega arith)

  shallow : TooDeep (of_test (happened_test a)) → ⊥
  unfolding test_depth
  shallow h = omega arith

  no_job : BadJob test_kind (of_test (happened_test a)) → ⊥
  no_job x = test_no_job x.0

  bound : Unbound (of_test (happened_test a)) → ⊥
  unfolding test_free
  bound x = true≢false (sym x.free)

  abbrev n : ℕ
  n = length s.log

  abbrev rest : List {1} Row
  rest = text_rows true test_kind bytes (counts_of s) ++ time_rows s n n

  -- what is answered of two places that tell the test is answered of the test
  as_verdict : (last : List ℕ) (impossible : ℕ) {number : ℕ} {verdict : Option Bool} → Accepted (world_rows s)
      → (a < (counts_of s).actions → (impossible < get_or last a 0) ↔ Holds (world_of s) (happened_test a) n n)
      → HappenedAnswered (counts_of s).actions last impossible a number verdict → VerdictAnswered s bytes n n number verdict
  as_verdict last impossible accepted tells (inl r) =
      let c = checked s accepted in
      let counted : ((counts_of s).actions < 1) ⊎ (action_limit < (counts_of s).actions) → ⊥ = ⊎_elim (λ h. omega (arith, c.some_actions)) (λ h. omega (arith, c.few_actions)) in
      let unknown = (rest_refused counted r.refused).first in
      inl
      (record {
        refused =
            refused_second (world_rows s) rest accepted
            (refused_first (text_rows true test_kind bytes (counts_of s)) (time_rows s n n)
            (past no_bad_rule
            (record { first = ⊎_elim (λ h. inl (h.0, record { rule = of_test (happened_test a); spells = spelled; faulty = lacks (counts_of s).domain h.1 })) (λ h. absurd h.1) unknown })));
        blank = r.blank;
      })
  as_verdict last impossible accepted tells (inr r) =
      let known : ¬ ((counts_of s).actions ≤ a) = not_first (not_rest r.accepted) in
      let told = tells (omega arith) in
      inr
      (record {
        none = r.none;
        accepted =
            accepted_both (world_rows s) rest accepted
            (accepted_both (text_rows true test_kind bytes (counts_of s)) (time_rows s n n)
            (passes no_bad_rule (passes (λ x. knows (counts_of s).domain (omega arith) (of_it x)) (passes (λ x. shallow (of_it x)) (passes (λ x. no_job (of_it x)) (passes (λ x. bound (of_it x)) accepts)))))
            (passes (⊎_elim (λ h. omega arith) (λ h. omega arith)) accepts));
        right = record {
          test = happened_test a;
          spells = spelled;
          judged = ⊎_elim (λ y. inl (y.0, told.0 y.1)) (λ y. inr (y.0, λ h. y.1 (told.1 h))) r.right;
        };
      })

-- a theory that is accepted without values is accepted with as many as a variable may have, and with each reading
valued : (s : Setting) (masks log : List ℕ) → s.counts.domain ≤ domain_limit → s.reading ≤ reading_limit → Accepted (world_rows (subject_of (unvalued s) masks log))
    → Accepted (world_rows (subject_of s masks log))
valued s masks log few known a =
    passes (⊎_elim (⊎_elim (⊎_elim (λ h. not_first a (inl (inl (inl h)))) (λ h. omega arith)) (λ h. omega arith)) (λ h. not_first a (inr h))) (not_rest a)

pub happened_is_verdict : {s : Setting} {masks log : List ℕ} {t : Tally} → s.counts.domain ≤ domain_limit → s.reading ≤ reading_limit → Made (unvalued s) masks log t
    → (a : ℕ) → a < number_limit → {number number' yes yes' : ℕ}
    → InSlot (HappenedAnswered s.counts.actions t.last t.impossible a number) yes
    → InSlot (VerdictAnswered (subject_of s masks log) (happened_text a) (length log) (length log) number') yes'
    → (number ≡ number') × (yes ≡ yes')
happened_is_verdict {s} {masks} {log} {t} few read made a writable x y =
    let asked = subject_of s masks log in
    let k = made_kept made in
    let accepted = valued s masks log few read k.accepted in
    let known = (checked asked accepted).few_actions in
    wyh_verdict_determined asked (happened_text a) (length log) (length log)
    (record {
      verdict = x.verdict;
      written = x.written;
      said = as_verdict asked a writable t.last t.impossible accepted (λ named. happened_iff (world_of asked) a (k.tally.actions a (omega arith)).latest k.tally.impossible) x.said;
    }) y

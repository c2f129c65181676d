-- Laws of what the calls answer: how the checks, one after the other, make a refusal or an acceptance, what an acceptance tells of the rule, and that the
-- contracts leave one outcome. No code.
use mathlib.Core.Path.{◌≡◌, refl, sym, ap, ap₂, subst, subst⁻¹, ◌∙◌}
use mathlib.Core.Logic.Iff
use mathlib.Core.Logic.{inl, inr, ⊎_elim, ◌↔◌}
use mathlib.Core.Bool.{Bool, true, false}
use mathlib.Core.List.{List, [], ◌∷◌, cons≢nil}
use Prim.Native.Nat.{ℕ, ◌+◌, ◌≤◌, ◌<◌}
use native.Mathlib.Nat.{zero-add, le_of_eq}
use native.Mathlib.Omega.{arith}
use lib.ListN.{length, drop, length-append, length-drop}
use lib.Seq.{take_all, drop-append_seam}
use denote.Ref.{Bor}
use Rattle.std.specs.Prelude.{Some, Result, Ok, Err}
use Rattle.laws.proofs.Truth.{no_truth, off_on}
use Rattle.meaning.specs.Limits.{text_limit, depth_limit}
use Rattle.meaning.specs.Rule.{Kind, test_kind, job_kind, Rule, Variable, Opens, text as spelling, depth, actions_in, fluents_in, backward_in, free_in, varies_in}
use Rattle.meaning.specs.Refusal.{Row, ◌when◌, FirstHolding, Refused, Accepted, falls, Allowed, BadNames, TooDeep, BadJob, Unbound}
use Rattle.meaning.proofs.Refusal.{past, passes, answered_determined}
use Rattle.meaning.proofs.Reading.{unique_reading, opens?}
use Rattle.refusal.specs.declared.Refusal.{Refusal}
use Rattle.theory.specs.declared.Counts.{Counts}
use Rattle.theory.specs.Rows.{CountsOut}
use Rattle.rule.specs.declared.answer.Facts.{Facts}
use Rattle.rule.specs.Facts.{facts_of}
use Rattle.rule.specs.Read.{ReadAt}
use Rattle.rule.specs.Outcome.{Spelled, Unspelled, With, text_rows, rule_rows, bytes_from, PartAt, ReadAnswered}
use Rattle.rule.specs.Judged.{Fitting, SurveyedAs, Opening, fact_rows, JudgedAs}
use Rattle.rule.proofs.Variables.{some_free}
use Rattle.grammar.proofs.Spread.{some_text}

-- Two lists with the same numbers, whose sentences hold alike, give the same answer.
abbrev Alike : List {1} Row → List {1} Row → Type 0
Alike [] [] = Unit {0}
Alike [] (s ∷ ss) = ⊥
Alike (r ∷ rs) [] = ⊥
Alike (r ∷ rs) (s ∷ ss) = (r.number ≡ s.number) × (r.given ↔ s.given) × Alike rs ss

alike_first : (rs ss : List {1} Row) (n : ℕ) → Alike rs ss → FirstHolding rs n → FirstHolding ss n
alike_first [] ss n e h = elim h [ ]
alike_first (r ∷ rs) [] n e h = absurd e
alike_first (r ∷ rs) (s ∷ ss) n e (inl h) = inl (h.0 ∙ e.0, e.1.0 h.1)
alike_first (r ∷ rs) (s ∷ ss) n e (inr h) = inr (λ g. h.0 (e.1.1 g), alike_first rs ss n e.2 h.1)

alike_refused : (rs ss : List {1} Row) {n : ℕ} → Alike rs ss → Refused rs n → Refused ss n
alike_refused rs ss {n} e r = record { first = alike_first rs ss n e r.first }

alike_accepted : (rs ss : List {1} Row) → Alike rs ss → Accepted rs → Accepted ss
alike_accepted [] [] e a = tt
alike_accepted [] (s ∷ ss) e a = absurd e
alike_accepted (r ∷ rs) [] e a = absurd e
alike_accepted (r ∷ rs) (s ∷ ss) e a = (λ g. a.0 (e.1.1 g), alike_accepted rs ss e.2 a.1)

-- What opening a text answers.
module _ (kind : Kind) (domain : ℕ) (bytes : List ℕ) where
  pub too_long : (whole : Bool) → text_limit < length bytes → Unspelled whole kind domain bytes
  too_long true h = inr (inl h)
  too_long false h = inr (inl h)

  -- where a rule ends, and where the text
  end_is : (f : Facts) (r : Rule) → f ≡ facts_of domain (0 + length (spelling r)) r → f.end ≡ length (spelling r)
  end_is f r e = ap (λ (g : Facts). g.end) e ∙ zero-add (length (spelling r))

  length_is : (r : Rule) (rest : List ℕ) → Opens kind bytes r rest → length bytes ≡ length (spelling r) + length rest
  length_is r rest o = ap length o.spells ∙ length-append (spelling r) rest

  -- a rule with variables where they have no values
  pub no_values_law : (whole : Bool) (f : Facts) → (domain ≡ 0) × (f.varies ≡ true) → ReadAt kind domain bytes 0 (Some f) → Unspelled whole kind domain bytes
  no_values_law whole f (zero, varies) (r, rest, o, e) = go whole
    where
      barred : (r' : Rule) (rest' : List ℕ) → Opens kind bytes r' rest' → Allowed domain r' → ⊥
      barred r' rest' o' a =
          off_on (a zero) (ap varies_in (sym (unique_reading o o').0) ∙ sym (ap (λ (g : Facts). g.varies) e) ∙ varies)

      go : (whole : Bool) → Unspelled whole kind domain bytes
      go true = inr (inr (λ r' o' a. barred r' [] o' a))
      go false = inr (inr barred)

  pub rest_follows : (f : Facts) → 0 < length (drop f.end bytes) → ReadAt kind domain bytes 0 (Some f) → Unspelled true kind domain bytes
  rest_follows f more (r, rest, o, e) =
      inr (inr (λ r' o' a. absurd (omega (arith, more, end_is f r e, length_is r rest o, ap length (unique_reading o o').1, length-drop f.end bytes))))

-- the bytes spell at most one rule
spelled_once : (whole : Bool) (kind : Kind) (bytes : List ℕ) {r r' : Rule} → Spelled whole kind bytes r → Spelled whole kind bytes r' → r ≡ r'
spelled_once true kind bytes o o' = (unique_reading o o').0
spelled_once false kind bytes o o' = (unique_reading o.1 o'.1).0

no_rule_in_none : (kind : Kind) (bytes : List ℕ) (r : Rule) (rest : List ℕ) → Opens kind bytes r rest → bytes ≡ [] → ⊥
no_rule_in_none kind bytes r rest o e = omega (arith, length_is kind 0 bytes r rest o, ap length e, some_text r)

-- where they spell one that is allowed, refusal 6 does not apply
spelled_no_six : (whole : Bool) (kind : Kind) (domain : ℕ) (bytes : List ℕ) (f : Facts) → Opening whole kind domain bytes f → Unspelled whole kind domain bytes → ⊥
spelled_no_six true kind domain bytes f o (inl e) = no_rule_in_none kind bytes o.rule [] o.spells e
spelled_no_six true kind domain bytes f o (inr (inl l)) = omega (arith, o.short)
spelled_no_six true kind domain bytes f o (inr (inr n)) = n o.rule o.spells o.allowed
spelled_no_six false kind domain bytes f o (inl e) = no_rule_in_none kind bytes o.rule o.spells.0 o.spells.1 e
spelled_no_six false kind domain bytes f o (inr (inl l)) = omega (arith, o.short)
spelled_no_six false kind domain bytes f o (inr (inr n)) = n o.rule o.spells.0 o.spells.1 o.allowed

module _ (whole : Bool) (kind : Kind) (bytes : List ℕ) where
  -- so a fault of a rule that they spell is a fault of this one
  with_fault : {r : Rule} (fault : Rule → Type 0) → Spelled whole kind bytes r → fault r ↔ With (Spelled whole kind bytes) fault
  with_fault {r} fault s =
      (λ f. record { rule = r; spells = s; faulty = f }, λ w. subst fault (spelled_once whole kind bytes w.spells s) w.faulty)

  -- The facts judged: the rows that they decide are those of the rule that is spelled.
  module _ (counts : Counts) where
    abbrev names : Rule → Type 0
    names = BadNames counts.domain counts.fluents counts.actions

    abbrev rule_faults : List {1} Row
    rule_faults =
        (7 when With (Spelled whole kind bytes) names)
        ∷ ((8 when With (Spelled whole kind bytes) TooDeep)
        ∷ ((9 when With (Spelled whole kind bytes) (BadJob kind)) ∷ ((13 when With (Spelled whole kind bytes) Unbound) ∷ [])))

    rows_alike : (f : Facts) → Opening whole kind counts.domain bytes f → Alike (fact_rows kind counts f) rule_faults
    rows_alike f o =
        subst⁻¹ (λ (x : Facts). Alike (fact_rows kind counts x) rule_faults) o.told
        (refl, with_fault names o.spells, (refl, with_fault TooDeep o.spells, (refl, with_fault (BadJob kind) o.spells, (refl, Iff.trans (some_free o.rule) (with_fault Unbound o.spells), tt))))

    pub facts_judged : (f : Facts) (r : Result Facts Refusal) → (CountsOut counts → ⊥) → Opening whole kind counts.domain bytes f → JudgedAs kind counts f r
        → SurveyedAs whole kind bytes counts r
    facts_judged f (Err why) n o h =
        past n (past (spelled_no_six whole kind counts.domain bytes f o) (alike_refused (fact_rows kind counts f) rule_faults (rows_alike f o) h))
    facts_judged f (Ok g) n o h = record {
      accepted = passes n (passes (spelled_no_six whole kind counts.domain bytes f o) (alike_accepted (fact_rows kind counts f) rule_faults (rows_alike f o) h.1));
      rule = o.rule;
      spells = o.spells;
      told = h.0 ∙ o.told;
    }

-- only a job is a job
pub test_no_job : test_kind ≡ job_kind → ⊥
test_no_job e = let z : ◌≡◌ {A = ℕ} 0 1 = cc in omega arith

-- What is handed back: the part from the rule's end on is the rest.
pub from_is : (start : ℕ) (bytes : List ℕ) → bytes_from start bytes ≡ drop start bytes
from_is start bytes = take_all _ (drop start bytes) (le_of_eq (length-drop start bytes))

module _ (kind : Kind) (text : Bor (List ℕ)) (counts : Counts) (f : Facts) (fit : Fitting false kind text.now counts f) where
  told_end : f.end ≡ length (spelling fit.rule)
  told_end = ap (λ (g : Facts). g.end) fit.told

  part_is : drop f.end text.now ≡ fit.spells.0
  part_is =
      ap (λ (n : ℕ). drop n text.now) told_end ∙ ap (drop (length (spelling fit.rule))) fit.spells.1.spells ∙ drop-append_seam (spelling fit.rule) fit.spells.0

  pub handed_back : {part : Bor (List ℕ)} → PartAt text f.end (bytes_from f.end text.now) part → ReadAnswered kind text counts 0 part
  handed_back p =
      inr (record {
        none = refl;
        accepted = fit.accepted;
        right = record {
          rule = fit.rule;
          rest = fit.spells.0;
          opens = fit.spells.1;
          from = record { block = p.block; offset = p.offset ∙ ap (λ (n : ℕ). text.ref_ptr.1 + n) told_end; bytes = p.bytes ∙ from_is f.end text.now ∙ part_is };
        };
      })

-- What an accepted list tells: the text is short and spells a rule, which has no variables if those have no values, whose names the theory knows, which is
-- no deeper than the limit, as a job has no backward sign outside a `<` walk, and in which no variable stands free.
pub record Known (whole : Bool) (kind : Kind) (bytes : List ℕ) (counts : Counts) : Type 0 where
  pub rule : Rule
  pub spells : Spelled whole kind bytes rule
  pub short : length bytes ≤ text_limit
  pub allowed : Allowed counts.domain rule
  pub known_actions : actions_in counts.domain rule ≤ counts.actions
  pub known_fluents : fluents_in counts.domain rule ≤ counts.fluents
  pub shallow : depth rule ≤ depth_limit
  pub onward : kind ≡ job_kind → backward_in rule ≡ true → ⊥
  pub bound : (v : Variable) → free_in v rule ≡ true → ⊥

-- where no refusal 6 is given, a rule is spelled, and it is allowed
module _ (kind : Kind) (domain : ℕ) (bytes : List ℕ) where
  spelled_whole : (Unspelled true kind domain bytes → ⊥) → (r : Rule) × Opens kind bytes r []
  spelled_whole n = ⊎_elim (λ (r, rest, o). go r rest o) (λ none. absurd (n (inr (inr (λ r o a. none r [] o))))) (opens? kind bytes)
    where
      go : (r : Rule) (rest : List ℕ) → Opens kind bytes r rest → (r : Rule) × Opens kind bytes r []
      go r [] o = (r, o)
      go r (b ∷ rest) o = absurd (n (inr (inr (λ r' o' a. cons≢nil (unique_reading o o').1))))

  spelled_part : (Unspelled false kind domain bytes → ⊥) → (r : Rule) × Spelled false kind bytes r
  spelled_part n = ⊎_elim (λ (r, rest, o). (r, (rest, o))) (λ none. absurd (n (inr (inr (λ r rest o a. none r rest o))))) (opens? kind bytes)

  spelled_some : (whole : Bool) → (Unspelled whole kind domain bytes → ⊥) → (r : Rule) × Spelled whole kind bytes r
  spelled_some true n = spelled_whole n
  spelled_some false n = spelled_part n

  spelled_allowed : (whole : Bool) (r : Rule) → Spelled whole kind bytes r → (Unspelled whole kind domain bytes → ⊥) → Allowed domain r
  spelled_allowed true r o n zero =
      no_truth (varies_in r) (λ v. n (inr (inr (λ r' o' a. off_on (a zero) (ap varies_in (sym (unique_reading o o').0) ∙ v)))))
  spelled_allowed false r (rest, o) n zero =
      no_truth (varies_in r) (λ v. n (inr (inr (λ r' rest' o' a. off_on (a zero) (ap varies_in (sym (unique_reading o o').0) ∙ v)))))

pub accepted_known : (whole : Bool) (kind : Kind) (bytes : List ℕ) (counts : Counts) → Accepted (text_rows whole kind bytes counts) → Known whole kind bytes counts
accepted_known whole kind bytes counts (six, (names, (deep, (turned, (unbound, rest))))) =
    let (r, s) = spelled_some kind counts.domain bytes whole six in
    let lacks = BadNames counts.domain counts.fluents counts.actions in
    let with : (fault : Rule → Type 0) → fault r → With (Spelled whole kind bytes) fault = λ fault h. record { rule = r; spells = s; faulty = h } in
    let long : ¬ (text_limit < length bytes) = λ l. six (too_long kind counts.domain bytes whole l) in
    let lacks-action : ¬ (counts.actions < actions_in counts.domain r) = λ h. names (with lacks (inl h)) in
    let lacks-fluent : ¬ (counts.fluents < fluents_in counts.domain r) = λ h. names (with lacks (inr h)) in
    let shallow : ¬ TooDeep r = λ h. deep (with TooDeep h) in
    record {
      rule = r;
      spells = s;
      short = omega arith;
      allowed = spelled_allowed kind counts.domain bytes whole r s six;
      known_actions = omega arith;
      known_fluents = omega arith;
      shallow = omega arith;
      onward = λ k b. turned (with (BadJob kind) (k, b));
      bound = λ v f. unbound (with Unbound (record { variable = v; free = f }));
    }

-- The contracts leave one outcome. Of `read_rule`: two numbers are equal, and two parts are the same stretch of memory with the same bytes.
-- (Of `check_rule` that is theory's `check_determined`.)
same_part : {text part part' : Bor (List ℕ)} {start start' : ℕ} {held held' : List ℕ} → start ≡ start' → held ≡ held' → PartAt text start held part → PartAt text start' held' part'
    → (part.ref_ptr ≡ part'.ref_ptr) × (part.now ≡ part'.now)
same_part {text} s h p q = (
  ap₂ (λ (b o : ℕ). (b, o)) (p.block ∙ sym q.block) (p.offset ∙ ap (λ (n : ℕ). text.ref_ptr.1 + n) s ∙ sym q.offset),
  p.bytes ∙ h ∙ sym q.bytes,
)

pub read_rule_determined : (kind : Kind) (text : Bor (List ℕ)) (counts : Counts) (n n' : ℕ) (part part' : Bor (List ℕ))
    → ReadAnswered kind text counts n part → ReadAnswered kind text counts n' part' → (n ≡ n') × (part.ref_ptr ≡ part'.ref_ptr) × (part.now ≡ part'.now)
read_rule_determined kind text counts n n' part part' o o' =
    answered_determined o o'
    (λ e p q. let same = same_part refl refl p q in (e, same.0, same.1))
    (λ e p q.
    let (r, rest) = unique_reading p.opens q.opens in
    let same = same_part (ap (λ (x : Rule). length (spelling x)) r) rest p.from q.from in
    (e, same.0, same.1))

-- its numbers rise
pub rule_rises : (whole : Bool) (kind : Kind) (bytes : List ℕ) (counts : Counts) → falls (rule_rows whole kind bytes counts) ≡ []
rule_rises whole kind bytes counts = refl

-- Document 01, "Examples on that theory": every row marked P, in the document's order, and what each says about the meaning. A case gives its rule
-- as the document writes it; what it says is said of the rule that this text spells. Then cases of document 02: of Q-2 and of Q-7, on the same theory, and of Q-6.
use Rattle.std.specs.Prelude.{◌≡◌, List, [], ◌∷◌, map, ℕ, ◌+◌, get_or}
use Prim.Native.String.{String}
use Rattle.laws.specs.Text.{bytes}
use Rattle.meaning.specs.Theory.{Clause, Masks, Reading, now_step, World, clause_of, masks_of, no_values, state_before}
use Rattle.meaning.specs.Four.{plain_masks}
use Rattle.meaning.specs.Rule.{Walk, Test, Rule, Kind, test_kind, walk_kind, job_kind, of_test, of_walk, Opens, text}
use Rattle.meaning.specs.Leads.{Holds}
use Rattle.meaning.specs.Reach.{ReachedAs}
use Rattle.meaning.specs.Normal.{normal_rule}
use Rattle.meaning.specs.Finish.{First, None}

-- The theory of the example sheet: two fluents, three actions, nothing on at the start

-- its `act=` lines: "need, ban, put, drop"
abbrev pub actions : List Masks
actions = plain_masks 0 0 1 0 ∷ plain_masks 1 0 2 0 ∷ plain_masks 0 0 0 3 ∷ []

-- so many values has a variable, 0 on a sheet without variables; and so a test inside a walk is read, `step` on a sheet that does not say it
abbrev pub job_with : ℕ → Reading → List ℕ → World
job_with domain reading log =
    record {
      fluents = 2;
      actions = 3;
      masks = λ a. get_or actions a (plain_masks 0 0 0 0);
      start = 0;
      domain = domain;
      values = no_values;
      own = reading;
      inner = reading;
      log = log;
    }

-- "L is the log 00 01 02 00 (states 0, 1, 3, 0, 1), M is 01 00 (states 0, 2, 3), E is empty."
abbrev pub L : List ℕ
L = 0 ∷ 1 ∷ 2 ∷ 0 ∷ []

abbrev pub M : List ℕ
M = 1 ∷ 0 ∷ []

abbrev pub E : List ℕ
E = []

-- a log of Q-7: 00 01
abbrev pub K : List ℕ
K = 0 ∷ 1 ∷ []

-- the sheet's `ask=` line, "the ask above"
abbrev pub ask : String
ask = "<-;a00*n!<;*na011"

-- The cases

pub data CaseVerdict : Type 0 where
  yes no : CaseVerdict

pub data CaseEnding : Type 0 where
  sequence : List ℕ → CaseEnding
  refusal : ℕ → CaseEnding

pub data Case : Type 0 where
  -- log, walk, then, now: set, count, earliest
  reach : List ℕ → String → ℕ → ℕ → ℕ → ℕ → ℕ → Case
  -- log, test, then, now: verdict
  verdict : List ℕ → String → ℕ → ℕ → CaseVerdict → Case
  -- kind, rule: normal form
  form : Kind → String → String → Case
  -- log, job, more: the sequence or the refusal
  finish : List ℕ → String → ℕ → CaseEnding → Case

-- "Now is the end unless given. P marks cases to be proved." Where the document names the set alone, count and earliest are the set's.
abbrev pub cases : List Case
cases =
    reach L "a00" 0 4 2 1 1
    ∷ reach L "a00" 1 4 0 0 64
    ∷ reach L "r00" 4 4 8 1 3
    ∷ reach L "*n" 2 4 28 3 2
    ∷ reach L "*u" 2 4 7 3 0
    ∷ reach L "-;a00*n" 4 4 9 2 0
    ∷ verdict L ask 4 4 yes
    ∷ verdict L ask 2 2 no
    ∷ verdict L ask 1 1 yes
    ∷ verdict L ask 1 4 no
    ∷ reach L "?<a011" 1 4 0 0 64
    ∷ verdict L "<a011" 1 4 yes
    ∷ reach M "a01" 0 2 0 0 64
    ∷ reach M "n" 0 2 0 0 64
    ∷ reach M "a00" 1 2 4 1 2
    ∷ reach E "*n" 0 0 1 1 0
    ∷ verdict E "f00" 0 0 no
    ∷ form walk_kind "-;a00*n" ";*ur00"
    ∷ form walk_kind "--a01" "a01"
    ∷ form walk_kind "-r02" "a02"
    ∷ form walk_kind "-?<-a011" "?<r011"
    ∷ finish E ";a00a01" 2 (sequence (0 ∷ 1 ∷ []))
    ∷ finish E ";a00a01" 1 (refusal 11)
    ∷ []

-- Q-2 with two values, and with three
abbrev pub two_values : List Case
two_values =
    reach L "pvb01v" 1 4 4 1 2
    ∷ reach L "pv;b00vb00v" 0 4 0 0 64
    ∷ reach L ";pvb00vpvb00v" 0 4 4 1 2
    ∷ reach L "pvpw;b00vb00w" 0 4 4 1 2
    ∷ verdict L "evg00v" 0 0 no
    ∷ verdict L "evg00v" 1 1 yes
    ∷ verdict L "evg00v" 3 3 no
    ∷ form walk_kind "-pvb00v" "pvs00v"
    ∷ form walk_kind "-pv;b00va01" "pv;r01s00v"
    ∷ form walk_kind "-pvpw;b00vb00w" "pvpw;s00ws00v"
    ∷ form walk_kind "-pv?<-b00v1" "pv?<s00v1"
    ∷ finish E "pvb01v" 6 (sequence (2 ∷ []))
    ∷ []

abbrev pub three_values : List Case
three_values =
    reach L "pvb00v" 0 4 2 1 1
    ∷ reach L "pvb00v" 1 4 4 1 2
    ∷ reach L "*pvb00v" 0 4 31 5 0
    ∷ reach L "pv*b00v" 0 4 3 2 0
    ∷ reach L "pvpv;b00vb00v" 0 4 0 0 64
    ∷ finish E "pvb00v" 1 (sequence (0 ∷ []))
    ∷ finish E "pv?<s00v1" 1 (refusal 11)
    ∷ []

-- Q-7, "`now=step` or `now=end`": the same questions, each with its answer under the one and under the other
abbrev pub step_cases : List Case
step_cases =
    reach L "?<a011" 1 4 0 0 64
    ∷ reach L "?<a011" 1 2 0 0 64
    ∷ reach L "?<a011" 1 1 0 0 64
    ∷ verdict L "<?<a0111" 1 4 no
    ∷ verdict L "<?<a0111" 1 1 no
    ∷ reach L "*;n?<a011" 0 4 1 1 0
    ∷ reach L "*;?!<a021n" 0 4 31 5 0
    ∷ reach K ";a00;?<a011a01" 0 2 0 0 64
    ∷ finish K ";a00;?<a011a01" 0 (refusal 11)
    ∷ finish K ";a00;a01?<-;a00;?<a011a011" 0 (refusal 11)
    ∷ finish K ";a00;?<-;a00?<a0111a01" 0 (refusal 11)
    ∷ []

abbrev pub end_cases : List Case
end_cases =
    reach L "?<a011" 1 4 2 1 1
    ∷ reach L "?<a011" 1 2 2 1 1
    ∷ reach L "?<a011" 1 1 0 0 64
    ∷ verdict L "<?<a0111" 1 4 yes
    ∷ verdict L "<?<a0111" 1 1 no
    ∷ reach L "*;n?<a011" 0 4 3 2 0
    ∷ reach L "*;?!<a021n" 0 4 7 3 0
    ∷ reach K ";a00;?<a011a01" 0 2 4 1 2
    ∷ finish K ";a00;?<a011a01" 0 (refusal 11)
    ∷ finish K ";a00;a01?<-;a00;?<a011a011" 0 (sequence [])
    ∷ finish K ";a00;?<-;a00?<a0111a01" 0 (refusal 11)
    ∷ []

-- What a case says

-- the bytes are one rule of this kind and no other, and this is said of it
pub record SpelledAs (kind : Kind) (spelling : List ℕ) (Said : Rule → Type 0) : Type 0 where
  pub rule : Rule
  pub opens : Opens kind spelling rule []
  pub only : (other : Rule) → Opens kind spelling other [] → other ≡ rule
  pub said : Said rule

abbrev pub OfWalk : (Walk → Type 0) → Rule → Type 0
OfWalk Said (of_test t) = ⊥
OfWalk Said (of_walk w) = Said w

abbrev pub OfTest : (Test → Type 0) → Rule → Type 0
OfTest Said (of_test t) = Said t
OfTest Said (of_walk w) = ⊥

abbrev pub IsSo : CaseVerdict → Type 0 → Type 0
IsSo yes X = X
IsSo no X = ¬ X

-- 11: "finish: no such sequence"
abbrev pub Finishing : World → ℕ → CaseEnding → Walk → Type 0
Finishing w more (sequence ending) job = First w job more ending
Finishing w more (refusal number) job = (number ≡ 11) × None w job more

-- of what each log is asked: with so many values, and so read
abbrev pub CaseSays : (List ℕ → World) → Case → Type 0
CaseSays of (reach log walk t n set count earliest) =
    SpelledAs walk_kind (bytes walk) (OfWalk (λ x. ReachedAs (of log) x t n set count earliest))
CaseSays of (verdict log test t n answer) = SpelledAs test_kind (bytes test) (OfTest (λ x. IsSo answer (Holds (of log) x t n)))
CaseSays of (form kind rule normal) = SpelledAs kind (bytes rule) (λ x. text (normal_rule x) ≡ bytes normal)
CaseSays of (finish log job more ending) = SpelledAs job_kind (bytes job) (OfWalk (Finishing (of log) more ending))

abbrev pub AllSay : (List ℕ → World) → List Case → Type 0
AllSay of [] = Unit {0}
AllSay of (c ∷ rest) = CaseSays of c × AllSay of rest

-- Q-6: one action of two clauses, taken as often as there are states to be shown

pub data EffectCase : Type 0 where
  -- start, the clauses as "when, unless, put, drop": the states after one step, after two, ..
  effect : ℕ → Clause → Clause → List ℕ → EffectCase

abbrev pub no_clause : Clause
no_clause = clause_of 0 0 0 0

abbrev pub effect_cases : List EffectCase
effect_cases =
    effect 3 (clause_of 1 0 0 2) no_clause (1 ∷ [])
    ∷ effect 2 (clause_of 1 0 0 2) no_clause (2 ∷ [])
    ∷ effect 0 (clause_of 0 0 1 0) (clause_of 0 0 0 1) (1 ∷ [])
    ∷ effect 1 (clause_of 0 0 1 0) (clause_of 0 0 0 1) (1 ∷ [])
    ∷ effect 1 (clause_of 0 0 0 1) (clause_of 0 0 1 0) (1 ∷ [])
    ∷ effect 0 (clause_of 0 0 1 0) (clause_of 1 0 2 0) (1 ∷ 3 ∷ [])
    ∷ effect 1 (clause_of 1 1 0 1) no_clause (1 ∷ [])
    ∷ effect 3 (clause_of 0 1 0 3) (clause_of 1 0 0 1) (2 ∷ [])
    ∷ []

-- a theory of this one action, which is possible in every state
abbrev pub one_action : ℕ → Clause → Clause → List ℕ → World
one_action start one two log =
    record { fluents = 2; actions = 1; masks = λ a. masks_of 0 0 one two; start = start; domain = 0; values = no_values; own = now_step; inner = now_step; log = log }

-- the states of a world at as many positions, from p on, as the list is long
abbrev pub states_from : World → ℕ → List ℕ → List ℕ
states_from w p [] = []
states_from w p (s ∷ rest) = state_before w p ∷ states_from w (p + 1) rest

-- the states that a case shows, and those that the meaning has
abbrev pub shown : EffectCase → List ℕ
shown (effect start one two later) = start ∷ later

abbrev pub walked : EffectCase → List ℕ
walked (effect start one two later) = states_from (one_action start one two (map (λ s. 0) later)) 0 (start ∷ later)

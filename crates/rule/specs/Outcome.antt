-- What the calls of this crate answer: the rows of refusal that they have, and what goes with an acceptance.
use Rattle.std.specs.Prelude.{Result, Ok, Err, ◌≡◌, Bool, true, false, List, [], ◌∷◌, ℕ, ◌+◌, ◌-◌, length, take, drop}
use Rattle.std.specs.Borrow.{Bor}
use Rattle.meaning.specs.Rule.{test_kind, walk_kind, job_kind, Rule, Opens, text as spelling}
use Rattle.meaning.specs.Rule as meaning
use Rattle.meaning.specs.Refusal.{Row, ◌when◌, Answered, BadRule, BadOpening, BadNames, TooDeep, BadJob, Unbound}
use Rattle.theory.specs.declared.Counts.{Counts}
use Rattle.theory.specs.Rows.{CountsOut}
use Rattle.refusal.specs.Number.{number_of}
use Rattle.rule.specs.declared.Kind.{Kind}
use Rattle.rule.specs.declared.NoRule.{NoRule}

abbrev pub kind_of : Kind → meaning.Kind
kind_of Kind.Test = test_kind
kind_of Kind.Walk = walk_kind
kind_of Kind.Job = job_kind

-- The bytes spell this rule: the whole of them, or with a rest after it, which "is no fault there".
abbrev pub Spelled : Bool → meaning.Kind → List ℕ → Rule → Type 0
Spelled true kind bytes rule = Opens kind bytes rule []
Spelled false kind bytes rule = (rest : List ℕ) × Opens kind bytes rule rest

-- refusal 6, of the whole and with a rest, where a variable has so many values
abbrev pub Unspelled : Bool → meaning.Kind → ℕ → List ℕ → Type 0
Unspelled true kind domain bytes = BadRule domain kind bytes
Unspelled false kind domain bytes = BadOpening domain kind bytes

-- a rule that the bytes spell has this fault
pub record With (spelled fault : Rule → Type 0) : Type 0 where
  pub rule : Rule
  pub spells : spelled rule
  pub faulty : fault rule

-- the rows of a rule's text; 7, 8, 9 and 13 are of the rule that it spells, and 9 of a job alone; 13 stands "between 9 and 10"
abbrev pub text_rows : Bool → meaning.Kind → List ℕ → Counts → List {1} Row
text_rows whole kind bytes counts =
    (6 when Unspelled whole kind counts.domain bytes)
    ∷ (7 when With (Spelled whole kind bytes) (BadNames counts.domain counts.fluents counts.actions))
    ∷ (8 when With (Spelled whole kind bytes) TooDeep)
    ∷ (9 when With (Spelled whole kind bytes) (BadJob kind))
    ∷ (13 when With (Spelled whole kind bytes) Unbound)
    ∷ []

-- the rows of a call that reads a rule
abbrev pub rule_rows : Bool → meaning.Kind → List ℕ → Counts → List {1} Row
rule_rows whole kind bytes counts = (3 when CountsOut counts) ∷ text_rows whole kind bytes counts

-- what there is from a place on
abbrev pub bytes_from : ℕ → List ℕ → List ℕ
bytes_from start bytes = take (length bytes - start) (drop start bytes)

-- "a part of the same text, uncopied": it points into the memory that the text lies in, so many bytes further on, and these bytes are what it has
pub record PartAt (text : Bor (List ℕ)) (start : ℕ) (held : List ℕ) (part : Bor (List ℕ)) : Type 0 where
  pub block : part.ref_ptr.0 ≡ text.ref_ptr.0
  pub offset : part.ref_ptr.1 ≡ text.ref_ptr.1 + start
  pub bytes : part.now ≡ held

-- one rule opens the text, and the part is the text from the first byte behind it
pub record Unread (kind : meaning.Kind) (text part : Bor (List ℕ)) : Type 0 where
  pub rule : Rule
  pub rest : List ℕ
  pub opens : Opens kind text.now rule rest
  pub from : PartAt text (length (spelling rule)) rest part

-- the number and the part that `read_rule` gives: the refusal's number, 0 for none
abbrev pub number_read : Result (Bor (List ℕ)) NoRule → ℕ
number_read (Err none) = number_of none.why
number_read (Ok part) = 0

abbrev pub part_read : Result (Bor (List ℕ)) NoRule → Bor (List ℕ)
part_read (Err none) = none.rest
part_read (Ok part) = part

-- what `read_rule` answers; refused, it has "an empty part where a part is handed back"
abbrev pub ReadAnswered : meaning.Kind → Bor (List ℕ) → Counts → ℕ → Bor (List ℕ) → Type 0
ReadAnswered kind text counts number part = Answered (rule_rows false kind text.now counts) number (PartAt text 0 [] part) (Unread kind text part)

-- Document 01, "The sheet", and what document 02, Q-2 and Q-7 add: what each line may say.
use Rattle.std.specs.Prelude.{true, List, [], ◌∷◌, ℕ, zero, suc, ◌*◌, ◌≤◌, length}
use Rattle.laws.specs.Text.{bytes}
use Rattle.meaning.specs.Limits.{fluent_limit, action_limit, text_limit, domain_limit, reading_limit, more_limit}
use Rattle.meaning.specs.Rule.{Kind, test_kind, job_kind}
use Rattle.meaning.specs.Refusal.{NamesLacking, OneLacking, BadLog, BadRule, BadNames, TooDeep, BadJob, Unbound}
use Rattle.theory.specs.declared.Counts.{Counts}
use Rattle.spelling.specs.Numeral.{numeral, word_width, hex8, log_text}
use Rattle.rule.specs.Outcome.{Spelled, With}
use Rattle.sheet_lines.specs.Limits.{newest, count_width, digit_width, step_width}
use Rattle.sheet_lines.specs.Masks.{Word, masks_text, row_width, MaskRow}
use Rattle.sheet_lines.specs.Line.{Form, ◌if◌}
use Rattle.sheet_lines.specs.declared.Version.{Version}

-- decimal digits; 3: "a count .. the version or *more* is not written as above or out of its range"
abbrev pub number_form : List ℕ → ℕ → ℕ → ℕ → Form
number_form key width low high =
    record {
      key = key;
      Value = ℕ;
      spell = numeral 10 width;
      width = width;
      InRange = λ n. (low ≤ n) × (n ≤ high);
      otherwise = 3;
      judges = [];
    }

-- `sheet=1` to `sheet=4`
abbrev pub version_form : Form
version_form = number_form (bytes "sheet=") digit_width 1 newest

-- `fluents=NN` (00 to 32)
abbrev pub fluents_form : Form
fluents_form = number_form (bytes "fluents=") count_width 0 fluent_limit

-- `actions=NN` (01 to 64)
abbrev pub actions_form : Form
actions_form = number_form (bytes "actions=") count_width 1 action_limit

-- Q-2: `domain=NN` (01 to 16); "3 for a bad domain"
abbrev pub domain_form : Form
domain_form = number_form (bytes "domain=") count_width 1 domain_limit

-- `start=` 8 hex digits; 4: "start .. names a fluent the theory lacks"
abbrev pub start_form : ℕ → Form
start_form fluents =
    record {
      key = bytes "start=";
      Value = ℕ;
      spell = hex8;
      width = word_width;
      InRange = Word;
      otherwise = 3;
      judges = (4 if NamesLacking fluents) ∷ [];
    }

-- `act=` the version's masks; 4: "or an action's mask names a fluent the theory lacks"
abbrev pub act_form : Version → ℕ → Form
act_form v fluents =
    record {
      key = bytes "act=";
      Value = List ℕ;
      spell = masks_text;
      width = row_width v.masks;
      InRange = MaskRow v.masks;
      otherwise = 3;
      judges = (4 if OneLacking fluents) ∷ [];
    }

-- `log=`; 5: "the log has an odd number of digits, a non-digit, more than 63 actions, or an action the theory lacks"
abbrev pub log_form : Version → ℕ → Form
log_form v actions =
    record {
      key = bytes "log=";
      Value = List ℕ;
      spell = log_text;
      width = step_width * v.log;
      InRange = λ log. BadLog v.log actions log → ⊥;
      otherwise = 5;
      judges = [];
    }

-- how a reading is written: `step` is number 0, `end` number 1
abbrev pub reading_text : ℕ → List ℕ
reading_text zero = bytes "step"
reading_text (suc n) = bytes "end"

-- Q-7: `now=step` or `now=end`; "any other value is 3"
abbrev pub now_form : Form
now_form =
    record {
      key = bytes "now=";
      Value = ℕ;
      spell = reading_text;
      width = length (reading_text 0);
      InRange = λ reading. reading ≤ reading_limit;
      otherwise = 3;
      judges = [];
    }

-- a rule; 6: "a rule is empty, over 255 bytes, or not exactly one rule of its kind", or it has "the new signs in sheet=1", whose domain is 0
abbrev pub rule_form : List ℕ → Kind → Counts → Form
rule_form key kind counts =
    record {
      key = key;
      Value = List ℕ;
      spell = λ text. text;
      width = text_limit;
      InRange = λ text. BadRule counts.domain kind text → ⊥;
      otherwise = 6;
      judges =
          (7 if (λ text. With (Spelled true kind text) (BadNames counts.domain counts.fluents counts.actions)))
          ∷ (8 if (λ text. With (Spelled true kind text) TooDeep))
          ∷ (9 if (λ text. With (Spelled true kind text) (BadJob kind)))
          ∷ (13 if (λ text. With (Spelled true kind text) Unbound))
          ∷ [];
    }

-- `ask=` a test
abbrev pub ask_form : Counts → Form
ask_form = rule_form (bytes "ask=") test_kind

-- `run=` a job
abbrev pub run_form : Counts → Form
run_form = rule_form (bytes "run=") job_kind

-- `more=` one digit 0 to 6
abbrev pub more_form : Form
more_form = number_form (bytes "more=") digit_width 0 more_limit

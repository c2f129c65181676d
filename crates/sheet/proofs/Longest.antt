-- "With 64 actions the longest sheet has 3,263 bytes", one of version 2 3,273, one of version 3 6,729, one of version 4 6,738: no sheet of a version whose lines are right is longer, so refusal 1 keeps no
-- such sheet out.
use mathlib.Core.Path.{ap, ◌∙◌, subst}
use mathlib.Core.Logic.{inl, inr}
use mathlib.Core.Bool.{Bool, true, false, cond}
use mathlib.Core.List.{List, [], ◌++◌}
use Prim.Native.Nat.{ℕ, zero, suc, ◌+◌, ◌*◌, ◌≤◌, ◌<◌}
use native.Mathlib.Decide.{dec_lt}
use native.Mathlib.Nat.{zero-mul, suc-mul, mul-le-mul_right}
use native.Mathlib.Omega.{arith}
use lib.ListN.{length, length-drop}
use Rattle.meaning.specs.Limits.{action_limit, text_limit}
use Rattle.meaning.specs.Rule.{Kind}
use Rattle.meaning.specs.Refusal.{BadRule}
use Rattle.meaning.proofs.Refusal.{not_first}
use Rattle.theory.specs.Subject.{setting_of, counts_of}
use Rattle.spelling.proofs.Numeral.{length_numeral}
use Rattle.spelling.proofs.LogText.{log_long}
use Rattle.sheet_lines.specs.Line.{Form, Says, line_width}
use Rattle.sheet_lines.specs.Masks.{row_width}
use Rattle.sheet_lines.specs.Versions.{version_meant, table_of}
use Rattle.sheet_lines.specs.Forms.{version_form, fluents_form, actions_form, domain_form, start_form, act_form, log_form, now_form, ask_form, run_form, more_form}
use Rattle.sheet.specs.Longest.{more_width, run_width, ask_width, now_width, log_width, acts_width, start_width, domain_width, actions_width, fluents_width, longest, sheet_limit}
use Rattle.sheet.specs.Lines.{Sheet, Lines, line, none, opened, line_if, and_log, and_reading, with_ask, with_run, from_more, from_run, from_ask, from_now, from_log, act_lines, below_acts, from_acts, from_start, from_fluents, lines_of_sheet, value_at, next_at, ReadAs}
use Rattle.sheet_lines.specs.declared.Version.{Version}
use Rattle.theory.specs.declared.Counts.{Counts}
use Rattle.sheet_lines.proofs.VersionRows.{of_each}
use Rattle.sheet_lines.proofs.Rows.{one_said}
use Rattle.sheet_lines.proofs.Forms.{number_clear}
use Rattle.sheet_lines.proofs.MaskRow.{masks_long}
use Rattle.sheet.proofs.LogSteps.{steps_few}

-- these lines take at most so many bytes
AtMost : Lines → ℕ → Type 0
AtMost lines n = (bytes : List ℕ) (at : ℕ) (sheet : Sheet) → ReadAs lines bytes at sheet → length bytes ≤ at + n

wider : (lines : Lines) (n m : ℕ) → n ≤ m → AtMost lines n → AtMost lines m
unfolding AtMost
wider lines n m l h bytes at sheet r = omega (arith, h bytes at sheet r)

at_end : (said : Sheet) → AtMost (none said) 0
unfolding AtMost ReadAs
at_end said bytes at sheet r = go (dec_lt at (length bytes))
  where
    go : Dec (at < length bytes) → length bytes ≤ at + 0
    go (yes l) = absurd (not_first r.0 (λ e. let long = length-drop at bytes in let none = ap length e in omega arith))
    go (no l) = omega arith

-- a value takes at most its form's width
abbrev Fits : Form → Type 0
Fits form = (said : form.Value) → form.InRange said → length (form.spell said) ≤ form.width

-- a line takes its key, its value and its LF
at_line :
    (form : Form) (next : form.Value → ℕ → Lines) (n : ℕ) → Fits form
    → ((said : form.Value) → form.InRange said → (at : ℕ) → AtMost (next said at) n) → AtMost (line form next) (line_width form + n)
unfolding AtMost ReadAs
at_line form next n short rest bytes at sheet r =
    let said = r.0 in
    let below = rest said r.1.in_range (value_at form at) bytes (next_at form at said) sheet r.3 in
    let value = short said r.1.in_range in
    omega arith

-- the forms, each by how its value is written
act_fits : (v : Version) (fluents : ℕ) → Fits (act_form v fluents)
act_fits v fluents row range = let same = masks_long row ∙ ap row_width range.long in omega arith

log_fits : (v : Version) (actions : ℕ) → Fits (log_form v actions)
log_fits v actions log good = omega (arith, log_long log, steps_few v.log actions log good)

rule_short : (domain : ℕ) (kind : Kind) (text : List ℕ) → (BadRule domain kind text → ⊥) → length text ≤ text_limit
rule_short domain kind text good = go (dec_lt text_limit (length text))
  where
    go : Dec (text_limit < length text) → length text ≤ text_limit
    go (yes l) = absurd (good (inr (inl l)))
    go (no l) = omega arith

-- the lines, from the last up
more_at_most : (s : Sheet) → AtMost (from_more s) more_width
more_at_most s =
    wider (from_more s) (line_width more_form + 0) more_width (omega arith)
    (at_line more_form _ 0 (λ n range. omega (arith, length_numeral 10 1 n)) λ more _ _. at_end _)

run_at_most : (s : Sheet) → AtMost (from_run s) run_width
run_at_most s =
    at_line (run_form (counts_of s.subject)) _ more_width (λ run good. rule_short _ _ run good) (λ run _ at. more_at_most (with_run s run at))

ask_at_most : (s : Sheet) → AtMost (from_ask s) ask_width
ask_at_most s =
    at_line (ask_form (counts_of s.subject)) _ run_width (λ ask good. rule_short _ _ ask good) (λ ask _ at. run_at_most (with_ask s ask at))

-- a line takes its width where there is one
if_at_most :
    (there : Bool) (form : Form) (other : form.Value) (next : form.Value → Lines) (n : ℕ) → Fits form → ((said : form.Value) → AtMost (next said) n)
    → AtMost (line_if there form other next) (cond there (line_width form) 0 + n)
if_at_most true form other next n short rest = at_line form _ n short (λ said _ _. rest said)
if_at_most false form other next n short rest = wider (next other) n (0 + n) (omega arith) (rest other)

now_fits : Fits now_form
now_fits zero range = omega arith
now_fits (suc n) range = omega arith

now_at_most : (v : Version) (s : Sheet) → AtMost (from_now v s) (now_width v)
now_at_most v s = if_at_most v.reading now_form 0 _ ask_width now_fits (λ reading. ask_at_most (and_reading s reading))

log_at_most : (v : Version) (s : Sheet) → AtMost (from_log v s) (log_width v)
log_at_most v s =
    let actions = (counts_of s.subject).actions in
    at_line (log_form v actions) _ (now_width v) (log_fits v actions) (λ log _ at. now_at_most v (and_log s log))

acts_at_most :
    (v : Version) (fluents actions : ℕ) (table : List ℕ) (next : List ℕ → Lines) (n : ℕ) → ((masks : List ℕ) → AtMost (next masks) n)
    → AtMost (act_lines v fluents actions table next) (actions * line_width (act_form v fluents) + n)
acts_at_most v fluents zero table next n rest =
    wider (next table) n (0 * line_width (act_form v fluents) + n) (omega (arith, zero-mul (line_width (act_form v fluents)))) (rest table)
acts_at_most v fluents (suc actions) table next n rest =
    let form = act_form v fluents in
    wider (act_lines v fluents (suc actions) table next) (line_width form + (actions * line_width form + n)) (suc actions * line_width form + n)
    (omega (arith, suc-mul actions (line_width form)))
    (at_line form (λ row at. act_lines v fluents actions (table ++ row) next) (actions * line_width form + n) (act_fits v fluents)
    (λ row range at. acts_at_most v fluents actions (table ++ row) next n rest))

start_at_most : (v : Version) (c : Counts) → c.actions ≤ action_limit → AtMost (from_start v c) (start_width v)
start_at_most v c few =
    let form = act_form v c.fluents in
    at_line (start_form c.fluents) _ (acts_width v) (λ n word. omega (arith, length_numeral 16 8 n)) λ start _ _.
    let s = setting_of c.fluents c.actions c.domain start 0 in
    wider (from_acts v s) (c.actions * line_width form + log_width v) (acts_width v) (omega (arith, mul-le-mul_right (line_width form) few))
    (acts_at_most v c.fluents c.actions [] (below_acts v s) (log_width v) (λ masks. log_at_most v (opened s (table_of v c.actions masks))))

head_at_most : (v : Version) → AtMost (from_fluents v) (fluents_width v)
head_at_most v =
    at_line fluents_form _ (actions_width v) (λ n range. omega (arith, length_numeral 10 2 n)) λ fluents _ _.
    at_line actions_form _ (domain_width v) (λ n range. omega (arith, length_numeral 10 2 n)) λ actions range _.
    if_at_most v.valued domain_form 0 _ (start_width v) (λ n range. omega (arith, length_numeral 10 2 n)) (λ domain. start_at_most v _ range.1)

-- a sheet is at most as long as the longest of its version
pub version_longest :
    (bytes : List ℕ) (sheet : Sheet) (number : ℕ) → Says version_form bytes 0 number → ReadAs lines_of_sheet bytes 0 sheet
    → length bytes ≤ longest (version_meant number)
unfolding AtMost ReadAs
version_longest bytes sheet number says r =
    let same = one_said version_form bytes 0 (number_clear [] 1 _ _ (omega arith)) r.0 number r.1 says in
    let below = head_at_most (version_meant r.0) bytes (next_at version_form 0 r.0) sheet r.3 in
    let long = length_numeral 10 1 r.0 in
    subst (λ (n : ℕ). length bytes ≤ longest (version_meant n)) same (omega (arith, below, long))

-- and none is longer than the limit of all
each_within : (number : ℕ) → longest (version_meant number) ≤ sheet_limit
each_within = of_each (λ v. longest v ≤ sheet_limit) (omega arith, (omega arith, (omega arith, (omega arith, tt))))

pub sheet_longest : (bytes : List ℕ) (sheet : Sheet) → ReadAs lines_of_sheet bytes 0 sheet → length bytes ≤ sheet_limit
unfolding ReadAs
sheet_longest bytes sheet r = omega (arith, version_longest bytes sheet r.0 r.1 r, each_within r.0)

-- Places on a sheet: a rule stands where its line says, and no fault is further down than a sheet has lines.
use mathlib.Core.Path.{◌≡◌, sym, ap, subst, ◌∙◌}
use mathlib.Core.Logic.{inl, inr}
use mathlib.Core.Bool.{Bool, true, false}
use mathlib.Core.List.{List, [], ◌∷◌, ◌++◌}
use Prim.Native.Nat.{ℕ, zero, suc, ◌+◌, ◌-◌, ◌≤◌, ◌<◌}
use native.Mathlib.Omega.{arith}
use lib.ListN.{length, take, drop}
use lib.Seq.{drop-drop, drop-append_seam, take-append_seam}
use Rattle.theory.specs.Subject.{setting_of}
use Rattle.theory.specs.declared.Setting.{Setting}
use Rattle.spelling.specs.Numeral.{lf}
use Rattle.spelling.specs.Scan.{stretch}
use Rattle.sheet_lines.specs.Line.{Line, Form}
use Rattle.sheet_lines.specs.Forms.{domain_form, now_form}
use Rattle.sheet_lines.specs.Versions.{version_meant, table_of}
use Rattle.sheet.specs.Lines.{Sheet, Lines, line, none, opened, line_if, and_log, and_reading, from_ask, act_lines, below_acts, from_log, from_acts, from_start, lines_of_sheet, ReadAs, FaultIn, SheetRefused, SheetSays}
use Rattle.sheet_lines.specs.declared.Version.{Version}
use Rattle.sheet.proofs.LineIf.{past_domain, past_now}

-- the value of a line is the stretch behind its key
stands : {key bytes : List ℕ} {at : ℕ} {value : List ℕ} → Line key bytes at value
    → stretch bytes (at + length key) (at + length key + length value) ≡ value
stands {key} {bytes} {at} {value} l =
    let n : at + length key + length value - (at + length key) ≡ length value = omega arith in
    let rest : drop (at + length key) bytes ≡ value ++ (lf ∷ l.after) =
    sym (drop-drop (length key) at bytes) ∙ ap (drop (length key)) l.opens ∙ drop-append_seam key (value ++ (lf ∷ l.after)) in
    ap (λ k. take k (drop (at + length key) bytes)) n ∙ ap (take (length value)) rest ∙ take-append_seam value (lf ∷ l.after)

-- behind the lines of the actions
record Behind (next : List ℕ → Lines) (bytes : List ℕ) (s : Sheet) : Type 0 where
  masks : List ℕ
  at : ℕ
  reads : ReadAs (next masks) bytes at s

behind :
    (v : Version) (fluents actions : ℕ) (table : List ℕ) (next : List ℕ → Lines) (bytes : List ℕ) (at : ℕ) (s : Sheet)
    → ReadAs (act_lines v fluents actions table next) bytes at s → Behind next bytes s
unfolding ReadAs
behind v fluents zero table next bytes at s reads = record { masks = table; at = at; reads = reads }
behind v fluents (suc actions) table next bytes at s reads = behind v fluents actions (table ++ reads.0) next bytes _ s reads.3

-- the two rules stand on the sheet where it says
pub record Standing (bytes : List ℕ) (s : Sheet) : Type 0 where
  pub ask : stretch bytes s.ask_at (s.ask_at + length s.ask) ≡ s.ask
  pub run : stretch bytes s.run_at (s.run_at + length s.run) ≡ s.run

last_standing :
    (v : Version) (setting : Setting) (masks bytes : List ℕ) (at : ℕ) (s : Sheet) → ReadAs (from_log v (opened setting masks)) bytes at s → Standing bytes s
unfolding ReadAs
last_standing v setting masks bytes at s log =
    let read = past_now v.reading (λ reading. from_ask (and_reading (and_log (opened setting masks) log.0) reading)) bytes _ s log.3 in
    let ask = read.reads in
    let run = ask.3 in
    let more = run.3 in
    subst (Standing bytes) (sym more.3.1) (record { ask = stands ask.1.line; run = stands run.1.line })

pub standing : (bytes : List ℕ) (s : Sheet) → SheetSays bytes s → Standing bytes s
unfolding ReadAs
standing bytes s says =
    let version = says.1 in
    let fluents = version.3 in
    let actions = fluents.3 in
    let v = version_meant version.0 in
    let valued =
    past_domain v.valued (λ domain. from_start v (record { fluents = fluents.0; actions = actions.0; domain = domain })) bytes _ s actions.3 in
    let start = valued.reads in
    let setting = setting_of fluents.0 actions.0 valued.said start.0 0 in
    let log = behind v fluents.0 actions.0 [] (below_acts v setting) bytes _ s start.3 in
    last_standing v setting (table_of v actions.0 log.masks) bytes log.at s log.reads

-- there are at most so many lines
abbrev Most : ℕ → Lines → Type 0
Most n (none s) = Unit {0}
Most zero (line form next) = ⊥
Most (suc n) (line form next) = (said : form.Value) → form.InRange said → (at : ℕ) → Most n (next said at)

more_lines : (lines : Lines) (m n : ℕ) → m ≤ n → Most m lines → Most n lines
more_lines (none s) m n le most = tt
more_lines (line form next) zero n le most = absurd most
more_lines (line form next) (suc m) zero le most = absurd (omega arith)
more_lines (line form next) (suc m) (suc n) le most = λ said range at. more_lines (next said at) m n (omega arith) (most said range at)

-- so no fault of theirs is further down
not_past : (lines : Lines) (n : ℕ) → Most n lines → (bytes : List ℕ) (at above number place : ℕ) → FaultIn lines bytes at above number place
    → place ≤ above + n
unfolding FaultIn
not_past (none s) n most bytes at above number place f = omega (arith, f.1)
not_past (line form next) zero most bytes at above number place f = absurd most
not_past (line form next) (suc n) most bytes at above number place (inl f) = omega (arith, f.1)
not_past (line form next) (suc n) most bytes at above number place (inr f) =
    omega (arith, not_past (next f.0 (at + length form.key)) n (most f.0 f.1.in_range _) bytes _ (above + 1) number place f.3)

acts_most :
    (v : Version) (fluents actions : ℕ) (table : List ℕ) (next : List ℕ → Lines) (n : ℕ) → ((t : List ℕ) → Most n (next t))
    → Most (actions + n) (act_lines v fluents actions table next)
acts_most v fluents zero table next n most = more_lines (next table) n (0 + n) (omega arith) (most table)
acts_most v fluents (suc actions) table next n most =
    more_lines (act_lines v fluents (suc actions) table next) (suc (actions + n)) (suc actions + n) (omega arith)
    (λ row range at. acts_most v fluents actions (table ++ row) next n most)

if_most :
    (there : Bool) (form : Form) (other : form.Value) (next : form.Value → Lines) (n : ℕ) → ((said : form.Value) → Most n (next said))
    → Most (suc n) (line_if there form other next)
if_most true form other next n most = λ said _ _. most said
if_most false form other next n most = more_lines (next other) n (suc n) (omega arith) (most other)

-- the log and those below it
last_most : (v : Version) (s : Sheet) → Most 5 (from_log v s)
last_most v s log _ _ =
    if_most v.reading now_form 0 (λ reading. from_ask (and_reading (and_log s log) reading)) 3 (λ reading ask _ _ run _ _ more _ _. tt)

-- the lines of at most as many actions as there may be, and those above and below them
sheet_most : Most 998 lines_of_sheet
sheet_most number _ _ fluents _ _ actions range _ =
    let v = version_meant number in
    if_most v.valued domain_form 0 (λ domain. from_start v (record { fluents = fluents; actions = actions; domain = domain })) 994
    (λ domain start _ _.
    let s = setting_of fluents actions domain start 0 in
    more_lines (from_acts v s) (actions + 5) 993 (omega (arith, range.1))
    (acts_most v fluents actions [] (below_acts v s) 5 (λ masks. last_most v (opened s (table_of v actions masks)))))

-- a place has at most three digits
pub place_small : (bytes : List ℕ) (number place : ℕ) → SheetRefused bytes number place → place < 1000
place_small bytes number place (inl f) = omega (arith, f.2)
place_small bytes number place (inr f) = omega (arith, not_past lines_of_sheet 998 sheet_most bytes 0 1 number place f.1)

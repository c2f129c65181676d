-- What reading a sheet finds is determined: lines have one fault or say one thing, and never both; two answers that the contract allows are equal.
use mathlib.Core.Path.{◌≡◌, sym, ap, ◌∙◌, subst}
use mathlib.Core.Logic.{inl, inr}
use mathlib.Core.Bool.{Bool, true, false}
use mathlib.Core.List.{List, [], ◌++◌}
use Prim.Native.Nat.{ℕ, zero, suc, ◌+◌}
use native.Mathlib.Omega.{arith}
use Rattle.refusal.proofs.Numbers.{one_number}
use Rattle.meaning.proofs.Refusal.{refused_unique, refused_not_accepted}
use Rattle.theory.specs.Subject.{counts_of, setting_of}
use Rattle.sheet.specs.Lines.{Sheet, Lines, line, none, opened, line_if, and_log, and_reading, from_ask, act_lines, below_acts, from_log, from_start, lines_of_sheet, value_at, next_at, ReadAs, FaultIn, SheetRefused, SheetSays}
use Rattle.sheet_lines.specs.Line.{Form}
use Rattle.sheet_lines.specs.Forms.{domain_form, now_form}
use Rattle.sheet_lines.specs.Versions.{version_meant, table_of}
use Rattle.sheet_lines.specs.declared.Version.{Version}
use Rattle.theory.specs.declared.Counts.{Counts}
use Rattle.sheet.specs.Answer.{parsed_of, fronted, SheetAnswered}
use Rattle.std.specs.Prelude.{Result, Ok, Err}
use Rattle.sheet.specs.declared.Parsed.{Parsed}
use Rattle.sheet_lines.specs.declared.Fault.{Fault}
use Rattle.sheet_lines.proofs.Rows.{Clear, one_said}
use Rattle.sheet_lines.proofs.Forms.{number_clear, start_clear, act_clear, log_clear, now_clear, rule_clear}

-- every line that can come is clear
abbrev AllClear : Lines → Type 0
AllClear (line form next) = Clear form × ((said : form.Value) → form.InRange said → (at : ℕ) → AllClear (next said at))
AllClear (none sheet) = Unit {0}

-- lines have one fault
one_fault :
    (lines : Lines) → AllClear lines → (bytes : List ℕ) (at above n n' p p' : ℕ) → FaultIn lines bytes at above n p
    → FaultIn lines bytes at above n' p' → (n ≡ n') × (p ≡ p')
unfolding FaultIn
one_fault (none sheet) clear bytes at above n n' p p' f g = (refused_unique f.0 g.0, f.1 ∙ sym g.1)
one_fault (line form next) clear bytes at above n n' p p' (inl f) (inl g) = (refused_unique f.0 g.0, f.1 ∙ sym g.1)
one_fault (line form next) clear bytes at above n n' p p' (inl f) (inr g) = absurd (refused_not_accepted f.0 g.2)
one_fault (line form next) clear bytes at above n n' p p' (inr f) (inl g) = absurd (refused_not_accepted g.0 f.2)
one_fault (line form next) clear bytes at above n n' p p' (inr f) (inr g) =
    let same = one_said form bytes at clear.0 g.0 f.0 g.1 f.1 in
    one_fault (next f.0 (value_at form at)) (clear.1 f.0 f.1.in_range (value_at form at)) bytes (next_at form at f.0) (above + 1) n n' p p' f.3
    (subst (λ x. FaultIn (next x (value_at form at)) bytes (next_at form at x) (above + 1) n' p') same g.3)

-- or say one thing
one_sheet :
    (lines : Lines) → AllClear lines → (bytes : List ℕ) (at : ℕ) (s t : Sheet) → ReadAs lines bytes at s → ReadAs lines bytes at t → s ≡ t
unfolding ReadAs
one_sheet (none sheet) clear bytes at s t f g = f.1 ∙ sym g.1
one_sheet (line form next) clear bytes at s t f g =
    let same = one_said form bytes at clear.0 g.0 f.0 g.1 f.1 in
    one_sheet (next f.0 (value_at form at)) (clear.1 f.0 f.1.in_range (value_at form at)) bytes (next_at form at f.0) s t f.3
    (subst (λ x. ReadAs (next x (value_at form at)) bytes (next_at form at x) t) same g.3)

-- and never both
not_both :
    (lines : Lines) → AllClear lines → (bytes : List ℕ) (at above n p : ℕ) (s : Sheet) → FaultIn lines bytes at above n p
    → ReadAs lines bytes at s → ⊥
unfolding FaultIn ReadAs
not_both (none sheet) clear bytes at above n p s f g = refused_not_accepted f.0 g.0
not_both (line form next) clear bytes at above n p s (inl f) g = refused_not_accepted f.0 g.2
not_both (line form next) clear bytes at above n p s (inr f) g =
    let same = one_said form bytes at clear.0 g.0 f.0 g.1 f.1 in
    not_both (next f.0 (value_at form at)) (clear.1 f.0 f.1.in_range (value_at form at)) bytes (next_at form at f.0) (above + 1) n p s f.3
    (subst (λ x. ReadAs (next x (value_at form at)) bytes (next_at form at x) s) same g.3)

-- the lines of a sheet are clear
acts_clear :
    (v : Version) (fluents actions : ℕ) (table : List ℕ) (next : List ℕ → Lines) → ((t : List ℕ) → AllClear (next t))
    → AllClear (act_lines v fluents actions table next)
acts_clear v fluents zero table next clear = clear table
acts_clear v fluents (suc actions) table next clear =
    (act_clear v fluents, λ row range at. acts_clear v fluents actions (table ++ row) next clear)

if_clear :
    (there : Bool) (form : Form) (other : form.Value) (next : form.Value → Lines) → Clear form → ((said : form.Value) → AllClear (next said))
    → AllClear (line_if there form other next)
if_clear true form other next clear below = (clear, λ said _ _. below said)
if_clear false form other next clear below = below other

ask_clear : (s : Sheet) → AllClear (from_ask s)
ask_clear s = (
  rule_clear [] _ (counts_of s.subject),
  λ ask _ _. (rule_clear [] _ (counts_of s.subject), λ run _ _. (number_clear [] 1 _ _ (omega arith), λ more _ _. tt)),
)

last_clear : (v : Version) (s : Sheet) → AllClear (from_log v s)
last_clear v s = (
  log_clear v (counts_of s.subject).actions,
  λ log _ _.
      if_clear v.reading now_form 0 (λ reading. from_ask (and_reading (and_log s log) reading)) now_clear
      (λ reading. ask_clear (and_reading (and_log s log) reading)),
)

start_lines_clear : (v : Version) (c : Counts) → AllClear (from_start v c)
start_lines_clear v c = (
  start_clear c.fluents,
  λ start _ _.
      let s = setting_of c.fluents c.actions c.domain start 0 in
      acts_clear v c.fluents c.actions [] (below_acts v s) (λ masks. last_clear v (opened s (table_of v c.actions masks))),
)

sheet_clear : AllClear lines_of_sheet
sheet_clear = (
  number_clear [] 1 _ _ (omega arith),
  λ number _ _. (
    number_clear [] 2 _ _ (omega arith),
    λ fluents _ _. (
      number_clear [] 2 _ _ (omega arith),
      λ actions _ _.
          let v = version_meant number in
          let counts : ℕ → Counts = λ domain. record { fluents = fluents; actions = actions; domain = domain } in
          if_clear v.valued domain_form 0 (λ domain. from_start v (counts domain)) (number_clear [] 2 _ _ (omega arith)) (λ domain. start_lines_clear v (counts domain)),
    ),
  ),
)

-- A sheet has one refusal, with one number and one place, or says one thing, and never both.
pub one_refusal : (bytes : List ℕ) (n n' p p' : ℕ) → SheetRefused bytes n p → SheetRefused bytes n' p' → (n ≡ n') × (p ≡ p')
one_refusal bytes n n' p p' (inl f) (inl g) = (f.1 ∙ sym g.1, f.2 ∙ sym g.2)
one_refusal bytes n n' p p' (inl f) (inr g) = absurd (omega (arith, f.0, g.0))
one_refusal bytes n n' p p' (inr f) (inl g) = absurd (omega (arith, f.0, g.0))
one_refusal bytes n n' p p' (inr f) (inr g) = one_fault lines_of_sheet sheet_clear bytes 0 1 n n' p p' f.1 g.1

pub one_saying : (bytes : List ℕ) (s t : Sheet) → SheetSays bytes s → SheetSays bytes t → s ≡ t
one_saying bytes s t f g = one_sheet lines_of_sheet sheet_clear bytes 0 s t f.1 g.1

pub refused_or_says : (bytes : List ℕ) (n p : ℕ) (s : Sheet) → SheetRefused bytes n p → SheetSays bytes s → ⊥
refused_or_says bytes n p s (inl f) g = omega (arith, f.0, g.0)
refused_or_says bytes n p s (inr f) g = not_both lines_of_sheet sheet_clear bytes 0 1 n p s f.1 g.1

-- Two outcomes that the contract of `read_sheet` allows are equal: the answer and the final content of both lent tables.
pub read_sheet_determined :
    (bytes masks log : List ℕ) (r r' : Result Parsed Fault) (m m' l l' : List ℕ) → SheetAnswered bytes masks log r m l
    → SheetAnswered bytes masks log r' m' l' → (r ≡ r') × (m ≡ m') × (l ≡ l')
read_sheet_determined bytes masks log (Err f) (Err g) m m' l l' x y =
    let same = one_refusal bytes _ _ _ _ x.refused y.refused in
    let why = one_number f.refusal g.refusal same.0 in
    (λ i. Err (record { refusal = why i; line = same.1 i }), x.kept ∙ sym y.kept, x.kept_log ∙ sym y.kept_log)
read_sheet_determined bytes masks log (Err f) (Ok p) m m' l l' x y = absurd (refused_or_says bytes _ _ _ x.refused y.says)
read_sheet_determined bytes masks log (Ok p) (Err f) m m' l l' x y = absurd (refused_or_says bytes _ _ _ y.refused x.says)
read_sheet_determined bytes masks log (Ok p) (Ok q) m m' l l' x y =
    let same = one_saying bytes x.sheet y.sheet x.says y.says in (
      ap Ok (x.told ∙ ap parsed_of same ∙ sym y.told),
      x.filled ∙ ap (λ s. fronted s.subject.masks masks) same ∙ sym y.filled,
      x.logged ∙ ap (λ s. fronted s.subject.log log) same ∙ sym y.logged,
    )

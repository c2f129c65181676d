-- Laws of reading lines from the top: an accepted line leads on to the lines below it, and a refused one is the fault of all.
use mathlib.Core.Path.{◌≡◌, refl, sym, ap, subst, subst₂}
use mathlib.Core.Logic.{inl, inr}
use mathlib.Core.Bool.{Bool, true, false}
use mathlib.Core.List.{List}
use Prim.Native.Nat.{ℕ, ◌+◌, ◌≤◌, ◌<◌}
use native.Mathlib.Omega.{arith}
use lib.ListN.{length, length-drop, drop_of_length-le}
use Rattle.std.specs.Prelude.{Ok, Err}
use Rattle.refusal.specs.Number.{number_of}
use Rattle.meaning.specs.Refusal.{Refused}
use Rattle.meaning.proofs.Refusal.{here, passes, accepts}
use Rattle.sheet_lines.specs.Line.{Form, line_rows}
use Rattle.sheet.specs.Lines.{Sheet, Lines, line, none, line_if, value_at, next_at, ReadAs, FaultIn}
use Rattle.sheet_lines.specs.Found.{Accepts, Below}
use Rattle.sheet.specs.Onward.{Onward}
use Rattle.sheet.specs.Sections.{ReadIf}
use Rattle.sheet_lines.specs.declared.Cursor.{Cursor}
use Rattle.sheet_lines.specs.declared.Fault.{Fault}
use Rattle.sheet_lines.proofs.Rows.{one_value}
use Rattle.spelling.proofs.Stretch.{length_stretch}

pub stays : (whole : Lines) (bytes : List ℕ) (at place : ℕ) → Onward whole bytes at place whole at place
stays whole bytes at place = record { faults = λ n p h. h; reads = λ s h. h }

pub goes_on :
    {whole middle rest : Lines} {bytes : List ℕ} {at line at' line' at'' line'' : ℕ} → Onward whole bytes at line middle at' line'
    → Onward middle bytes at' line' rest at'' line'' → Onward whole bytes at line rest at'' line''
goes_on a b = record { faults = λ n p h. a.faults n p (b.faults n p h); reads = λ s h. a.reads s (b.reads s h) }

module _ (form : Form) (bytes : List ℕ) (at number : ℕ) (next : form.Value → ℕ → Lines) where
  -- the cursor of a line that says something ends where this is written to its end
  ends_at :
      (said : form.Value) (c : Cursor) → Accepts form bytes at number said c → c.end + 1 ≡ next_at form at said
  ends_at said c a =
      let s = a.stands in
      let same = ap length (one_value s.holds a.says.line) in
      let long = length_stretch bytes c.start c.end (omega (arith, s.within)) in
      omega (arith, s.starts, s.onward, same, long)

  pub past_line :
      (said : form.Value) (c : Cursor) → Accepts form bytes at number said c
      → Onward (line form next) bytes at number (next said (value_at form at)) (c.end + 1) (number + 1)
  unfolding FaultIn ReadAs
  past_line said c a =
      let e = ends_at said c a in
      record {
        faults = λ n p h.
            inr (said, a.says, a.sound, subst (λ (k : ℕ). FaultIn (next said (value_at form at)) bytes k (number + 1) n p) e h);
        reads = λ s h. (said, a.says, a.sound, subst (λ (k : ℕ). ReadAs (next said (value_at form at)) bytes k s) e h);
      }

  -- the same by what the line's cursor says
  pub past_cursor :
      (said : form.Value) (c : Cursor) → Accepts form bytes at number said c
      → Onward (line form next) bytes at number (next said c.start) (c.end + 1) (c.line + 1)
  past_cursor said c a =
      subst₂ (λ (k n : ℕ). Onward (line form next) bytes at number (next said k) (c.end + 1) (n + 1)) (sym a.stands.starts) (sym a.stands.counted)
      (past_line said c a)

  pub at_line :
      {n p : ℕ} → Refused (line_rows form bytes at) n × (p ≡ number) → FaultIn (line form next) bytes at number n p
  unfolding FaultIn
  at_line r = inl r

-- nothing follows the last line, or bytes do
pub all_read : (bytes : List ℕ) (at : ℕ) (sheet : Sheet) → length bytes ≤ at → ReadAs (none sheet) bytes at sheet
unfolding ReadAs
all_read bytes at sheet l = (passes (λ more. more (drop_of_length-le bytes l)) accepts, refl)

pub bytes_follow : (bytes : List ℕ) (at place : ℕ) (sheet : Sheet) → at < length bytes → FaultIn (none sheet) bytes at place 2 place
unfolding FaultIn
bytes_follow bytes at place sheet l = (here (λ e. let long = length-drop at bytes in let none = ap length e in omega arith), refl)

-- Lines were read down to this one: accepted, it leads on to those below it, and refused, it is the fault of all.
pub next_line :
    {whole : Lines} {bytes : List ℕ} {at number at' number' : ℕ} (form : Form) (next : form.Value → ℕ → Lines) (said : form.Value) (c : Cursor)
    → Onward whole bytes at number (line form next) at' number' → Accepts form bytes at' number' said c
    → Onward whole bytes at number (next said c.start) (c.end + 1) (c.line + 1)
next_line {bytes = bytes} {at' = at'} {number' = number'} form next said c on read = goes_on on (past_cursor form bytes at' number' next said c read)

pub bad_line :
    {whole : Lines} {bytes : List ℕ} {at number at' number' n p : ℕ} (form : Form) (next : form.Value → ℕ → Lines)
    → Onward whole bytes at number (line form next) at' number' → Refused (line_rows form bytes at') n × (p ≡ number') → FaultIn whole bytes at number n p
bad_line {bytes = bytes} {at' = at'} {number' = number'} {n = n} {p = p} form next on r = on.faults n p (at_line form bytes at' number' next r)

-- the same of a line that the version may lack
pub next_if :
    {whole : Lines} {bytes : List ℕ} {at number : ℕ} (there : Bool) (form : Form) (next : form.Value → Lines) (said : Cursor → form.Value) (above c : Cursor)
    → Onward whole bytes at number (line_if there form (said (record above { number = 0 })) next) (above.end + 1) (above.line + 1)
    → ReadIf there form bytes above said (Ok c) → Onward whole bytes at number (next (said c)) (c.end + 1) (c.line + 1)
next_if true form next said above c on read = next_line form (λ v at. next v) (said c) c on read.0
next_if {whole} {bytes} {at} {number} false form next said above c on read =
    let same : record above { number = 0 } ≡ c = cc in
    subst (λ (k : Cursor). Onward whole bytes at number (next (said k)) (k.end + 1) (k.line + 1)) same on

pub bad_if :
    {whole : Lines} {bytes : List ℕ} {at number : ℕ} (there : Bool) (form : Form) (other : form.Value) (next : form.Value → Lines) (said : Cursor → form.Value)
    (above : Cursor) (f : Fault) → Onward whole bytes at number (line_if there form other next) (above.end + 1) (above.line + 1)
    → ReadIf there form bytes above said (Err f) → FaultIn whole bytes at number (number_of f.refusal) f.line
bad_if true form other next said above f on read = bad_line form (λ v at. next v) on read
bad_if false form other next said above f on read = cc

pub below_if :
    (there : Bool) (form : Form) (bytes : List ℕ) (said : Cursor → form.Value) (above c : Cursor) → Below bytes above → ReadIf there form bytes above said (Ok c) → Below bytes c
below_if true form bytes said above c below read = read.1
below_if false form bytes said above c below read =
    let same : record above { number = 0 } ≡ c = cc in
    subst (Below bytes) same (record { within = below.within; early = below.early })

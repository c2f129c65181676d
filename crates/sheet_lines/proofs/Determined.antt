-- What reading a line finds is determined: two answers that the contract of a function allows are equal.
use mathlib.Core.Path.{◌≡◌, sym, ap, ap₂, ◌∙◌}
use mathlib.Core.List.{List}
use Prim.Native.Nat.{ℕ, ◌+◌, ◌<◌, ◌^◌}
use native.Mathlib.Omega.{arith}
use lib.ListN.{length}
use denote.Ref.{Bor}
use Rattle.refusal.proofs.Numbers.{one_number}
use Rattle.refusal.specs.Number.{number_of}
use Rattle.meaning.specs.Rule.{Kind}
use Rattle.meaning.proofs.Refusal.{refused_unique, refused_not_accepted}
use Rattle.theory.specs.declared.Counts.{Counts}
use Rattle.rule.specs.Outcome.{PartAt}
use Rattle.spelling.specs.Scan.{stretch}
use Rattle.spelling.proofs.Stretch.{length_stretch}
use Rattle.sheet_lines.specs.Line.{Form}
use Rattle.sheet_lines.specs.Forms.{number_form, start_form, now_form, rule_form}
use Rattle.sheet_lines.specs.Found.{CursorAt, LineFound, Unnumbered, Accepts, LineRead, ReadBelow}
use Rattle.sheet_lines.specs.declared.Cursor.{Cursor}
use Rattle.sheet_lines.specs.declared.Fault.{Fault}
use Rattle.std.specs.Prelude.{Result, Ok, Err}
use Rattle.sheet_lines.proofs.Rows.{one_value, one_said}
use Rattle.sheet_lines.proofs.Forms.{number_clear, start_clear, now_clear}

same_fault : (f g : Fault) → number_of f.refusal ≡ number_of g.refusal → f.line ≡ g.line → f ≡ g
same_fault f g n l = let why = one_number f.refusal g.refusal n in λ i. record { refusal = why i; line = l i }

-- two cursors of the line with this key at this place that have one number are one
same_cursor :
    {key bytes : List ℕ} {at line : ℕ} (c d : Cursor) → CursorAt key bytes at line c → CursorAt key bytes at line d → c.number ≡ d.number → c ≡ d
same_cursor {key} {bytes} c d s t n =
    let start : c.start ≡ d.start = s.starts ∙ sym t.starts in
    let long = length_stretch bytes c.start c.end (omega (arith, s.within)) in
    let long' = length_stretch bytes d.start d.end (omega (arith, t.within)) in
    let same = ap length (one_value s.holds t.holds) in
    let end : c.end ≡ d.end = omega (arith, s.onward, t.onward) in
    let line = s.counted ∙ sym t.counted in
    λ i. record { line = line i; start = start i; end = end i; number = n i }

-- of `line_at`
pub line_at_determined :
    (key bytes : List ℕ) (at line : ℕ) (r r' : Result Cursor Fault) → LineFound key bytes at line r × Unnumbered r → LineFound key bytes at line r' × Unnumbered r' → r ≡ r'
line_at_determined key bytes at line (Err f) (Err g) x y = ap Err (same_fault f g (x.0.0 ∙ sym y.0.0) (x.0.1 ∙ sym y.0.1))
line_at_determined key bytes at line (Err f) (Ok c) x y = absurd (x.0.2 _ y.0.holds)
line_at_determined key bytes at line (Ok c) (Err f) x y = absurd (y.0.2 _ x.0.holds)
line_at_determined key bytes at line (Ok c) (Ok d) x y = ap Ok (same_cursor c d x.0 y.0 (x.1 ∙ sym y.1))

module _ (form : Form) (bytes : List ℕ) (at line : ℕ) where
  -- a line is refused for one reason or accepted with one cursor, where the number of an accepted one is known
  by_number : (said said' : Cursor → form.Value)
      → ((c d : Cursor) → Accepts form bytes at line (said c) c → Accepts form bytes at line (said' d) d → c.number ≡ d.number)
      → (r r' : Result Cursor Fault) → LineRead form bytes at line said r → LineRead form bytes at line said' r' → r ≡ r'
  by_number said said' known (Err f) (Err g) x y = ap Err (same_fault f g (refused_unique x.0 y.0) (x.1 ∙ sym y.1))
  by_number said said' known (Err f) (Ok c) x y = absurd (refused_not_accepted x.0 y.sound)
  by_number said said' known (Ok c) (Err f) x y = absurd (refused_not_accepted y.0 x.sound)
  by_number said said' known (Ok c) (Ok d) x y = ap Ok (same_cursor c d x.stands y.stands (known c d x y))

-- of `number_line`, with the widths and ranges that it asks for
pub number_line_determined :
    (key : List ℕ) (width low high : ℕ) → high < 10 ^ width → (bytes : List ℕ) (at line : ℕ) (r r' : Result Cursor Fault)
    → LineRead (number_form key width low high) bytes at line (λ c. c.number) r → LineRead (number_form key width low high) bytes at line (λ c. c.number) r' → r ≡ r'
number_line_determined key width low high room bytes at line =
    let form = number_form key width low high in
    by_number form bytes at line (λ c. c.number) (λ c. c.number)
    (λ c d x y. one_said form bytes at (number_clear key width low high room) c.number d.number x.says y.says)

-- of `start_line`
pub start_line_determined :
    (fluents : ℕ) (bytes : List ℕ) (at line : ℕ) (r r' : Result Cursor Fault) → LineRead (start_form fluents) bytes at line (λ c. c.number) r
    → LineRead (start_form fluents) bytes at line (λ c. c.number) r' → r ≡ r'
start_line_determined fluents bytes at line =
    by_number (start_form fluents) bytes at line (λ c. c.number) (λ c. c.number)
    (λ c d x y. one_said (start_form fluents) bytes at (start_clear fluents) c.number d.number x.says y.says)

-- what is read of the line below another is what is read of a line
as_line : (form : Form) (bytes : List ℕ) (above : Cursor) (said : Cursor → form.Value) (r : Result Cursor Fault) → ReadBelow form bytes above said r
    → LineRead form bytes (above.end + 1) (above.line + 1) said r
as_line form bytes above said (Err f) x = x
as_line form bytes above said (Ok c) x = x.0

-- of `number_below`
pub number_below_determined :
    (key : List ℕ) (width low high : ℕ) → high < 10 ^ width → (bytes : List ℕ) (above : Cursor) (r r' : Result Cursor Fault)
    → ReadBelow (number_form key width low high) bytes above (λ c. c.number) r → ReadBelow (number_form key width low high) bytes above (λ c. c.number) r' → r ≡ r'
number_below_determined key width low high room bytes above r r' x y =
    let form = number_form key width low high in
    number_line_determined key width low high room bytes (above.end + 1) (above.line + 1) r r' (as_line form bytes above (λ c. c.number) r x)
    (as_line form bytes above (λ c. c.number) r' y)

-- of `now_below`
pub now_below_determined :
    (bytes : List ℕ) (above : Cursor) (r r' : Result Cursor Fault) → ReadBelow now_form bytes above (λ c. c.number) r → ReadBelow now_form bytes above (λ c. c.number) r' → r ≡ r'
now_below_determined bytes above r r' x y =
    by_number now_form bytes (above.end + 1) (above.line + 1) (λ c. c.number) (λ c. c.number)
    (λ c d a b. one_said now_form bytes (above.end + 1) now_clear c.number d.number a.says b.says)
    r r' (as_line now_form bytes above (λ c. c.number) r x) (as_line now_form bytes above (λ c. c.number) r' y)

-- of `rule_below`, whose cursor says no number
pub rule_below_determined :
    (key : List ℕ) (kind : Kind) (counts : Counts) (bytes : List ℕ) (above : Cursor) (r r' : Result Cursor Fault)
    → ReadBelow (rule_form key kind counts) bytes above (λ c. stretch bytes c.start c.end) r × Unnumbered r
    → ReadBelow (rule_form key kind counts) bytes above (λ c. stretch bytes c.start c.end) r' × Unnumbered r' → r ≡ r'
rule_below_determined key kind counts bytes above (Err f) (Err g) x y =
    ap Err (same_fault f g (refused_unique x.0.0 y.0.0) (x.0.1 ∙ sym y.0.1))
rule_below_determined key kind counts bytes above (Err f) (Ok c) x y = absurd (refused_not_accepted x.0.0 y.0.0.sound)
rule_below_determined key kind counts bytes above (Ok c) (Err f) x y = absurd (refused_not_accepted y.0.0 x.0.0.sound)
rule_below_determined key kind counts bytes above (Ok c) (Ok d) x y = ap Ok (same_cursor c d x.0.0.stands y.0.0.stands (x.1 ∙ sym y.1))

-- And of `part`: two parts are the same stretch of memory with the same bytes.
pub part_determined :
    (sheet : Bor (List ℕ)) (start : ℕ) (held : List ℕ) (part part' : Bor (List ℕ)) → PartAt sheet start held part → PartAt sheet start held part'
    → (part.ref_ptr ≡ part'.ref_ptr) × (part.now ≡ part'.now)
part_determined sheet start held part part' p q =
    (ap₂ (λ (b o : ℕ). (b, o)) (p.block ∙ sym q.block) (p.offset ∙ sym q.offset), p.bytes ∙ sym q.bytes)

-- From a line that was found to what reading it answers: passed on where there is none, refused where its value is not one that the form has, accepted
-- where it is. Knows no form.
use mathlib.Core.Path.{◌≡◌, subst}
use mathlib.Core.List.{List}
use Rattle.std.specs.Prelude.{Option, None, Some, Err}
use Rattle.std.specs.Option.{ok_or}
use Prim.Native.Nat.{ℕ}
use Rattle.meaning.specs.Refusal.{Refused}
use Rattle.sheet_lines.specs.Line.{Line, Form, Says, line_rows}
use Rattle.spelling.specs.Scan.{stretch}
use Rattle.sheet_lines.specs.Found.{CursorAt, Accepts}
use Rattle.sheet_lines.specs.declared.Cursor.{Cursor}
use Rattle.sheet_lines.proofs.Rows.{Clear, Clean, miswritten, right}

-- the error of `ok_or` is the one that it was given
pub given : {A E : Type 0} (o : Option A) (bad f : E) → Err f ≡ ok_or o bad → bad ≡ f
given None bad f e = cc
given (Some x) bad f e = cc

-- the cursor with what its line says
pub noted : {key bytes : List ℕ} {at line : ℕ} {c : Cursor} (n : ℕ) → CursorAt key bytes at line c → CursorAt key bytes at line (record c { number = n })
noted n s = record { counted = s.counted; starts = s.starts; onward = s.onward; within = s.within; holds = s.holds }

module _ (form : Form) (bytes : List ℕ) (at line : ℕ) where
  pub unsaid :
      {c : Cursor} → CursorAt form.key bytes at line c
      → ((said : form.Value) → form.InRange said → stretch bytes c.start c.end ≡ form.spell said → ⊥)
      → Refused (line_rows form bytes at) form.otherwise
  unsaid {c} s none = miswritten form bytes at (stretch bytes c.start c.end) s.holds none

  pub says :
      {c : Cursor} → CursorAt form.key bytes at line c → (said : form.Value) → form.InRange said
      → stretch bytes c.start c.end ≡ form.spell said → Says form bytes at said
  says s said range e = record { line = subst (Line form.key bytes at) e s.holds; in_range = range }

  pub accepted :
      Clear form → {c : Cursor} → CursorAt form.key bytes at line c → (said : form.Value) → form.InRange said
      → stretch bytes c.start c.end ≡ form.spell said → Clean form.judges said → Accepts form bytes at line said c
  accepted clear s said range e clean =
      let it = says s said range e in
      record { stands = s; says = it; sound = right form bytes at clear said it clean }

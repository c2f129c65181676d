-- Laws of the cursor below which reading goes on.
use mathlib.Core.List.{List}
use Prim.Native.Nat.{ℕ, ◌+◌, ◌≤◌}
use native.Mathlib.Omega.{arith}
use lib.ListN.{length}
use Rattle.sheet_lines.specs.Line.{Form}
use Rattle.sheet_lines.specs.Found.{Accepts, LineRead, Below, ReadBelow}
use Rattle.sheet_lines.specs.declared.Cursor.{Cursor}
use Rattle.sheet_lines.specs.declared.Fault.{Fault}
use Rattle.std.specs.Prelude.{Result, Ok, Err}

module _ (form : Form) (bytes : List ℕ) where
  -- reading goes on below an accepted line, where it is not further down than its place
  pub below_line :
      (at number : ℕ) (said : form.Value) (c : Cursor) → Accepts form bytes at number said c → number ≤ at + length form.key → Below bytes c
  below_line at number said c a early =
      let s = a.stands in
      record { within = s.within; early = omega (arith, s.counted, s.starts, s.onward, early) }

  -- so a line that is read below another is gone on from
  pub read_below :
      (above : Cursor) (said : Cursor → form.Value) → Below bytes above → (answer : Result Cursor Fault)
      → LineRead form bytes (above.end + 1) (above.line + 1) said answer → ReadBelow form bytes above said answer
  read_below above said b (Err f) r = r
  read_below above said b (Ok c) r = (r, below_line (above.end + 1) (above.line + 1) (said c) c r (omega (arith, b.early)))

-- The lines that a version may lack, that of the domain and that of the reading: what is read behind them.
use mathlib.Core.Path.{◌≡◌}
use mathlib.Core.Bool.{Bool, true, false, true≢false}
use mathlib.Core.List.{List}
use Prim.Native.Nat.{ℕ, ◌≤◌}
use native.Mathlib.Omega.{arith}
use Rattle.meaning.specs.Limits.{domain_limit, reading_limit}
use Rattle.sheet_lines.specs.Line.{Form}
use Rattle.sheet_lines.specs.Forms.{domain_form, now_form}
use Rattle.sheet.specs.Lines.{Sheet, Lines, line_if, domain_then, now_then, ReadAs}

-- this is said, which is good, and the lines behind are those for it
pub record Passed {A : Type 0} (Good : A → Type 0) (next : A → Lines) (bytes : List ℕ) (sheet : Sheet) : Type 0 where
  pub said : A
  pub good : Good said
  pub at : ℕ
  pub reads : ReadAs (next said) bytes at sheet

past :
    (there : Bool) (form : Form) (other : form.Value) (Good : form.Value → Type 0) → Good other → ((said : form.Value) → form.InRange said → Good said)
    → (next : form.Value → Lines) (bytes : List ℕ) (at : ℕ) (sheet : Sheet) → ReadAs (line_if there form other next) bytes at sheet → Passed Good next bytes sheet
unfolding ReadAs
past true form other Good plain ranged next bytes at sheet r = record { said = r.0; good = ranged r.0 r.1.in_range; at = _; reads = r.3 }
past false form other Good plain ranged next bytes at sheet r = record { said = other; good = plain; at = at; reads = r }

pub past_domain :
    (valued : Bool) (next : ℕ → Lines) (bytes : List ℕ) (at : ℕ) (sheet : Sheet) → ReadAs (domain_then valued next) bytes at sheet
    → Passed (λ domain. domain ≤ domain_limit) next bytes sheet
past_domain valued = past valued domain_form 0 (λ domain. domain ≤ domain_limit) (omega arith) (λ domain range. range.1)

pub past_now :
    (reading : Bool) (next : ℕ → Lines) (bytes : List ℕ) (at : ℕ) (sheet : Sheet) → ReadAs (now_then reading next) bytes at sheet
    → Passed (λ number. number ≤ reading_limit) next bytes sheet
past_now reading = past reading now_form 0 (λ number. number ≤ reading_limit) (omega arith) (λ number range. range)

-- a version without the reading's line says the first reading
pub no_now :
    (reading : Bool) (next : ℕ → Lines) (bytes : List ℕ) (at : ℕ) (sheet : Sheet) → reading ≡ false → ReadAs (now_then reading next) bytes at sheet → ReadAs (next 0) bytes at sheet
no_now true next bytes at sheet e r = absurd (true≢false e)
no_now false next bytes at sheet e r = r

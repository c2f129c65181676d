-- What the checks of a call leave, in the forms that the functions of other crates ask for.
use mathlib.Core.Path.{◌≡◌}
use mathlib.Core.List.{List, [], ◌∷◌, ◌++◌}
use Prim.Native.Nat.{ℕ, ◌<◌}
use native.Mathlib.Decide.{dec_lt}
use native.Mathlib.Omega.{arith}
use lib.ListN.{length, length-append, get_or-append}
use lib.Seq.{get_or-append_seam}
use Rattle.meaning.specs.Limits.{log_limit}
use Rattle.theory.specs.Subject.{Readable}
use Rattle.finish.specs.Sound.{Logged}

pub readable : (actions : ℕ) (masks log : List ℕ) → Logged actions masks log → Readable masks log
readable actions masks log l = record {
  short = l.short;
  known = λ k h. omega (arith, l.known k h);
  covered = λ k h. omega (arith, l.known k h);
}

-- one action more
pub logged_more : (actions : ℕ) (masks log : List ℕ) (a : ℕ) → Logged actions masks log → length log < log_limit → a < actions
    → Logged actions masks (log ++ a ∷ [])
logged_more actions masks log a l room known = record {
  table = l.table;
  short = simp length-append (omega arith);
  known = λ k h. elim (dec_lt k (length log)) [
    | yes i ↦ rw (get_or-append log (a ∷ []) 0 k i) (l.known k i)
    | no i ↦ let e : k ≡ length log = omega (arith, simp length-append at h) in rw (e, get_or-append_seam) known
  ];
}

-- "Append to a record of log l equals the record of l ++ [a]", refusals too; and so, by the appends that made it, "the tally equals the one made afresh from the log".
use mathlib.Core.Path.{◌≡◌, refl, subst}
use mathlib.Core.Logic.{◌⊎◌, ◌↔◌, inl, inr, ⊎_elim}
use mathlib.Core.List.{List, [], ◌∷◌, ◌++◌}
use Prim.Native.Nat.{ℕ, suc, ◌≤◌}
use native.Mathlib.Decide.{dec_lt}
use native.Mathlib.Omega.{arith}
use lib.ListN.{length, get_or, length-append, get_or-append}
use lib.Seq.{get_or-append_seam}
use Rattle.meaning.specs.Limits.{log_limit}
use Rattle.meaning.specs.Refusal.{Accepted, Refused, BadLog}
use Rattle.meaning.proofs.Refusal.{passes, accepts, not_first, refused_second, refused_behind, accepted_both, accepted_parts}
use Rattle.theory.specs.Subject.{Subject, subject_of, world_of}
use Rattle.theory.specs.Rows.{theory_rows, log_rows, world_rows}
use Rattle.theory.specs.declared.Setting.{Setting}
use Rattle.tally.specs.Record.{TallyOf}
use Rattle.tally.specs.Calls.{Remade, full_rows, append_rows, Appended}
use Rattle.tally.specs.Made.{Made, afresh, append}
use Rattle.tally.specs.declared.Tally.{Tally}
use Rattle.tally.proofs.Growth.{tally_grows}
use Rattle.tally.proofs.Room.{sound}
use Rattle.tally.proofs.Determined.{remade_determined}

-- a refused call has a number
refused_some : (s : Subject) → Refused (world_rows s) 0 → ⊥
refused_some s r = ⊎_elim (λ h. omega (arith, h.0)) (λ h. ⊎_elim (λ k. omega (arith, k.0)) (λ k. ⊎_elim (λ l. omega (arith, l.0)) (λ l. l.1) k.1) h.1) r.first

-- an accepted log, and its record
pub record Kept (s : Subject) (t : Tally) : Type 0 where
  pub accepted : Accepted (world_rows s)
  pub tally : TallyOf (world_of s) t

kept_afresh : (s : Subject) {before t : Tally} → Remade s before 0 t → Kept s t
kept_afresh s (inl r) = absurd (refused_some s r.refused)
kept_afresh s (inr a) = record { accepted = a.accepted; tally = a.right }

module _ (s : Setting) (masks log : List ℕ) (a : ℕ) where
  abbrev old : Subject
  old = subject_of s masks log

  abbrev longer : Subject
  longer = subject_of s masks (log ++ a ∷ [])

  more : length (log ++ a ∷ []) ≡ suc (length log)
  more = omega (arith, length-append log (a ∷ []))

  -- the longer log is refused exactly where the append is
  bad_iff : {steps : ℕ} → (BadLog log_limit s.counts.actions log → ⊥) → steps ≡ length log
      → ((log_limit ≤ steps) ⊎ (s.counts.actions ≤ a)) ↔ BadLog log_limit s.counts.actions (log ++ a ∷ [])
  bad_iff good done = (
    ⊎_elim (λ full. inl (omega (arith, full, done, more))) (λ strange. inr (record {
      place = length log;
      there = omega (arith, more);
      lacking = omega (arith, strange, get_or-append_seam log a [] 0);
    })),
    ⊎_elim (λ long. inl (omega (arith, long, done, more))) (λ u. elim (dec_lt u.place (length log)) [
      | yes low ↦ absurd (good (inr (record { place = u.place; there = low; lacking = omega (arith, u.lacking, get_or-append log (a ∷ []) 0 u.place low) })))
      | no high ↦
          let last : u.place ≡ length log = omega (arith, u.there, more, high) in
          let same = subst (λ (k : ℕ). s.counts.actions ≤ get_or (log ++ a ∷ []) k 0) last u.lacking in
          inr (omega (arith, same, get_or-append_seam log a [] 0))
    ]),
  )

  -- the append's outcome is that of making the longer log's record
  pub append_is_afresh : {t u : Tally} {number : ℕ} → Kept old t → Appended s masks t a number u → Remade longer t number u
  append_is_afresh {t} {u} {number} k x =
      let parts = accepted_parts (theory_rows s masks) (log_rows old) k.accepted in
      let bad = bad_iff (not_first parts.1) k.tally.steps in
      ⊎_elim
      (λ r. inl (record { refused = turned parts bad r.refused; blank = r.blank }))
      (λ r.
      let rest = accepted_parts (theory_rows s masks) (full_rows s t a) r.accepted in
      let fits = not_first rest.1 in
      let room : ¬ (log_limit ≤ t.steps) = λ h. fits (inl h) in
      let known : ¬ (s.counts.actions ≤ a) = λ h. fits (inr h) in
      inr (record {
        none = r.none;
        accepted = accepted_both (theory_rows s masks) (log_rows longer) parts.0 (passes (λ b. fits (bad.1 b)) accepts);
        right = tally_grows (world_of old) a (omega (arith, k.tally.steps)) (omega (arith, (sound s masks parts.0).few_actions)) k.tally r.right;
      }))
      x
    where
      turned : Accepted (theory_rows s masks) × Accepted (log_rows old) → ((log_limit ≤ t.steps) ⊎ (s.counts.actions ≤ a)) ↔ BadLog log_limit s.counts.actions (log ++ a ∷ [])
          → Refused (append_rows s masks t a) number → Refused (world_rows longer) number
      turned parts bad r =
          refused_second (theory_rows s masks) (log_rows longer) parts.0
          (record { first = ⊎_elim (λ h. inl (h.0, bad.0 h.1)) (λ h. absurd h.1) (refused_behind (theory_rows s masks) (full_rows s t a) parts.0 r).first })

-- whatever the library made of a log and a theory is kept so
pub made_kept : {s : Setting} {masks log : List ℕ} {t : Tally} → Made s masks log t → Kept (subject_of s masks log) t
made_kept {s} {masks} (afresh {log = log} x) = kept_afresh (subject_of s masks log) x
made_kept {s} {masks} (append {log = log} {a = a} m x) = kept_afresh (subject_of s masks (log ++ a ∷ [])) (append_is_afresh s masks log a (made_kept m) x)

-- "The tally equals the one made afresh from the log": whatever record is lent to be made afresh
pub made_is_afresh : {s : Setting} {masks log : List ℕ} {t before u : Tally} {number : ℕ} → Made s masks log t
    → Remade (subject_of s masks log) before number u → (number ≡ 0) × (u ≡ t)
made_is_afresh {s} {masks} {log} {t} {before} m x =
    let k = made_kept m in
    remade_determined (subject_of s masks log) before x (inr (record { none = refl; accepted = k.accepted; right = k.tally }))

-- Document 02, Q-13, for the calls `reach` and `verdict`: of two logs that are the same up to now, both of them accepted, each answers the same at (then, now), refusals too.
-- A verdict that was printed with its now is the byte that today's longer log gives. Knows the calls' statements and the meaning's law.
use Rattle.std.specs.Prelude.{Result}
use mathlib.Core.Path.{◌≡◌, refl}
use mathlib.Core.Logic.Iff
use mathlib.Core.Logic.{inl, inr, ⊎_elim}
use mathlib.Core.Bool.{Bool}
use mathlib.Core.List.{List}
use mathlib.Core.Option.{Option}
use Prim.Native.Nat.{ℕ}
use native.Mathlib.Omega.{arith}
use Rattle.refusal.specs.declared.Refusal.{Refusal}
use Rattle.refusal.specs.Given.{number_given}
use Rattle.meaning.specs.Rule.{Kind, walk_kind, test_kind}
use Rattle.meaning.specs.Refusal.{Accepted}
use Rattle.meaning.specs.Stands.{Agree}
use Rattle.meaning.proofs.Refusal.{Alike, answered_as}
use Rattle.meaning.proofs.Cut.{holds_cut}
use Rattle.meaning.proofs.Stands.{reached_as_stands}
use Rattle.theory.specs.Subject.{Subject, subject_of, world_of}
use Rattle.theory.specs.declared.Setting.{Setting}
use Rattle.theory.proofs.Stands.{Reaches}
use Rattle.ask.specs.Rows.{ask_rows}
use Rattle.ask.specs.Reach.{reached_given, ReachAnswered}
use Rattle.theory.specs.Possible.{verdict_given}
use Rattle.ask.specs.Verdict.{TestJudged, VerdictAnswered}
use Rattle.ask.specs.declared.Reached.{Reached}
use Rattle.ask.proofs.Asking.{asked_times}
use Rattle.ask.proofs.Determined.{reach_determined, verdict_determined}

module _ (s : Setting) (masks l l' bytes : List ℕ) (then now : ℕ) (same : Agree l l' now) (one : Reaches s l now) (other : Reaches s l' now) where
  abbrev before : Subject
  before = subject_of s masks l

  abbrev after : Subject
  after = subject_of s masks l'

  -- nothing but the log is another, and of the log no row holds
  rows_alike : (kind : Kind) → Alike (ask_rows kind before bytes then now) (ask_rows kind after bytes then now)
  rows_alike kind = (
    refl,
    Iff.rfl,
    (
      refl,
      Iff.rfl,
      (
        refl,
        (λ h. absurd (one.sound h), λ h. absurd (other.sound h)),
        (
          refl,
          Iff.rfl,
          (
            refl,
            Iff.rfl,
            (
              refl,
              Iff.rfl,
              (
                refl,
                Iff.rfl,
                (
                  refl,
                  Iff.rfl,
                  (refl, (⊎_elim inl (λ h. absurd (omega (arith, one.long))), ⊎_elim inl (λ h. absurd (omega (arith, other.long)))), tt),
                ),
              ),
            ),
          ),
        ),
      ),
    ),
  )

  judged_stands : (verdict : Option Bool) → Accepted (ask_rows test_kind before bytes then now) → TestJudged before bytes then now verdict → TestJudged after bytes then now verdict
  judged_stands verdict a j =
      let cut = holds_cut (world_of before) j.test l l' then now same (asked_times a).0 in
      record { test = j.test; spells = j.spells; judged = ⊎_elim (λ h. inl (h.0, cut.0 h.1)) (λ h. inr (h.0, λ k. h.1 (cut.1 k))) j.judged }

  -- what is an answer about the one log is one about the other
  pub verdict_stands : {number : ℕ} {verdict : Option Bool} → VerdictAnswered before bytes then now number verdict → VerdictAnswered after bytes then now number verdict
  verdict_stands {verdict = verdict} = answered_as (ask_rows test_kind before bytes then now) (ask_rows test_kind after bytes then now) (rows_alike test_kind) (judged_stands verdict)

  pub reach_stands : {number set count earliest : ℕ} → ReachAnswered before bytes then now number set count earliest → ReachAnswered after bytes then now number set count earliest
  reach_stands = answered_as (ask_rows walk_kind before bytes then now) (ask_rows walk_kind after bytes then now) (rows_alike walk_kind)
      (λ a r. record { walk = r.walk; spells = r.spells; reached = reached_as_stands (world_of before) r.walk l l' then now same r.reached })

  -- so the two answers are equal
  pub verdict_same : (a b : Result Bool Refusal) → VerdictAnswered before bytes then now (number_given a) (verdict_given a)
      → VerdictAnswered after bytes then now (number_given b) (verdict_given b) → a ≡ b
  verdict_same a b x y = verdict_determined after bytes then now a b (verdict_stands x) y

  pub reach_same : (a b : Result Reached Refusal) → ReachAnswered before bytes then now (number_given a) (reached_given a).set (reached_given a).count (reached_given a).earliest
      → ReachAnswered after bytes then now (number_given b) (reached_given b).set (reached_given b).count (reached_given b).earliest → a ≡ b
  reach_same a b x y = reach_determined after bytes then now a b (reach_stands x) y

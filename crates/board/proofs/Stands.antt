-- Document 02, Q-13, for the call of a board: of two logs that are the same up to now, neither with a fault of its own, it gives the same bytes, refusals too. Knows the call's
-- statement and that the single question answers the same of both.
use mathlib.Core.Path.{refl}
use mathlib.Core.Logic.Iff
use mathlib.Core.Logic.{inl, ⊎_elim}
use mathlib.Core.List.{List, []}
use Prim.Native.Nat.{ℕ}
use native.Mathlib.Omega.{arith}
use lib.ListN.{length, get_or}
use Rattle.meaning.specs.Stands.{Agree}
use Rattle.meaning.proofs.Refusal.{Alike, answered_as}
use Rattle.theory.specs.Subject.{Subject, subject_of}
use Rattle.theory.specs.declared.Setting.{Setting}
use Rattle.theory.proofs.Stands.{Reaches}
use Rattle.ask.proofs.Stands.{verdict_stands}
use Rattle.board.specs.Rows.{board_rows}
use Rattle.board.specs.Answer.{ByteTold, BoardAnswered}

module _ (s : Setting) (masks l l' text : List ℕ) (then now : ℕ) (same : Agree l l' now) (one : Reaches s l now) (other : Reaches s l' now) where
  abbrev before : Subject
  before = subject_of s masks l

  abbrev after : Subject
  after = subject_of s masks l'

  -- nothing but the log is another, and of the log no row holds
  rows_alike : (room : ℕ) → Alike (board_rows before text then now room) (board_rows after text then now room)
  rows_alike room = (
    refl,
    Iff.rfl,
    (
      refl,
      Iff.rfl,
      (
        refl,
        Iff.rfl,
        (
          refl,
          Iff.rfl,
          (
            refl,
            (λ h. absurd (one.sound h), λ h. absurd (other.sound h)),
            (
              refl,
              (⊎_elim inl (λ h. absurd (omega (arith, one.long))), ⊎_elim inl (λ h. absurd (omega (arith, other.long)))),
              (refl, Iff.rfl, tt),
            ),
          ),
        ),
      ),
    ),
  )

  byte_stands : (test : List ℕ) (byte : ℕ) → ByteTold before test then now byte → ByteTold after test then now byte
  byte_stands test byte t =
      record { answer = t.answer; answered = verdict_stands s masks l l' test then now same one other t.answered; told = t.told }

  -- what is a board of the one log is one of the other
  pub board_stands : {out out' : List ℕ} {number count : ℕ} → BoardAnswered before text then now out number count out' → BoardAnswered after text then now out number count out'
  board_stands {out} {out'} =
      answered_as (board_rows before text then now (length out)) (board_rows after text then now (length out)) (rows_alike (length out))
      (λ a b. record {
        tests = b.tests;
        falls = b.falls;
        counted = b.counted;
        room = b.room;
        bytes = λ k low. byte_stands (get_or b.tests k []) (get_or out' k 0) (b.bytes k low);
        past = b.past;
      })

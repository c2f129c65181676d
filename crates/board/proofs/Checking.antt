-- The checks of the whole call, one after the other: which row gives the number, and what an acceptance leaves. Knows the rows of the list, one line for each.
use mathlib.Core.Path.{◌≡◌, subst, subst⁻¹}
use mathlib.Core.List.{List, ◌++◌}
use Prim.Native.Nat.{ℕ, ◌≤◌, ◌<◌}
use native.Mathlib.Omega.{arith}
use lib.ListN.{length}
use Rattle.meaning.specs.Refusal.{Row, Refused, Accepted, TooShort}
use Rattle.meaning.proofs.Refusal.{here, past, accepts, passes, not_first, not_rest, refused_first, refused_second, accepted_both, accepted_parts}
use Rattle.theory.specs.Subject.{Subject, Readable, world_of}
use Rattle.theory.specs.Rows.{world_rows}
use Rattle.tables.specs.Tables.{Describes}
use Rattle.theory.proofs.Reading.{checked, readable}
use Rattle.ask.specs.Rows.{time_rows}
use Rattle.board.specs.Tests.{test_limit, FallsInto, NoLastLf}
use Rattle.board.specs.Rows.{SoMany, tests_rows, room_rows, board_rows}
use Rattle.board.specs.Answer.{BoardTold}
use Rattle.board.specs.Told.{Ready, Roomy, AllTold}
use Rattle.board.proofs.Falling.{falls}

module _ (s : Subject) (text : List ℕ) (then now room : ℕ) where
  -- what follows the text of the tests, and what follows the world
  abbrev Last : List {1} Row
  Last = time_rows s then now ++ room_rows text room

  abbrev Later : List {1} Row
  Later = world_rows s ++ Last

  abbrev All : List {1} Row
  All = board_rows s text then now room

  -- 2
  pub lf_refuses : NoLastLf text → Refused All 2
  lf_refuses h = here h

  -- the last LF is there, and the tests are so many
  module _ (ended : NoLastLf text → ⊥) {many : ℕ} (counted : (tests : List (List ℕ)) → FallsInto text tests → many ≡ length tests) where
    so_many : (fault : ℕ → Type 0) → fault many → SoMany text fault
    so_many fault h = let (tests, f) = falls text ended in record { tests = tests; falls = f; faulty = subst fault (counted tests f) h }

    no_fault : (fault : ℕ → Type 0) → (fault many → ⊥) → SoMany text fault → ⊥
    no_fault fault fine h = fine (subst⁻¹ fault (counted h.tests h.falls) h.faulty)

    -- 3: the tests
    pub many_refuses : test_limit < many → Refused All 3
    many_refuses h = past ended (here (so_many (λ n. test_limit < n) h))

    module _ (few : many ≤ test_limit) where
      sound-text : Accepted (tests_rows text)
      sound-text = passes ended (passes (no_fault (λ n. test_limit < n) (λ h. omega arith)) accepts)

      -- 3, 4, 5
      pub world_refuses : {N : ℕ} → Refused (world_rows s) N → Refused All N
      world_refuses r = refused_second (tests_rows text) Later sound-text (refused_first (world_rows s) Last r)

      module _ (sound : Accepted (world_rows s)) where
        last-refuses : {N : ℕ} → Refused Last N → Refused All N
        last-refuses r = refused_second (tests_rows text) Later sound-text (refused_second (world_rows s) Last sound r)

        -- 10
        pub times_refuse : {N : ℕ} → Refused (time_rows s then now) N → Refused All N
        times_refuse r = last-refuses (refused_first (time_rows s then now) (room_rows text room) r)

        module _ (timely : Accepted (time_rows s then now)) where
          -- 12
          pub room-refuses : room < many → Refused All 12
          room-refuses h = last-refuses (refused_second (time_rows s then now) (room_rows text room) timely (here (so_many (TooShort room) h)))

          pub nothing_refuses : many ≤ room → Accepted All
          nothing_refuses h =
              accepted_both (tests_rows text) Later sound-text
              (accepted_both (world_rows s) Last sound
              (accepted_both (time_rows s then now) (room_rows text room) timely (passes (no_fault (TooShort room) (λ short. omega arith)) accepts)))

-- What an acceptance leaves.
module _ {s : Subject} {text : List ℕ} {then now room : ℕ} (passed : Accepted (board_rows s text then now room)) where
  later : Accepted (world_rows s) × Accepted (time_rows s then now ++ room_rows text room)
  later = accepted_parts (world_rows s) (time_rows s then now ++ room_rows text room) (accepted_parts (tests_rows text) (world_rows s ++ (time_rows s then now ++ room_rows text room)) passed).1

  pub world_passed : Accepted (world_rows s)
  world_passed = later.0

  pub times_passed : Accepted (time_rows s then now)
  times_passed = passes (not_first later.1) accepts

  pub log_readable : Readable s.masks s.log
  log_readable = readable (checked s world_passed)

  pub ready : {rows : List ℕ} → Describes (world_of s) rows → Ready s rows then now
  ready d = record { sound = world_passed; timely = times_passed; described = d }

pub roomy : {s : Subject} {text out : List ℕ} {then now : ℕ} → Accepted (board_rows s text then now (length out)) → Roomy text out
roomy {s} {text} {out} {then} {now} passed =
    let (tests, f) = falls text (not_first passed) in
    let fine : SoMany text (TooShort (length out)) → ⊥ = not_first (not_rest (later passed).1) in
    let long : ¬ (length out < length tests) = λ h. fine (record { tests = tests; falls = f; faulty = h }) in
    record { tests = tests; falls = f; enough = omega arith }

-- what all tests are told is the call's answer
pub told_right : {s : Subject} {text rows before after : List ℕ} {then now count : ℕ} → (passed : Accepted (board_rows s text then now (length before))) → Describes (world_of s) rows
    → AllTold s.setting text rows then now before count after → BoardTold s text then now before count after
told_right {s} {text} passed d told =
    let (tests, f) = falls text (not_first passed) in
    let (counted, first) = told.each tests f in
    record {
      tests = tests;
      falls = f;
      counted = counted;
      room = first.room;
      bytes = λ k low. (first.bytes k (omega (arith, counted))).each s.masks s.log (ready passed d);
      past = λ k high. first.past k (omega (arith, counted));
    }

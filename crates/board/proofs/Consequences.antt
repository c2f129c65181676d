-- What the contract means for the bytes of an accepted call: which there are, and that a test's byte is its own, whatever the other tests are.
use Rattle.std.specs.Prelude.{Result, Ok, Err}
use mathlib.Core.Path.{◌≡◌, refl, sym, ap, subst}
use mathlib.Core.Logic.{◌⊎◌, inl, inr}
use mathlib.Core.Bool.{Bool, true, false}
use mathlib.Core.List.{List, [], ◌++◌}
use Prim.Native.Nat.{ℕ, ◌+◌, ◌<◌}
use lib.ListN.{length, get_or}
use Rattle.meaning.specs.Rule.{test_kind}
use Rattle.meaning.specs.Refusal.{FirstHolding, Accepted}
use Rattle.meaning.proofs.Refusal.{not_first, refused_behind}
use Rattle.refusal.specs.declared.Refusal.{Refusal}
use Rattle.refusal.specs.Number.{number_of}
use Rattle.refusal.specs.Given.{number_given}
use Rattle.theory.specs.Possible.{verdict_given}
use Rattle.refusal.proofs.Numbers.{some_number}
use Rattle.theory.specs.Subject.{Subject, counts_of}
use Rattle.theory.specs.Rows.{world_rows}
use Rattle.rule.specs.Outcome.{text_rows}
use Rattle.rule.proofs.Outcomes.{test_no_job}
use Rattle.ask.specs.Rows.{time_rows}
use Rattle.ask.specs.Verdict.{VerdictAnswered}
use Rattle.board.specs.Rows.{board_rows}
use Rattle.board.specs.Answer.{byte_of, ByteTold, BoardTold}
use Rattle.board.proofs.Checking.{world_passed, times_passed}
use Rattle.board.proofs.Determined.{one_byte}

-- a test that stands at the same place of two boards has the same byte in both: "a refused test spoils no other"
pub own_byte : {s : Subject} {then now : ℕ} {text text' before before' after after' : List ℕ} {count count' : ℕ}
    (t : BoardTold s text then now before count after) (u : BoardTold s text' then now before' count' after') (k : ℕ) → k < length t.tests → k < length u.tests
    → get_or u.tests k [] ≡ get_or t.tests k [] → get_or after k 0 ≡ get_or after' k 0
own_byte {s} {then} {now} {after' = after'} t u k low low' same =
    one_byte s then now (get_or t.tests k []) (t.bytes k low) (subst (λ (test : List ℕ). ByteTold s test then now (get_or after' k 0)) same (u.bytes k low'))

-- the bytes that there are: no, yes, and 16 more than 6, 7, 8 and 13
abbrev Known : ℕ → Type 0
Known byte = (byte ≡ 0) ⊎ ((byte ≡ 1) ⊎ ((byte ≡ 22) ⊎ ((byte ≡ 23) ⊎ ((byte ≡ 24) ⊎ (byte ≡ 29)))))

module _ {s : Subject} {test : List ℕ} {then now : ℕ} (sound : Accepted (world_rows s)) (timely : Accepted (time_rows s then now)) where
  of_rule : (n : ℕ) → FirstHolding (text_rows true test_kind test (counts_of s) ++ time_rows s then now) n → Known (16 + n)
  of_rule n (inl h) = inr (inr (inl (ap (λ k. 16 + k) h.0)))
  of_rule n (inr (_, inl h)) = inr (inr (inr (inl (ap (λ k. 16 + k) h.0))))
  of_rule n (inr (_, inr (_, inl h))) = inr (inr (inr (inr (inl (ap (λ k. 16 + k) h.0)))))
  of_rule n (inr (_, inr (_, inr (_, inl h)))) = absurd (test_no_job h.1.faulty.0)
  of_rule n (inr (_, inr (_, inr (_, inr (_, inl h))))) = inr (inr (inr (inr (inr (ap (λ k. 16 + k) h.0)))))
  of_rule n (inr (_, inr (_, inr (_, inr (_, inr (_, inl h)))))) = absurd (not_first timely h.1)
  of_rule n (inr (_, inr (_, inr (_, inr (_, inr (_, inr h)))))) = absurd h.1

  byte_known : (a : Result Bool Refusal) → VerdictAnswered s test then now (number_given a) (verdict_given a) → Known (byte_of a)
  byte_known (Ok false) x = inl refl
  byte_known (Ok true) x = inr (inl refl)
  byte_known (Err why) (inl x) =
      of_rule (number_of why) (refused_behind (world_rows s) (text_rows true test_kind test (counts_of s) ++ time_rows s then now) sound x.refused).first
  byte_known (Err why) (inr x) = absurd (some_number why x.none)

pub bytes_known : {s : Subject} {text before after : List ℕ} {then now count : ℕ} → Accepted (board_rows s text then now (length before))
    → (t : BoardTold s text then now before count after) (k : ℕ) → k < length t.tests → Known (get_or after k 0)
bytes_known {s} {after = after} passed t k low =
    let b = t.bytes k low in
    subst Known (sym b.told) (byte_known (world_passed passed) (times_passed passed) b.answer b.answered)

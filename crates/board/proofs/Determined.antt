-- Any two outcomes that the contract allows are equal: the answer, and what the lent output holds. And the numbers of the call's list rise.
use Rattle.std.specs.Prelude.{Result}
use mathlib.Core.Path.{◌≡◌, refl, sym, ap, subst, ◌∙◌}
use mathlib.Core.List.{List, []}
use Prim.Native.Nat.{ℕ, ◌≤◌, ◌<◌}
use native.Mathlib.Decide.{dec_lt}
use native.Mathlib.Omega.{arith}
use lib.ListN.{length, get_or}
use lib.Seq.{ext_get_or}
use Rattle.meaning.specs.Refusal.{falls, no_count}
use Rattle.meaning.proofs.Refusal.{answered_determined}
use Rattle.refusal.specs.declared.Refusal.{Refusal}
use Rattle.refusal.specs.Given.{number_given, value_given}
use Rattle.refusal.proofs.Given.{same_given}
use Rattle.theory.specs.Subject.{Subject}
use Rattle.ask.proofs.Determined.{verdict_determined}
use Rattle.board.specs.Rows.{board_rows}
use Rattle.board.specs.Answer.{byte_of, ByteTold, BoardTold, BoardAnswered}
use Rattle.board.proofs.Falling.{falls_once}

module _ (s : Subject) (then now : ℕ) where
  -- the single question gives one answer, so that a test has one byte
  pub one_byte : (test : List ℕ) {byte other : ℕ} → ByteTold s test then now byte → ByteTold s test then now other → byte ≡ other
  one_byte test t u = t.told ∙ ap byte_of (verdict_determined s test then now t.answer u.answer t.answered u.answered) ∙ sym u.told

  module _ {text before after after' : List ℕ} {count count' : ℕ} (t : BoardTold s text then now before count after) (u : BoardTold s text then now before count' after') where
    -- the text falls into one list of tests, so that each has one byte, and as many are touched
    same_tests : u.tests ≡ t.tests
    same_tests = falls_once u.falls t.falls

    same_byte : (k : ℕ) → get_or after k 0 ≡ get_or after' k 0
    same_byte k = elim (dec_lt k (length t.tests)) [
      | yes low ↦
          one_byte (get_or t.tests k []) (t.bytes k low)
          (subst (λ (ts : List (List ℕ)). ByteTold s (get_or ts k []) then now (get_or after' k 0)) same_tests (u.bytes k (subst (λ (ts : List (List ℕ)). k < length ts) (sym same_tests) low)))
      | no high ↦
          let here : length t.tests ≤ k = omega arith in
          t.past k here ∙ sym (u.past k (subst (λ (ts : List (List ℕ)). length ts ≤ k) (sym same_tests) here))
    ]

    pub same_board : (count ≡ count') × (after ≡ after')
    same_board = (t.counted ∙ ap length (sym same_tests) ∙ sym u.counted, ext_get_or 0 after after' (t.room ∙ sym u.room) (λ k low. same_byte k))

  pub board_determined :
      (text before after after' : List ℕ) (a b : Result ℕ Refusal)
      → BoardAnswered s text then now before (number_given a) (value_given no_count a) after
      → BoardAnswered s text then now before (number_given b) (value_given no_count b) after'
      → (a ≡ b) × (after ≡ after')
  board_determined text before after after' a b x y =
      answered_determined x y
      (λ n f g. (same_given no_count a b n (f.0 ∙ sym g.0), f.1 ∙ sym g.1))
      (λ n f g. let (c, out) = same_board f g in (same_given no_count a b n c, out))

  -- "smallest first"
  pub board_rises : (text : List ℕ) (room : ℕ) → falls (board_rows s text then now room) ≡ []
  board_rises text room = refl

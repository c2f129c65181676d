-- What one test is told is what the single question gives, where everything but the test has passed. Knows the order of that question's checks by ask's laws alone.
use Rattle.std.specs.Prelude.{Ok, Err}
use Rattle.std.specs.Int.{from_bool}
use mathlib.Core.Path.{◌≡◌, refl, sym, ap, subst, subst⁻¹, ◌∙◌}
use mathlib.Core.Logic.{inl, inr}
use mathlib.Core.Bool.{Bool, true, false}
use mathlib.Core.List.{List, []}
use Prim.Native.Nat.{ℕ, ◌+◌, ◌≤◌, ◌<◌}
use native.Mathlib.Decide.{dec_lt}
use native.Mathlib.Omega.{arith}
use lib.ListN.{length, get_or, drop, set, length-drop, length-set, drop_of_length-le}
use lib.Seq.{get_or-set_same, get_or-set_other}
use Rattle.spelling.specs.Scan.{stretch, FirstLf}
use Rattle.meaning.specs.Rule.{test_kind}
use Rattle.meaning.specs.Refusal.{Accepted, Refused}
use Rattle.refusal.specs.declared.Refusal.{Refusal}
use Rattle.refusal.specs.Number.{number_of}
use Rattle.theory.specs.Subject.{Subject, counts_of}
use Rattle.theory.specs.declared.Setting.{Setting}
use Rattle.rule.specs.Outcome.{rule_rows}
use Rattle.ask.specs.Verdict.{TestTold}
use Rattle.ask.proofs.Asking.{rule_refuses, nothing_refuses}
use Rattle.board.specs.Tests.{listed, FallsInto}
use Rattle.board.specs.Answer.{byte_of, ByteTold}
use Rattle.board.specs.Told.{StandsAt, Ready, ByteFound, FirstTold}
use Rattle.board.proofs.Falling.{behind, end_of_line, falls_once, line_text, NextTest, none_left}

module _ {s : Subject} {test rows : List ℕ} {then now : ℕ} (ready : Ready s rows then now) where
  -- the test is refused
  pub byte_refused : (why : Refusal) → Refused (rule_rows true test_kind test (counts_of s)) (number_of why) → ByteTold s test then now (16 + number_of why)
  byte_refused why r =
      record {
        answer = Err why;
        answered = inl (record { refused = rule_refuses test_kind s test then now ready.sound r; blank = refl });
        told = refl;
      }

  -- it is not, so that nothing refuses the question, and it is told over the rows
  pub byte_told : Accepted (rule_rows true test_kind test (counts_of s)) → (told : Bool) → TestTold test (counts_of s).domain s.setting.reading rows then now told
      → ByteTold s test then now (byte_of (Ok told))
  byte_told fits told t =
      let asked = nothing_refuses test_kind s test then now ready.sound fits ready.timely in
      record { answer = Ok told; answered = inr (record { none = refl; accepted = asked; right = t.each s refl refl asked ready.described }); told = refl }

-- a yes is 1, a no is 0
pub byte_of_bool : (told : Bool) → from_bool told ≡ byte_of (Ok told)
byte_of_bool true = refl
byte_of_bool false = refl

-- The same of the test that stands at a place of the text, where the first LF from there on is found: it is what stands up to the LF.
stretch_told : {s : Setting} {text rows test : List ℕ} {at end then now byte : ℕ} → StandsAt text at test → FirstLf text at end
    → ByteFound s (stretch text at end) rows then now byte → ByteFound s test rows then now byte
stretch_told {s} {rows = rows} {then = then} {now = now} {byte = byte} t f found =
    subst (λ (l : List ℕ). ByteFound s l rows then now byte) (line_text t f) found

-- The tests in their turn: none has its byte yet; the next one gets its own, and no other byte is touched; where the text ends, all have theirs.
module _ (s : Setting) (text rows : List ℕ) (then now : ℕ) (before : List ℕ) where
  -- the first k tests are told, and the others stand from a place on
  pub record Going (k at : ℕ) (out : List ℕ) (tests : List (List ℕ)) : Type 0 where
    pub within : k ≤ length tests
    pub stand : drop at text ≡ listed (drop k tests)
    pub told : FirstTold s tests rows then now before k out

  pub none_told : (tests : List (List ℕ)) → FallsInto text tests → Going 0 0 before tests
  none_told tests f = record { within = omega arith; stand = f.whole; told = record { room = refl; bytes = λ k low. absurd (omega arith); past = λ k high. refl } }

  module _ {k at end byte : ℕ} {out : List ℕ} {tests : List (List ℕ)} (g : Going k at out tests) (t : NextTest text tests k at) (f : FirstLf text at end)
      (found : ByteFound s (stretch text at end) rows then now byte) (room : k < length out) where
    abbrev test : List ℕ
    test = get_or tests k []

    own : (j : ℕ) → j < k + 1 → ByteFound s (get_or tests j []) rows then now (get_or (set out k byte) j 0)
    own j low = elim (dec_lt j k) [
      | yes early ↦ subst⁻¹ (ByteFound s (get_or tests j []) rows then now) (get_or-set_other out k j byte 0 (λ e. omega (arith, e))) (g.told.bytes j early)
      | no late ↦
          let e : k ≡ j = omega arith in
          subst (λ (i : ℕ). ByteFound s (get_or tests i []) rows then now (get_or (set out k byte) i 0)) e
          (subst⁻¹ (ByteFound s test rows then now) (get_or-set_same out k byte 0 room) (stretch_told t.stands f found))
    ]

    pub one_more : Going (k + 1) (end + 1) (set out k byte) tests
    one_more =
        record {
          within = omega (arith, t.there);
          stand = ap (λ (n : ℕ). drop (n + 1) text) (end_of_line t.stands f) ∙ behind t.stands ∙ t.others;
          told =
              record {
                room = length-set out k byte ∙ g.told.room;
                bytes = own;
                past = λ j high. get_or-set_other out k j byte 0 (λ e. omega (arith, e)) ∙ g.told.past j (omega arith);
              };
        }

  -- where the text ends, or there are no more tests, all are told
  pub all_told : {k at : ℕ} {out : List ℕ} {tests : List (List ℕ)} → Going k at out tests → length text ≤ at → (k ≡ length tests) × FirstTold s tests rows then now before k out
  all_told {k} {at} {tests = tests} g end =
      let none : length (drop k tests) ≡ 0 = none_left (drop k tests) (sym (drop_of_length-le text {i = at} end) ∙ g.stand) in
      (omega (arith, length-drop k tests, none, g.within), g.told)

  pub all_counted : {k at : ℕ} {out : List ℕ} {tests others : List (List ℕ)} → FallsInto text tests → FallsInto text others → length others ≤ k → Going k at out tests
      → (k ≡ length tests) × FirstTold s tests rows then now before k out
  all_counted f g late going = (omega (arith, ap length (falls_once f g), going.within), going.told)

-- A rule from the text's first place on, with a table that has nothing yet: its ground is the set that it is asked from, so that the answer is exact.
use mathlib.Core.Path.{◌≡◌, refl, sym, ap, subst, subst⁻¹, ◌∙◌}
use mathlib.Core.List.{List}
use mathlib.Core.Bool.{Bool, true, false}
use Prim.Native.Nat.{ℕ, ◌+◌}
use lib.ListN.{get_or}
use Rattle.meaning.specs.Theory.{World}
use Rattle.meaning.specs.Rule.{Walk, of_walk}
use Rattle.theory.specs.Subject.{reading_of}
use Rattle.grammar.specs.Standing.{Stands}
use Rattle.runs.specs.Image.{Set, UpTo}
use Rattle.runs.specs.Values.{own_in, inner_in, Bears}
use Rattle.runs.specs.Found.{Tabled, WalkFound, TestFound, AskFound}
use Rattle.runs.specs.Run.{start, Begun, WalkKept, TestKept, AskKept}
use Rattle.runs.proofs.Seen.{seen_none, told_none}
use Rattle.runs.proofs.Heard.{asked_exact}

-- the scope of a whole text
abbrev everywhere : Set
everywhere i = true

-- the world of a test, which is all inside `<`, has one reading
one_reading : {w : World} {bound : List ℕ} → own_in bound ≡ inner_in bound → Bears w bound → w.own ≡ w.inner
one_reading e b = b.own ∙ ap reading_of e ∙ sym b.inner

module _ {bytes : List ℕ} {at : ℕ} {rows bound : List ℕ} {n : ℕ} {slots : List ℕ} {from : Set} (empty : (j : ℕ) → get_or slots j 0 ≡ 0) where
  begun : (w : World) (back : Bool) → Tabled w rows bound n → UpTo n from → (x : Walk) → Stands bytes at (of_walk x) → Begun w bytes everywhere rows bound n at x back (start from) slots from
  begun w back tabled low x h = record {
    tabled = tabled;
    low = low;
    stands = h;
    ground = λ q i. i;
    covers = λ i low high. refl;
    told = told_none (λ j there. (empty j, empty (j + 1)));
    seen = seen_none w n bytes slots x back (start from) at h (λ j low high sign. empty j);
  }

  pub walk_exact : {values after : List ℕ} {back : Bool} {answer : Set} → bound ≡ values → WalkKept bytes at back rows bound n slots after from answer → WalkFound bytes at back rows values n from answer
  walk_exact {back = back} {answer = answer} same k = subst (λ (l : List ℕ). WalkFound bytes at back rows l n from answer) same (record {
    found = λ w tabled low x h.
        let u = k.found w everywhere x (start from) (begun w back tabled low x h) in
        record { each = λ q. (u.most q, λ i. u.least i.0 q i.1 i.2) };
  })

  pub test_exact : {values after : List ℕ} {answer : Set} → bound ≡ values → own_in values ≡ inner_in values → TestKept bytes at rows bound n slots after from answer → TestFound bytes at rows values n from answer
  test_exact {answer = answer} same one k = subst (λ (l : List ℕ). TestFound bytes at rows l n from answer) same (record { found = λ w tabled low x h. (k.found w everywhere (one_reading (subst⁻¹ (λ (l : List ℕ). own_in l ≡ inner_in l) same one) tabled.bears) tabled low x h (λ i low high. refl) (told_none (λ j there. (empty j, empty (j + 1))))).sifted })

  pub ask_exact : {values : List ℕ} {may : ℕ → Bool} {after : List ℕ} {reached : Set} {word : ℕ} → bound ≡ values → AskKept may bytes at rows bound n slots after from reached word → AskFound may bytes at rows values n from word
  ask_exact {may = may} {word = word} same k = subst (λ (l : List ℕ). AskFound may bytes at rows l n from word) same (record { found = λ w tabled low x h. asked_exact k w everywhere x (begun w false tabled low x h) (λ j low high sign. empty j) })

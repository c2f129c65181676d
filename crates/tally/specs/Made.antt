-- Request Q-5, what its equalities are about: "a record the library made from that log and theory, afresh or by appends", and the test that the quick yes stands for.
use Rattle.std.specs.Prelude.{List, [], ◌∷◌, ◌++◌, ℕ}
use Rattle.meaning.specs.Rule.{Test, plain, act, next, seq, star, conv, always, diamond}
use Rattle.theory.specs.Subject.{subject_of}
use Rattle.theory.specs.declared.Setting.{Setting}
use Rattle.tally.specs.Calls.{Remade, Appended}
use Rattle.tally.specs.declared.Tally.{Tally}

-- calls that were not refused
pub data Made (s : Setting) (masks : List ℕ) : List ℕ → Tally → Type 0 where
  afresh : {log : List ℕ} {before t : Tally} → Remade (subject_of s masks log) before 0 t → Made s masks log t
  append : {log : List ℕ} {t u : Tally} {a : ℕ} → Made s masks log t → Appended s masks t a 0 u → Made s masks (log ++ a ∷ []) u

-- `<-;aNN*n1`: "has NN happened, with only possible steps since"
abbrev pub happened_test : ℕ → Test
happened_test a = diamond (conv (seq (act (plain a)) (star next))) always

-- Laws of one line of a sheet: it has one value and says one thing, and how it is found right or which refusal it has. Knows no key and no form.
use mathlib.Core.Path.{◌≡◌, refl, sym, ◌∙◌, subst}
use mathlib.Core.Logic.{inl, inr}
use mathlib.Core.List.{List, [], ◌∷◌, ◌++◌, append_cancel_left}
use Prim.Native.Nat.{ℕ, suc, ◌<◌, suc-le-suc}
use native.Mathlib.Omega.{arith}
use lib.ListN.{length, get_or}
use Rattle.meaning.specs.Refusal.{Row, ◌when◌, FirstHolding, Refused, Accepted}
use Rattle.meaning.proofs.Refusal.{here, past, passes, not_first, not_rest}
use Rattle.spelling.specs.Numeral.{lf}
use Rattle.sheet_lines.specs.Line.{Line, Judge, Form, Says, NoLine, Miswritten, judge_rows, line_rows}

-- no LF in these bytes, as `Line` says it
abbrev Plain : List ℕ → Type 0
Plain v = (i : ℕ) → i < length v → get_or v i 0 ≡ lf → ⊥

plain_rest : (b : ℕ) (v : List ℕ) → Plain (b ∷ v) → Plain v
plain_rest b v p i l = p (suc i) (suc-le-suc l)

-- two stretches without LF that an LF ends are one
same_stretch : (v w a b : List ℕ) → Plain v → Plain w → v ++ (lf ∷ a) ≡ w ++ (lf ∷ b) → v ≡ w
same_stretch [] [] a b p q e = refl
same_stretch [] (x ∷ w) a b p q e = let h : x ≡ lf = cc in absurd (q 0 (omega arith) h)
same_stretch (x ∷ v) [] a b p q e = let h : x ≡ lf = cc in absurd (p 0 (omega arith) h)
same_stretch (x ∷ v) (y ∷ w) a b p q e =
    let tail : v ++ (lf ∷ a) ≡ w ++ (lf ∷ b) = cc in
    let rest = same_stretch v w a b (plain_rest x v p) (plain_rest y w q) tail in
    cc

-- a line has one value
pub one_value : {key bytes : List ℕ} {at : ℕ} {v w : List ℕ} → Line key bytes at v → Line key bytes at w → v ≡ w
one_value {key} {bytes} {at} {v} {w} l m =
    same_stretch v w l.after m.after l.ends m.ends
    (append_cancel_left key (v ++ (lf ∷ l.after)) (w ++ (lf ∷ m.after)) (sym l.opens ∙ m.opens))

-- two things in range that are written alike are one
abbrev pub Clear : Form → Type 0
Clear form = (a b : form.Value) → form.InRange a → form.InRange b → form.spell a ≡ form.spell b → a ≡ b

-- none of these faults is there
abbrev pub Clean : {A : Type 0} → List {1} (Judge A) → A → Type 0
Clean [] a = Unit {0}
Clean (judge ∷ judges) a = (judge.bad a → ⊥) × Clean judges a

module _ (form : Form) (bytes : List ℕ) (at : ℕ) where
  -- 2
  pub no_line : NoLine form.key bytes at → Refused (line_rows form bytes at) 2
  no_line h = here h

  -- 3, 5 or 6: there is a line, and its value is not one that the form has
  pub miswritten :
      (value : List ℕ) → Line form.key bytes at value
      → ((said : form.Value) → form.InRange said → value ≡ form.spell said → ⊥) → Refused (line_rows form bytes at) form.otherwise
  miswritten value line unsaid = past (λ none. none value line) (here (record { value = value; line = line; unsaid = unsaid }))

  -- a line that says something is not miswritten
  not_miswritten : (said : form.Value) → Says form bytes at said → Miswritten form bytes at → ⊥
  not_miswritten said says m = m.unsaid said says.in_range (one_value m.line says.line)

  -- 4, 7, 8 or 9: what it says is bad
  pub judged :
      (said : form.Value) → Says form bytes at said → {N : ℕ} → Refused (judge_rows form bytes at form.judges) N
      → Refused (line_rows form bytes at) N
  judged said says r = past (λ none. none (form.spell said) says.line) (past (not_miswritten said says) r)

  module _ (clear : Clear form) where
    -- a line says one thing
    pub one_said : (a b : form.Value) → Says form bytes at a → Says form bytes at b → a ≡ b
    one_said a b s t = clear a b s.in_range t.in_range (one_value s.line t.line)

    none_bad :
        (said : form.Value) → Says form bytes at said → (judges : List {1} (Judge form.Value)) → Clean judges said
        → Accepted (judge_rows form bytes at judges)
    none_bad said says [] clean = tt
    none_bad said says (judge ∷ judges) clean = (
      λ h. clean.0 (subst judge.bad (one_said h.said said h.says says) h.fault),
      none_bad said says judges clean.1,
    )

    pub right :
        (said : form.Value) → Says form bytes at said → Clean form.judges said → Accepted (line_rows form bytes at)
    right said says clean =
        passes (λ none. none (form.spell said) says.line) (passes (not_miswritten said says) (none_bad said says form.judges clean))

-- the faults of what is said, as rows of their own
abbrev pub value_rows : {A : Type 0} → List {1} (Judge A) → A → List {1} Row
value_rows [] said = []
value_rows (judge ∷ judges) said = (judge.number when judge.bad said) ∷ value_rows judges said

pub clean_by : {A : Type 0} (judges : List {1} (Judge A)) (said : A) → Accepted (value_rows judges said) → Clean judges said
clean_by [] said accepted = tt
clean_by (judge ∷ judges) said accepted = (not_first accepted, clean_by judges said (not_rest accepted))

module _ (form : Form) (bytes : List ℕ) (at : ℕ) (clear : Clear form) (said : form.Value) (says : Says form bytes at said) where
  to_line :
      (judges : List {1} (Judge form.Value)) (N : ℕ) → FirstHolding (value_rows judges said) N → FirstHolding (judge_rows form bytes at judges) N
  to_line [] N h = elim h [ ]
  to_line (judge ∷ judges) N (inl h) = inl (h.0, record { said = said; says = says; fault = h.1 })
  to_line (judge ∷ judges) N (inr h) =
      inr (λ b. h.0 (subst judge.bad (one_said form bytes at clear b.said said b.says says) b.fault), to_line judges N h.1)

  -- the line's number is that of what it says
  pub judged_by : {N : ℕ} → Refused (value_rows form.judges said) N → Refused (line_rows form bytes at) N
  judged_by {N} r = judged form bytes at said says (record { first = to_line form.judges N r.first })

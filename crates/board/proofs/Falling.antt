-- Laws of the text of the tests: it falls into tests exactly if its last LF is there, and then into one list of them; how many they are; and where the next one stands. Knows bytes alone.
use mathlib.Core.Path.{◌≡◌, refl, sym, ap, ap₂, subst, ◌∙◌}
use mathlib.Core.Bool.{Bool, cond}
use mathlib.Core.List.{List, [], ◌∷◌, ◌++◌, append_assoc}
use Prim.Native.Nat.{ℕ, zero, suc, ◌+◌, ◌-◌, ◌≤◌, ◌<◌}
use native.Mathlib.Decide.{dec_lt, ℕ_discrete}
use native.Mathlib.Omega.{arith}
use borrow.Author.Tests.{ne_eqb}
use lib.Dec.{eqb}
use lib.ListN.{length, get_or, take, drop, length-append, length-drop, drop_of_length-le, get_or-append}
use lib.Seq.{drop-cons, drop-drop, drop-append-add, take-append_seam, get_or-drop, get_or-append_seam, get_or_at}
use Rattle.std.specs.List.{count_by}
use Rattle.std.proofs.lemmas.List.Sums.{sum_by-cons}
use Rattle.spelling.specs.Numeral.{lf}
use Rattle.spelling.specs.Scan.{stretch, FirstLf}
use Rattle.spelling.proofs.Determined.{find_lf_determined}
use Rattle.board.specs.Tests.{listed, NoLf, FallsInto, NoLastLf}
use Rattle.board.specs.Told.{StandsAt}

-- Two lines with what stands behind their LFs.
no_lf_tail : (b : ℕ) (t : List ℕ) → NoLf (b ∷ t) → NoLf t
no_lf_tail b t none i low = none (suc i) (omega arith)

same_line : (t u rest other : List ℕ) → t ++ (lf ∷ rest) ≡ u ++ (lf ∷ other) → NoLf t → NoLf u → (t ≡ u) × (rest ≡ other)
same_line [] [] rest other e f g = (refl, ap (drop 1) e)
same_line [] (c ∷ u) rest other e f g = absurd (g 0 (omega arith) (sym (ap (λ (l : List ℕ). get_or l 0 0) e)))
same_line (b ∷ t) [] rest other e f g = absurd (f 0 (omega arith) (ap (λ (l : List ℕ). get_or l 0 0) e))
same_line (b ∷ t) (c ∷ u) rest other e f g =
    let (line, behind) = same_line t u rest other (ap (drop 1) e) (no_lf_tail b t f) (no_lf_tail c u g) in
    (ap₂ (λ (x : ℕ) (l : List ℕ). x ∷ l) (ap (λ (l : List ℕ). get_or l 0 0) e) line, behind)

some_line : (t rest : List ℕ) → [] ≡ t ++ (lf ∷ rest) → ⊥
some_line t rest e = omega (arith, ap length e, length-append t (lf ∷ rest))

-- the text falls into one list of tests
pub falls_once : {text : List ℕ} {tests others : List (List ℕ)} → FallsInto text tests → FallsInto text others → tests ≡ others
falls_once {tests = tests} {others = others} f g = go tests others (sym f.whole ∙ g.whole) f.each g.each
  where
    go : (ts us : List (List ℕ)) → listed ts ≡ listed us → ((k : ℕ) → NoLf (get_or ts k [])) → ((k : ℕ) → NoLf (get_or us k [])) → ts ≡ us
    go [] [] e f g = refl
    go [] (u ∷ us) e f g = absurd (some_line u (listed us) e)
    go (t ∷ ts) [] e f g = absurd (some_line t (listed ts) (sym e))
    go (t ∷ ts) (u ∷ us) e f g =
        let (line, behind) = same_line t u (listed ts) (listed us) e (f 0) (g 0) in
        ap₂ (λ (x : List ℕ) (l : List (List ℕ)). x ∷ l) line (go ts us behind (λ k. f (suc k)) (λ k. g (suc k)))

-- Where the last LF is there, it falls into some. From the right: an LF opens an empty test, any other byte lengthens the test behind it.
no_tests : FallsInto [] []
no_tests = record { whole = refl; each = λ k i low. absurd (omega arith) }

opened : {text : List ℕ} {tests : List (List ℕ)} → FallsInto text tests → FallsInto (lf ∷ text) ([] ∷ tests)
opened {text} {tests} f = record { whole = ap (λ (l : List ℕ). lf ∷ l) f.whole; each = go }
  where
    go : (k : ℕ) → NoLf (get_or ([] ∷ tests) k [])
    go zero = λ i low. absurd (omega arith)
    go (suc k) = f.each k

longer : {text test : List ℕ} {tests : List (List ℕ)} (b : ℕ) → (b ≡ lf → ⊥) → FallsInto text (test ∷ tests) → FallsInto (b ∷ text) ((b ∷ test) ∷ tests)
longer {text} {test} {tests} b other f = record { whole = ap (λ (l : List ℕ). b ∷ l) f.whole; each = go }
  where
    first : NoLf (b ∷ test)
    first zero low e = other e
    first (suc i) low e = f.each 0 i (omega arith) e

    go : (k : ℕ) → NoLf (get_or ((b ∷ test) ∷ tests) k [])
    go zero = first
    go (suc k) = f.each (suc k)

abbrev Fallen : List ℕ → Type 0
Fallen text = (tests : List (List ℕ)) × FallsInto text tests

before_lf : (text : List ℕ) → Fallen text → Fallen (lf ∷ text)
before_lf text (tests, f) = ([] ∷ tests, opened f)

before_more : (b c : ℕ) (l : List ℕ) → (b ≡ lf → ⊥) → Fallen (c ∷ l) → Fallen (b ∷ (c ∷ l))
before_more b c l other (tests, f) = go tests f
  where
    go : (tests : List (List ℕ)) → FallsInto (c ∷ l) tests → Fallen (b ∷ (c ∷ l))
    go [] f = absurd (omega (arith, ap length f.whole))
    go (test ∷ tests) f = ((b ∷ test) ∷ tests, longer b other f)

last_behind : (b c : ℕ) (l : List ℕ) → get_or (b ∷ (c ∷ l)) (length (b ∷ (c ∷ l)) - 1) 0 ≡ get_or (c ∷ l) (length (c ∷ l) - 1) 0
last_behind b c l =
    let long : length (b ∷ (c ∷ l)) - 1 ≡ suc (length l) = omega arith in
    let less : length l ≡ length (c ∷ l) - 1 = omega arith in
    ap (λ (k : ℕ). get_or (b ∷ (c ∷ l)) k 0) long ∙ ap (λ (k : ℕ). get_or (c ∷ l) k 0) less

pub falls : (text : List ℕ) → (NoLastLf text → ⊥) → Fallen text
falls [] there = ([], no_tests)
falls (b ∷ []) there = elim (ℕ_discrete b lf) [
  | yes e ↦ subst (λ (x : ℕ). Fallen (x ∷ [])) (sym e) (before_lf [] ([], no_tests))
  | no other ↦ absurd (there (omega arith, other))
]
falls (b ∷ (c ∷ l)) there =
    let rest = falls (c ∷ l) (λ h. there (omega arith, λ e. h.1 (sym (last_behind b c l) ∙ e))) in
    elim (ℕ_discrete b lf) [
      | yes e ↦ subst (λ (x : ℕ). Fallen (x ∷ (c ∷ l))) (sym e) (before_lf (c ∷ l) rest)
      | no other ↦ before_more b c l other rest
    ]

-- And what falls into tests has its last LF.
last_lf : (t : List ℕ) (ts : List (List ℕ)) → (front : List ℕ) × (listed (t ∷ ts) ≡ front ++ (lf ∷ []))
last_lf t [] = (t, refl)
last_lf t (u ∷ ts) =
    let (front, e) = last_lf u ts in
    (t ++ (lf ∷ front), ap (λ (l : List ℕ). t ++ (lf ∷ l)) e ∙ sym (append_assoc t (lf ∷ front) (lf ∷ [])))

pub falls_ended : {text : List ℕ} {tests : List (List ℕ)} → FallsInto text tests → NoLastLf text → ⊥
falls_ended {text} {tests} f missing = go tests f.whole
  where
    go : (tests : List (List ℕ)) → text ≡ listed tests → ⊥
    go [] e = omega (arith, missing.0, ap length e)
    go (t ∷ ts) e =
        let (front, ends) = last_lf t ts in
        let all : text ≡ front ++ (lf ∷ []) = e ∙ ends in
        let long : length text ≡ length front + 1 = ap length all ∙ length-append front (lf ∷ []) in
        missing.1 (ap (λ (l : List ℕ). get_or l (length text - 1) 0) all ∙ get_or_at front lf [] 0 (length text - 1) (omega arith))

-- There are as many tests as LFs.
abbrev one_lf : ℕ → ℕ
one_lf b = cond (eqb b lf) 1 0

abbrev pub lfs : List ℕ → ℕ
lfs text = count_by (λ b. eqb b lf) text

lfs_line : (t rest : List ℕ) → NoLf t → lfs (t ++ rest) ≡ lfs rest
lfs_line [] rest none = refl
lfs_line (b ∷ t) rest none =
    omega (arith, sum_by-cons one_lf b (t ++ rest), ap {B = ℕ} (λ (x : Bool). cond x 1 0) (ne_eqb b lf (none 0 (omega arith))), lfs_line t rest (no_lf_tail b t none))

lfs_listed : (tests : List (List ℕ)) → ((k : ℕ) → NoLf (get_or tests k [])) → lfs (listed tests) ≡ length tests
lfs_listed [] none = refl
lfs_listed (t ∷ tests) none =
    omega (arith, lfs_line t (lf ∷ listed tests) (none 0), sum_by-cons one_lf lf (listed tests), lfs_listed tests (λ k. none (suc k)))

pub counted : {text : List ℕ} {tests : List (List ℕ)} → FallsInto text tests → lfs text ≡ length tests
counted {tests = tests} f = ap lfs f.whole ∙ lfs_listed tests f.each

-- A test that stands at a place: its LF is in the text, and is the first from there on; between stands the test, and behind it the rest.
module _ {text : List ℕ} {at : ℕ} {test : List ℕ} (t : StandsAt text at test) where
  pub lf_within : at + length test < length text
  lf_within = omega (arith, length-drop at text, ap length t.stands, length-append test (lf ∷ t.rest))

  byte_of : (k : ℕ) → at ≤ k → k - at < length test → get_or test (k - at) 0 ≡ get_or text k 0
  byte_of k high low =
      let place : at + (k - at) ≡ k = omega arith in
      sym (get_or-append test (lf ∷ t.rest) 0 (k - at) low) ∙ sym (ap (λ (l : List ℕ). get_or l (k - at) 0) t.stands) ∙ get_or-drop at text (k - at) 0 ∙ ap (λ (i : ℕ). get_or text i 0) place

  first_lf : FirstLf text at (at + length test)
  first_lf = record {
    onward = omega arith;
    within = omega (arith, lf_within);
    passed = λ k low high same. t.line (k - at) (omega arith) (byte_of k high (omega arith) ∙ same);
    found = λ h. sym (get_or-drop at text (length test) 0) ∙ ap (λ (l : List ℕ). get_or l (length test) 0) t.stands ∙ get_or-append_seam test lf t.rest 0;
  }

  pub end_of_line : {end : ℕ} → FirstLf text at end → end ≡ at + length test
  end_of_line {end} f = find_lf_determined text at end (at + length test) f first_lf

  pub line_text : {end : ℕ} → FirstLf text at end → stretch text at end ≡ test
  line_text {end} f =
      let long : end - at ≡ length test = omega (arith, end_of_line f) in
      ap₂ take long t.stands ∙ take-append_seam test (lf ∷ t.rest)

  pub behind : drop (at + length test + 1) text ≡ t.rest
  behind =
      let past : at + length test + 1 ≡ at + (length test + 1) = omega arith in
      ap (λ (n : ℕ). drop n text) past ∙ sym (drop-drop (length test + 1) at text) ∙ ap (drop (length test + 1)) t.stands ∙ drop-append-add test (lf ∷ t.rest) 1

-- where the tests from k on stand from a place on, and there is text, test k stands there, and behind it the others
pub record NextTest (text : List ℕ) (tests : List (List ℕ)) (k at : ℕ) : Type 0 where
  pub there : k < length tests
  pub stands : StandsAt text at (get_or tests k [])
  pub others : stands.rest ≡ listed (drop (k + 1) tests)

pub next_test : {text : List ℕ} {tests : List (List ℕ)} → ((k : ℕ) → NoLf (get_or tests k [])) → (k at : ℕ) → drop at text ≡ listed (drop k tests) → at < length text
    → NextTest text tests k at
next_test {text} {tests} none k at e low = go (dec_lt k (length tests))
  where
    go : Dec (k < length tests) → NextTest text tests k at
    go (no late) = absurd (omega (arith, low, length-drop at text, ap length (e ∙ ap listed (drop_of_length-le tests {i = k} (omega arith)))))
    go (yes there) =
        let next : suc k ≡ k + 1 = omega arith in
        record {
          there = there;
          stands = record { rest = listed (drop (suc k) tests); stands = e ∙ ap listed (drop-cons tests k [] there); line = none k };
          others = ap (λ (n : ℕ). listed (drop n tests)) next;
        }

-- and where no text is left, no test is
pub none_left : (tests : List (List ℕ)) → [] ≡ listed tests → length tests ≡ 0
none_left [] e = refl
none_left (t ∷ tests) e = absurd (some_line t (listed tests) e)

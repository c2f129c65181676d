-- What may follow a sign, and how it is read. Knows walks and tests only as things that some reader reads.
use mathlib.Core.Path.{◌≡◌, refl, sym, ap, ap₂, subst, ◌∙◌}
use mathlib.Core.Bool.{Bool, true, false, cond, ◌&&◌, and-eq-true_iff}
use mathlib.Core.List.{List, [], ◌∷◌, ◌++◌, append_assoc}
use Prim.Native.Nat.{ℕ, suc, ◌+◌, ◌-◌, ◌*◌, ◌/◌, ◌%◌, ◌≤◌, ◌<◌}
use native.Mathlib.Omega.{arith}
use lib.Dec.{eqb, leb}
use lib.ListN.{length}
use borrow.Author.Tests.{eqb-true, leb-true, le-leb}
use Rattle.meaning.specs.Limits.{number_limit}
use Rattle.meaning.specs.Rule.{Walk, Test, Variable, var_v, var_w, var_x, var_y, letter, digits}

-- what a reader finds: something, and the rest after it; or nothing that it can read
pub data Got (A : Type 0) : Type 0 where
  got : A → List ℕ → Got A
  bad : Got A

-- a reader
abbrev pub Reader : Type 0 → Type 0
Reader A = List ℕ → Got A

-- read on from where the first reader stopped
abbrev pub onward : {A B : Type 0} → Got A → (A → List ℕ → Got B) → Got B
onward (got a rest) f = f a rest
onward bad f = bad

-- what follows a sign, part by part: a number, a variable, a walk, a test, and then the whole is made; or it is no sign
pub data Shape (A : Type 0) : Type 0 where
  whole : A → Shape A
  number : (ℕ → Shape A) → Shape A
  variable : (Variable → Shape A) → Shape A
  walk : (Walk → Shape A) → Shape A
  test : (Test → Shape A) → Shape A
  none : Shape A

-- "NN is two decimal digits"
abbrev pub digit_byte : ℕ → Bool
digit_byte d = leb 48 d && leb d 57

unfoldable pub read_number : Reader ℕ
read_number [] = bad
read_number (d ∷ []) = bad
read_number (d ∷ (e ∷ l)) = cond (digit_byte d && digit_byte e) (got ((d - 48) * 10 + (e - 48)) l) bad

-- "Variables are `v`, `w`, `x`, `y`."
abbrev pub letters : List Variable
letters = var_v ∷ (var_w ∷ (var_x ∷ (var_y ∷ [])))

abbrev pub read_among : List Variable → ℕ → List ℕ → Got Variable
read_among [] b l = bad
read_among (v ∷ vs) b l = cond (eqb b (letter v)) (got v l) (read_among vs b l)

unfoldable pub read_variable : Reader Variable
read_variable [] = bad
read_variable (b ∷ l) = read_among letters b l

abbrev pub read_by : {A : Type 0} → Shape A → Reader Walk → Reader Test → Reader A
read_by (whole a) rw rt l = got a l
read_by (number k) rw rt l = onward (read_number l) (λ n rest. read_by (k n) rw rt rest)
read_by (variable k) rw rt l = onward (read_variable l) (λ v rest. read_by (k v) rw rt rest)
read_by (walk k) rw rt l = onward (rw l) (λ w rest. read_by (k w) rw rt rest)
read_by (test k) rw rt l = onward (rt l) (λ t rest. read_by (k t) rw rt rest)
read_by none rw rt l = bad

-- Laws of reading on.

pub got≢bad : {A : Type 0} {a : A} {rest : List ℕ} → got a rest ≡ bad → ⊥
got≢bad e = let z : ◌≡◌ {A = ℕ} 0 1 = cc in omega arith

-- where both readers found something, what the first one found
pub onward_got : {A B : Type 0} (g : Got A) (f : A → List ℕ → Got B) (b : B) (rest : List ℕ) → onward g f ≡ got b rest
    → (a : A) × (r : List ℕ) × (g ≡ got a r) × (f a r ≡ got b rest)
onward_got (got a r) f b rest e = (a, r, refl, e)
onward_got bad f b rest e = absurd (got≢bad (sym e))

-- two that read alike, and go on alike from what they read
onward_same : {A B : Type 0} (g g' : Got A) (f f' : A → List ℕ → Got B) → g ≡ g'
    → ((a : A) (r : List ℕ) → g ≡ got a r → f a r ≡ f' a r) → onward g f ≡ onward g' f'
onward_same (got a r) g' f f' e h = h a r refl ∙ ap (λ x. onward x f') e
onward_same bad g' f f' e h = ap (λ x. onward x f') e

-- a reader whose rest is no longer than what it was given
abbrev pub Shrinks : {A : Type 0} → Reader A → Type 0
Shrinks {A = A} r = (l : List ℕ) (a : A) (rest : List ℕ) → r l ≡ got a rest → length rest ≤ length l

number_shrinks : Shrinks read_number
unfolding read_number
number_shrinks [] n rest e = absurd (got≢bad (sym e))
number_shrinks (d ∷ []) n rest e = absurd (got≢bad (sym e))
number_shrinks (d ∷ (f ∷ l)) n rest e = go (digit_byte d && digit_byte f) e
  where
    go : (t : Bool) → cond t (got ((d - 48) * 10 + (f - 48)) l) bad ≡ got n rest → length rest ≤ suc (suc (length l))
    go true q = let s : l ≡ rest = cc in omega (arith, ap length s)
    go false q = absurd (got≢bad (sym q))

among_shrinks : (vs : List Variable) (b : ℕ) (l : List ℕ) (v : Variable) (rest : List ℕ) → read_among vs b l ≡ got v rest → length rest ≤ length l
among_shrinks [] b l v rest e = absurd (got≢bad (sym e))
among_shrinks (u ∷ vs) b l v rest e = go (eqb b (letter u)) e (among_shrinks vs b l v rest)
  where
    go : (t : Bool) → cond t (got u l) (read_among vs b l) ≡ got v rest → (read_among vs b l ≡ got v rest → length rest ≤ length l) → length rest ≤ length l
    go true q more = let s : l ≡ rest = cc in omega (arith, ap length s)
    go false q more = more q

variable_shrinks : Shrinks read_variable
unfolding read_variable
variable_shrinks [] v rest e = absurd (got≢bad (sym e))
variable_shrinks (b ∷ l) v rest e = omega (arith, among_shrinks letters b l v rest e)

module _ {A : Type 0} (rw : Reader Walk) (rt : Reader Test) (sw : Shrinks rw) (st : Shrinks rt) where
  pub by_shrinks : (s : Shape A) → Shrinks (read_by s rw rt)
  by_shrinks (whole b) l a rest e = let s : l ≡ rest = cc in omega (arith, ap length s)
  by_shrinks (number k) l a rest e =
      let (n, r, p, q) = onward_got (read_number l) _ a rest e in
      omega (arith, number_shrinks l n r p, by_shrinks (k n) r a rest q)
  by_shrinks (variable k) l a rest e =
      let (v, r, p, q) = onward_got (read_variable l) _ a rest e in
      omega (arith, variable_shrinks l v r p, by_shrinks (k v) r a rest q)
  by_shrinks (walk k) l a rest e =
      let (w, r, p, q) = onward_got (rw l) _ a rest e in
      omega (arith, sw l w r p, by_shrinks (k w) r a rest q)
  by_shrinks (test k) l a rest e =
      let (t, r, p, q) = onward_got (rt l) _ a rest e in
      omega (arith, st l t r p, by_shrinks (k t) r a rest q)
  by_shrinks none l a rest e = absurd (got≢bad (sym e))

  -- only what the readers do on lists no longer than this one counts
  pub by_same : (rw' : Reader Walk) (rt' : Reader Test) (n : ℕ) → ((l : List ℕ) → length l ≤ n → rw l ≡ rw' l) → ((l : List ℕ) → length l ≤ n → rt l ≡ rt' l)
      → (s : Shape A) (l : List ℕ) → length l ≤ n → read_by s rw rt l ≡ read_by s rw' rt' l
  by_same rw' rt' n hw ht (whole a) l le = refl
  by_same rw' rt' n hw ht (number k) l le = onward_same (read_number l) _ _ _ refl
      (λ m r e. by_same rw' rt' n hw ht (k m) r (omega (arith, number_shrinks l m r e)))
  by_same rw' rt' n hw ht (variable k) l le = onward_same (read_variable l) _ _ _ refl
      (λ v r e. by_same rw' rt' n hw ht (k v) r (omega (arith, variable_shrinks l v r e)))
  by_same rw' rt' n hw ht (walk k) l le = onward_same (rw l) _ _ _ (hw l le)
      (λ w r e. by_same rw' rt' n hw ht (k w) r (omega (arith, sw l w r e)))
  by_same rw' rt' n hw ht (test k) l le = onward_same (rt l) _ _ _ (ht l le)
      (λ t r e. by_same rw' rt' n hw ht (k t) r (omega (arith, st l t r e)))
  by_same rw' rt' n hw ht none l le = refl

-- What is read is what is written there. A thing has a text, and is short where every number in it has two digits.
pub record Script (A : Type 0) : Type 1 where
  pub spell : A → List ℕ
  pub short : A → Type 0

abbrev pub numbers : Script ℕ
numbers = record { spell = digits; short = λ n. n < number_limit }

-- a reader that only finds what is spelled there
abbrev pub Sound : {A : Type 0} → Script A → Reader A → Type 0
Sound {A = A} x r = (l : List ℕ) (a : A) (rest : List ℕ) → r l ≡ got a rest → (l ≡ x.spell a ++ rest) × x.short a

-- a byte is a digit
digit_bounds : (d : ℕ) → digit_byte d ≡ true → (48 ≤ d) × (d ≤ 57)
digit_bounds d h = let (p, q) = (and-eq-true_iff _ _).0 h in (leb-true 48 d p, leb-true d 57 q)

is_digit : (d : ℕ) → 48 ≤ d → d ≤ 57 → digit_byte d ≡ true
is_digit d p q = (and-eq-true_iff _ _).1 (le-leb 48 d p, le-leb d 57 q)

-- two digits are those of the number that they give
two_digits : (d e : ℕ) → digit_byte d && digit_byte e ≡ true
    → (digits ((d - 48) * 10 + (e - 48)) ≡ d ∷ (e ∷ [])) × ((d - 48) * 10 + (e - 48) < number_limit)
two_digits d e h =
    let (p, q) = (and-eq-true_iff (digit_byte d) (digit_byte e)).0 h in
    let (a, b) = digit_bounds d p in
    let (a', b') = digit_bounds e q in
    let tens : 48 + ((d - 48) * 10 + (e - 48)) / 10 ≡ d = omega arith in
    let ones : 48 + ((d - 48) * 10 + (e - 48)) % 10 ≡ e = omega arith in
    ((cc), omega arith)

pub number_sound : Sound numbers read_number
unfolding read_number
number_sound [] n rest e = absurd (got≢bad (sym e))
number_sound (d ∷ []) n rest e = absurd (got≢bad (sym e))
number_sound (d ∷ (f ∷ l)) n rest e = go (digit_byte d && digit_byte f) refl e
  where
    go : (t : Bool) → digit_byte d && digit_byte f ≡ t → cond t (got ((d - 48) * 10 + (f - 48)) l) bad ≡ got n rest
        → (d ∷ (f ∷ l) ≡ digits n ++ rest) × (n < number_limit)
    go true h q =
        let m : (d - 48) * 10 + (f - 48) ≡ n = cc in
        let s : l ≡ rest = cc in
        let (p, b) = two_digits d f h in
        (ap (λ (x : List ℕ). x ++ l) (sym p) ∙ ap₂ (λ (k : ℕ) (x : List ℕ). digits k ++ x) m s, omega arith)
    go false h q = absurd (got≢bad (sym q))

pub number_complete : (n : ℕ) (rest : List ℕ) → n < number_limit → read_number (digits n ++ rest) ≡ got n rest
unfolding read_number
number_complete n rest h =
    let t = is_digit (48 + n / 10) (omega arith) (omega arith) in
    let o = is_digit (48 + n % 10) (omega arith) (omega arith) in
    let m : (48 + n / 10 - 48) * 10 + (48 + n % 10 - 48) ≡ n = omega arith in
    let both : digit_byte (48 + n / 10) && digit_byte (48 + n % 10) ≡ true = (and-eq-true_iff _ _).1 (t, o) in
    rw both (ap (λ (k : ℕ). got k rest) m)

-- a letter is that of the variable read, and each letter is read
among_sound : (vs : List Variable) (b : ℕ) (l : List ℕ) (v : Variable) (rest : List ℕ) → read_among vs b l ≡ got v rest → b ∷ l ≡ letter v ∷ rest
among_sound [] b l v rest e = absurd (got≢bad (sym e))
among_sound (u ∷ vs) b l v rest e = go (eqb b (letter u)) refl e (among_sound vs b l v rest)
  where
    go : (t : Bool) → eqb b (letter u) ≡ t → cond t (got u l) (read_among vs b l) ≡ got v rest
        → (read_among vs b l ≡ got v rest → b ∷ l ≡ letter v ∷ rest) → b ∷ l ≡ letter v ∷ rest
    go true h q more =
        let m : u ≡ v = cc in
        let s : l ≡ rest = cc in
        ap₂ {C = List ℕ} (λ c k. c ∷ k) (eqb-true b (letter u) h ∙ ap letter m) s
    go false h q more = more q

pub variable_sound : (l : List ℕ) (v : Variable) (rest : List ℕ) → read_variable l ≡ got v rest → l ≡ letter v ∷ rest
unfolding read_variable
variable_sound [] v rest e = absurd (got≢bad (sym e))
variable_sound (b ∷ l) v rest e = among_sound letters b l v rest e

pub variable_complete : (v : Variable) (rest : List ℕ) → read_variable (letter v ∷ rest) ≡ got v rest
unfolding read_variable
variable_complete var_v rest = refl
variable_complete var_w rest = refl
variable_complete var_x rest = refl
variable_complete var_y rest = refl

module _ {A : Type 0} (x : Script A) (ws : Script Walk) (ts : Script Test) where
  -- after these bytes, the parts of this shape make something whose text is the bytes and the parts' texts
  abbrev pub Tells : List ℕ → Shape A → Type 0
  Tells bytes (whole a) = (bytes ≡ x.spell a) × x.short a
  Tells bytes (number k) = (n : ℕ) → n < number_limit → Tells (bytes ++ digits n) (k n)
  Tells bytes (variable k) = (v : Variable) → Tells (bytes ++ letter v ∷ []) (k v)
  Tells bytes (walk k) = (w : Walk) → ws.short w → Tells (bytes ++ ws.spell w) (k w)
  Tells bytes (test k) = (t : Test) → ts.short t → Tells (bytes ++ ts.spell t) (k t)
  Tells bytes none = Unit {0}

  pub by_sound : (rw : Reader Walk) (rt : Reader Test) → Sound ws rw → Sound ts rt
      → (s : Shape A) (bytes : List ℕ) → Tells bytes s
      → (l : List ℕ) (a : A) (rest : List ℕ) → read_by s rw rt l ≡ got a rest → (bytes ++ l ≡ x.spell a ++ rest) × x.short a
  by_sound rw rt hw ht (whole b) bytes tell l a rest e =
      let p : b ≡ a = cc in
      let q : l ≡ rest = cc in
      (ap₂ ◌++◌ (tell.0 ∙ ap x.spell p) q, subst x.short p tell.1)
  by_sound rw rt hw ht (number k) bytes tell l a rest e =
      let (n, r, p, q) = onward_got (read_number l) _ a rest e in
      let (s, b) = number_sound l n r p in
      let (t, c) = by_sound rw rt hw ht (k n) (bytes ++ digits n) (tell n b) r a rest q in
      (ap (λ y. bytes ++ y) s ∙ sym (append_assoc bytes (digits n) r) ∙ t, c)
  by_sound rw rt hw ht (variable k) bytes tell l a rest e =
      let (v, r, p, q) = onward_got (read_variable l) _ a rest e in
      let s = variable_sound l v r p in
      let (t, c) = by_sound rw rt hw ht (k v) (bytes ++ letter v ∷ []) (tell v) r a rest q in
      (ap (λ y. bytes ++ y) s ∙ sym (append_assoc bytes (letter v ∷ []) r) ∙ t, c)
  by_sound rw rt hw ht (walk k) bytes tell l a rest e =
      let (w, r, p, q) = onward_got (rw l) _ a rest e in
      let (s, b) = hw l w r p in
      let (t, c) = by_sound rw rt hw ht (k w) (bytes ++ ws.spell w) (tell w b) r a rest q in
      (ap (λ y. bytes ++ y) s ∙ sym (append_assoc bytes (ws.spell w) r) ∙ t, c)
  by_sound rw rt hw ht (test k) bytes tell l a rest e =
      let (w, r, p, q) = onward_got (rt l) _ a rest e in
      let (s, b) = ht l w r p in
      let (t, c) = by_sound rw rt hw ht (k w) (bytes ++ ts.spell w) (tell w b) r a rest q in
      (ap (λ y. bytes ++ y) s ∙ sym (append_assoc bytes (ts.spell w) r) ∙ t, c)
  by_sound rw rt hw ht none bytes tell l a rest e = absurd (got≢bad (sym e))

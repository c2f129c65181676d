-- Reading a rule's text back: the walk or the test that opens a list of bytes, and that at most one does. Knows document 01's text of a rule; no code.
use mathlib.Core.Path.{◌≡◌, refl, sym, ap, subst, subst₂, ◌∙◌}
use mathlib.Core.Logic.{◌⊎◌, inl, inr}
use mathlib.Core.Bool.{Bool, true, false, cond, true≢false}
use mathlib.Core.List.{List, [], ◌∷◌, ◌++◌, append_assoc}
use Prim.Native.Nat.{ℕ, zero, suc, ◌≤◌, ◌<◌}
use native.Mathlib.Omega.{arith}
use lib.Dec.{eqb}
use lib.ListN.{length}
use borrow.Author.Tests.{eqb-true}
use Rattle.meaning.specs.Limits.{number_limit}
use Rattle.meaning.specs.Rule.{
  Walk,
  Test,
  letter,
  plain,
  plus,
  act,
  undo,
  next,
  prev,
  seq,
  alt,
  star,
  check,
  conv,
  pick,
  always,
  fluent,
  neg,
  both,
  diamond,
  exists,
  walk_text,
  test_text,
  walk_names,
  test_names,
  up_to,
  other,
  as_written,
  Kind,
  test_kind,
  walk_kind,
  job_kind,
  Rule,
  of_test,
  of_walk,
  Fits,
  Opens,
  varies_in,
}
use Rattle.meaning.specs.Refusal.{Allowed, BadRule, BadOpening}
use Shapes.{
  Got,
  got,
  bad,
  Reader,
  onward,
  Shape,
  whole,
  number,
  variable,
  walk,
  test,
  none,
  read_by,
  got≢bad,
  Shrinks,
  by_shrinks,
  by_same,
  Script,
  Sound,
  number_complete,
  variable_complete,
  Tells,
  by_sound,
}
pub mod Shapes

-- A row of the table of signs: the sign's byte, and what follows it.
pub record Sign (A : Type 0) : Type 0 where
  pub byte : ℕ
  pub shape : Shape A

infix 5 ◌is◌
abbrev pub ◌is◌ : {A : Type 0} → ℕ → Shape A → Sign A
b is s = record { byte = b; shape = s }

abbrev pub look_up : {A : Type 0} → List (Sign A) → ℕ → Shape A
look_up [] b = none
look_up (row ∷ rows) b = cond (eqb b row.byte) row.shape (look_up rows b)

abbrev pub walk_table : List (Sign Walk)
walk_table =
    (97 is number (λ a. whole (act (plain a))))
    ∷ ((114 is number (λ a. whole (undo (plain a))))
    ∷ ((110 is whole next)
    ∷ ((117 is whole prev)
    ∷ ((59 is walk (λ v. walk (λ w. whole (seq v w))))
    ∷ ((124 is walk (λ v. walk (λ w. whole (alt v w))))
    ∷ ((42 is walk (λ w. whole (star w)))
    ∷ ((63 is test (λ t. whole (check t)))
    ∷ ((45 is walk (λ w. whole (conv w)))
    ∷ ((98 is number (λ a. variable (λ v. whole (act (plus a v)))))
    ∷ ((115 is number (λ a. variable (λ v. whole (undo (plus a v)))))
    ∷ ((112 is variable (λ v. walk (λ w. whole (pick v w)))) ∷ [])))))))))))

abbrev pub test_table : List (Sign Test)
test_table =
    (49 is whole always)
    ∷ ((102 is number (λ i. whole (fluent (plain i))))
    ∷ ((33 is test (λ t. whole (neg t)))
    ∷ ((38 is test (λ t. test (λ u. whole (both t u))))
    ∷ ((60 is walk (λ w. test (λ t. whole (diamond w t))))
    ∷ ((103 is number (λ i. variable (λ v. whole (fluent (plus i v)))))
    ∷ ((101 is variable (λ v. test (λ t. whole (exists v t)))) ∷ []))))))

abbrev pub walk_sign : ℕ → Shape Walk
walk_sign b = look_up walk_table b

abbrev pub test_sign : ℕ → Shape Test
test_sign b = look_up test_table b

-- read a sign and what follows it
abbrev step : {A : Type 0} → (ℕ → Shape A) → Reader Walk → Reader Test → Reader A
step sign rw rt [] = bad
step sign rw rt (b ∷ l) = read_by (sign b) rw rt l

-- The two readers, with a bound on how deep their calls of one another go. Only this part of the file sees the bound. (They open to whoever computes
-- with them, as the P list does.)
pub record Readers : Type 0 where
  pub walks : Reader Walk
  pub tests : Reader Test

unfoldable pub readers : ℕ → Readers
readers zero = record { walks = λ l. bad; tests = λ l. bad }
readers (suc k) =
    let r = readers k in
    record { walks = step walk_sign r.walks r.tests; tests = step test_sign r.walks r.tests }

unfoldable pub walk_read : Reader Walk
unfolding readers
walk_read l = (readers (length l)).walks l

unfoldable pub test_read : Reader Test
unfolding readers
test_read l = (readers (length l)).tests l

-- a reader that takes a byte at least
abbrev pub Shorter : {A : Type 0} → Reader A → Type 0
Shorter {A = A} r = (l : List ℕ) (a : A) (rest : List ℕ) → r l ≡ got a rest → length rest < length l

weaken : {A : Type 0} (r : Reader A) → Shorter r → Shrinks r
weaken r h l a rest e = omega (arith, h l a rest e)

step_shorter : {A : Type 0} (sign : ℕ → Shape A) (rw : Reader Walk) (rt : Reader Test) → Shorter rw → Shorter rt → Shorter (step sign rw rt)
step_shorter sign rw rt hw ht [] a rest e = absurd (got≢bad (sym e))
step_shorter sign rw rt hw ht (b ∷ l) a rest e = omega (arith, by_shrinks rw rt (weaken rw hw) (weaken rt ht) (sign b) l a rest e)

shorter_within : (k : ℕ) → Shorter (readers k).walks × Shorter (readers k).tests
unfolding readers
shorter_within zero = (λ l w rest e. absurd (got≢bad (sym e)), λ l t rest e. absurd (got≢bad (sym e)))
shorter_within (suc k) =
    let (hw, ht) = shorter_within k in
    (step_shorter walk_sign (readers k).walks (readers k).tests hw ht, step_shorter test_sign (readers k).walks (readers k).tests hw ht)

-- any bound that the list's length does not pass gives the same
abbrev Alike : Readers → Readers → List ℕ → Type 0
Alike r s l = (r.walks l ≡ s.walks l) × (r.tests l ≡ s.tests l)

same_within : (k j : ℕ) (l : List ℕ) → length l ≤ k → length l ≤ j → Alike (readers k) (readers j) l
unfolding readers
same_within zero zero l p q = (refl, refl)
same_within zero (suc j) [] p q = (refl, refl)
same_within zero (suc j) (b ∷ l) p q = absurd (omega arith)
same_within (suc k) zero [] p q = (refl, refl)
same_within (suc k) zero (b ∷ l) p q = absurd (omega arith)
same_within (suc k) (suc j) [] p q = (refl, refl)
same_within (suc k) (suc j) (b ∷ l) p q =
    let (hw, ht) = shorter_within k in
    let r = readers k in
    let s = readers j in
    let same_walks : (m : List ℕ) → length m ≤ length l → r.walks m ≡ s.walks m = λ m h. (same_within k j m (omega arith) (omega arith)).0 in
    let same_tests : (m : List ℕ) → length m ≤ length l → r.tests m ≡ s.tests m = λ m h. (same_within k j m (omega arith) (omega arith)).1 in
    let each : (A : Type 0) (x : Shape A) → read_by x r.walks r.tests l ≡ read_by x s.walks s.tests l =
    λ A x. by_same r.walks r.tests (weaken _ hw) (weaken _ ht) s.walks s.tests (length l) same_walks same_tests x l (omega arith) in
    (each Walk (walk_sign b), each Test (test_sign b))

-- The step laws: all that later proofs need of the readers.
pub walk_none : walk_read [] ≡ bad
unfolding walk_read readers
walk_none = refl

pub test_none : test_read [] ≡ bad
unfolding test_read readers
test_none = refl

pub walk_shorter : Shorter walk_read
unfolding walk_read
walk_shorter l w rest e = (shorter_within (length l)).0 l w rest e

pub test_shorter : Shorter test_read
unfolding test_read
test_shorter l t rest e = (shorter_within (length l)).1 l t rest e

each_step : {A : Type 0} (x : Shape A) (l : List ℕ) → read_by x (readers (length l)).walks (readers (length l)).tests l ≡ read_by x walk_read test_read l
unfolding walk_read test_read
each_step x l =
    let n = length l in
    let (hw, ht) = shorter_within n in
    by_same (readers n).walks (readers n).tests (weaken _ hw) (weaken _ ht) walk_read test_read n (λ m h. (same_within n (length m) m h (omega arith)).0) (λ m h. (same_within n (length m) m h (omega arith)).1) x l (omega arith)

pub walk_step : (b : ℕ) (l : List ℕ) → walk_read (b ∷ l) ≡ read_by (walk_sign b) walk_read test_read l
unfolding walk_read test_read readers
walk_step b l = each_step (walk_sign b) l

pub test_step : (b : ℕ) (l : List ℕ) → test_read (b ∷ l) ≡ read_by (test_sign b) walk_read test_read l
unfolding walk_read test_read readers
test_step b l = each_step (test_sign b) l

-- What is read is what is written: no reader finds a rule that is not spelled there, or one with a number of more than two digits.
abbrev pub ShortWalk : Walk → Type 0
ShortWalk w = (walk_names (up_to as_written) other w ≤ number_limit) × (walk_names other (up_to as_written) w ≤ number_limit)

abbrev pub ShortTest : Test → Type 0
ShortTest t = (test_names (up_to as_written) other t ≤ number_limit) × (test_names other (up_to as_written) t ≤ number_limit)

abbrev walk_script : Script Walk
walk_script = record { spell = walk_text; short = ShortWalk }

abbrev test_script : Script Test
test_script = record { spell = test_text; short = ShortTest }

-- what each row of a table makes has the sign and the texts of its parts for its text
abbrev AllTell : {A : Type 0} → Script A → List (Sign A) → Type 0
AllTell x [] = Unit {0}
AllTell x (row ∷ rows) = Tells x walk_script test_script (row.byte ∷ []) row.shape × AllTell x rows

row_tells : {A : Type 0} (x : Script A) (rows : List (Sign A)) → AllTell x rows → (b : ℕ) → Tells x walk_script test_script (b ∷ []) (look_up rows b)
row_tells x [] all b = tt
row_tells x (row ∷ rows) all b = go (eqb b row.byte) refl (row_tells x rows all.1 b)
  where
    go : (t : Bool) → eqb b row.byte ≡ t → Tells x walk_script test_script (b ∷ []) (look_up rows b) → Tells x walk_script test_script (b ∷ []) (cond t row.shape (look_up rows b))
    go true e rest = subst (λ (c : ℕ). Tells x walk_script test_script (c ∷ []) row.shape) (sym (eqb-true b row.byte e)) all.0
    go false e rest = rest

walks_tell : AllTell walk_script walk_table
unfolding walk_text walk_names
walks_tell = (
  λ a h. (refl, (omega arith, omega arith)),
  (
    λ a h. (refl, (omega arith, omega arith)),
    (
      (refl, (omega arith, omega arith)),
      (
        (refl, (omega arith, omega arith)),
        (
          λ v p w q. (refl, (omega arith, omega arith)),
          (
            λ v p w q. (refl, (omega arith, omega arith)),
            (
              λ w p. (refl, p),
              (
                λ t p. (refl, p),
                (
                  λ w p. (refl, p),
                  (λ a h v. (refl, (omega arith, omega arith)), (λ a h v. (refl, (omega arith, omega arith)), (λ v w p. (refl, p), tt))),
                ),
              ),
            ),
          ),
        ),
      ),
    ),
  ),
)

tests_tell : AllTell test_script test_table
unfolding test_text test_names
tests_tell = (
  (refl, (omega arith, omega arith)),
  (
    λ a h. (refl, (omega arith, omega arith)),
    (
      λ t p. (refl, p),
      (
        λ t p u q. (refl, (omega arith, omega arith)),
        (λ w p t q. (refl, (omega arith, omega arith)), (λ a h v. (refl, (omega arith, omega arith)), (λ v t p. (refl, p), tt))),
      ),
    ),
  ),
)

step_sound : {A : Type 0} (x : Script A) (rows : List (Sign A)) → AllTell x rows
    → (rw : Reader Walk) (rt : Reader Test) → Sound walk_script rw → Sound test_script rt → Sound x (step (look_up rows) rw rt)
step_sound x rows all rw rt hw ht [] a rest e = absurd (got≢bad (sym e))
step_sound x rows all rw rt hw ht (b ∷ l) a rest e =
    by_sound x walk_script test_script rw rt hw ht (look_up rows b) (b ∷ []) (row_tells x rows all b) l a rest e

sound_within : (k : ℕ) → Sound walk_script (readers k).walks × Sound test_script (readers k).tests
unfolding readers
sound_within zero = (λ l w rest e. absurd (got≢bad (sym e)), λ l t rest e. absurd (got≢bad (sym e)))
sound_within (suc k) =
    let (hw, ht) = sound_within k in (
      step_sound walk_script walk_table walks_tell (readers k).walks (readers k).tests hw ht,
      step_sound test_script test_table tests_tell (readers k).walks (readers k).tests hw ht,
    )

pub walk_sound : (l : List ℕ) (w : Walk) (rest : List ℕ) → walk_read l ≡ got w rest → (l ≡ walk_text w ++ rest) × ShortWalk w
unfolding walk_read
walk_sound l w rest e = (sound_within (length l)).0 l w rest e

pub test_sound : (l : List ℕ) (t : Test) (rest : List ℕ) → test_read l ≡ got t rest → (l ≡ test_text t ++ rest) × ShortTest t
unfolding test_read
test_sound l t rest e = (sound_within (length l)).1 l t rest e

-- two parts, one after the other
two_parts : {A B C : Type 0} (ra : Reader A) (rb : Reader B) (f : A → B → C) (x y rest : List ℕ) (a : A) (b : B)
    → ra (x ++ (y ++ rest)) ≡ got a (y ++ rest) → rb (y ++ rest) ≡ got b rest
    → onward (ra ((x ++ y) ++ rest)) (λ c r. onward (rb r) (λ d s. got (f c d) s)) ≡ got (f a b) rest
two_parts ra rb f x y rest a b p q = simp (append_assoc, p, q)

-- What is written is read: a rule whose numbers have two digits is found where it is spelled.
mutual
  unfolding walk_text walk_names

  pub walk_complete : (w : Walk) (rest : List ℕ) → ShortWalk w → walk_read (walk_text w ++ rest) ≡ got w rest
  walk_complete (act (plain a)) rest h = walk_step _ _ ∙ simp (number_complete a rest (omega arith))
  walk_complete (act (plus a v)) rest h = walk_step _ _ ∙ simp (number_complete a (letter v ∷ rest) (omega arith), variable_complete v rest)
  walk_complete (undo (plain a)) rest h = walk_step _ _ ∙ simp (number_complete a rest (omega arith))
  walk_complete (undo (plus a v)) rest h = walk_step _ _ ∙ simp (number_complete a (letter v ∷ rest) (omega arith), variable_complete v rest)
  walk_complete next rest h = walk_step _ _
  walk_complete prev rest h = walk_step _ _
  walk_complete (seq v w) rest h =
      walk_step _ _ ∙ two_parts walk_read walk_read seq (walk_text v) (walk_text w) rest v w (walk_complete v (walk_text w ++ rest) (omega arith, omega arith)) (walk_complete w rest (omega arith, omega arith))
  walk_complete (alt v w) rest h =
      walk_step _ _ ∙ two_parts walk_read walk_read alt (walk_text v) (walk_text w) rest v w (walk_complete v (walk_text w ++ rest) (omega arith, omega arith)) (walk_complete w rest (omega arith, omega arith))
  walk_complete (star w) rest h = walk_step _ _ ∙ simp (walk_complete w rest h)
  walk_complete (check t) rest h = walk_step _ _ ∙ simp (test_complete t rest h)
  walk_complete (conv w) rest h = walk_step _ _ ∙ simp (walk_complete w rest h)
  walk_complete (pick v w) rest h = walk_step _ _ ∙ simp (variable_complete v (walk_text w ++ rest), walk_complete w rest h)

  pub test_complete : (t : Test) (rest : List ℕ) → ShortTest t → test_read (test_text t ++ rest) ≡ got t rest
  test_complete always rest h = test_step _ _
  test_complete (fluent (plain i)) rest h = test_step _ _ ∙ simp (number_complete i rest (omega arith))
  test_complete (fluent (plus i v)) rest h = test_step _ _ ∙ simp (number_complete i (letter v ∷ rest) (omega arith), variable_complete v rest)
  test_complete (neg t) rest h = test_step _ _ ∙ simp (test_complete t rest h)
  test_complete (both t u) rest h =
      test_step _ _ ∙ two_parts test_read test_read both (test_text t) (test_text u) rest t u (test_complete t (test_text u ++ rest) (omega arith, omega arith)) (test_complete u rest (omega arith, omega arith))
  test_complete (diamond w t) rest h =
      test_step _ _ ∙ two_parts walk_read test_read diamond (walk_text w) (test_text t) rest w t (walk_complete w (test_text t ++ rest) (omega arith, omega arith)) (test_complete t rest (omega arith, omega arith))
  test_complete (exists v t) rest h = test_step _ _ ∙ simp (variable_complete v (test_text t ++ rest), test_complete t rest h)

-- A rule of a kind. "A rule is used as a *test*, as a *walk* .. or as a *job*."
abbrev pub rule_read : Kind → Reader Rule
rule_read test_kind l = onward (test_read l) (λ t rest. got (of_test t) rest)
rule_read walk_kind l = onward (walk_read l) (λ w rest. got (of_walk w) rest)
rule_read job_kind l = onward (walk_read l) (λ w rest. got (of_walk w) rest)

opens_test : (bytes : List ℕ) (t : Test) (rest : List ℕ) → Opens test_kind bytes (of_test t) rest → test_read bytes ≡ got t rest
opens_test bytes t rest o = ap test_read o.spells ∙ test_complete t rest (o.short_actions, o.short_fluents)

-- a walk and a job are read alike
opens_walk : (kind : Kind) (bytes : List ℕ) (w : Walk) (rest : List ℕ) → Opens kind bytes (of_walk w) rest → walk_read bytes ≡ got w rest
opens_walk kind bytes w rest o = ap walk_read o.spells ∙ walk_complete w rest (o.short_actions, o.short_fluents)

-- what these bytes open with is what is read
pub read_of_opens : (kind : Kind) (bytes : List ℕ) (r : Rule) (rest : List ℕ) → Opens kind bytes r rest → rule_read kind bytes ≡ got r rest
read_of_opens test_kind bytes (of_test t) rest o = simp (opens_test bytes t rest o)
read_of_opens test_kind bytes (of_walk w) rest o = absurd o.fits
read_of_opens walk_kind bytes (of_test t) rest o = absurd o.fits
read_of_opens walk_kind bytes (of_walk w) rest o = simp (opens_walk walk_kind bytes w rest o)
read_of_opens job_kind bytes (of_test t) rest o = absurd o.fits
read_of_opens job_kind bytes (of_walk w) rest o = simp (opens_walk job_kind bytes w rest o)

test_opens : (bytes : List ℕ) (t : Test) (rest : List ℕ) → test_read bytes ≡ got t rest → Opens test_kind bytes (of_test t) rest
test_opens bytes t rest e =
    let (s, h) = test_sound bytes t rest e in
    record { fits = tt; spells = s; short_actions = h.0; short_fluents = h.1 }

walk_opens : (kind : Kind) → ((w : Walk) → Fits kind (of_walk w)) → (bytes : List ℕ) (w : Walk) (rest : List ℕ) → walk_read bytes ≡ got w rest → Opens kind bytes (of_walk w) rest
walk_opens kind fit bytes w rest e =
    let (s, h) = walk_sound bytes w rest e in
    record { fits = fit w; spells = s; short_actions = h.0; short_fluents = h.1 }

opened : {A : Type 0} (kind : Kind) (bytes : List ℕ) (of : A → Rule) (g : Got A)
    → ((a : A) (rest : List ℕ) → g ≡ got a rest → Opens kind bytes (of a) rest)
    → (r : Rule) (rest : List ℕ) → onward g (λ a s. got (of a) s) ≡ got r rest → Opens kind bytes r rest
opened kind bytes of (got a s) h r rest e = subst₂ (Opens kind bytes) (cc) (cc) (h a s refl)
opened kind bytes of bad h r rest e = absurd (got≢bad (sym e))

-- what is read is what these bytes open with
pub opens_of_read : (kind : Kind) (bytes : List ℕ) (r : Rule) (rest : List ℕ) → rule_read kind bytes ≡ got r rest → Opens kind bytes r rest
opens_of_read test_kind bytes = opened test_kind bytes of_test (test_read bytes) (test_opens bytes)
opens_of_read walk_kind bytes = opened walk_kind bytes of_walk (walk_read bytes) (walk_opens walk_kind (λ w. tt) bytes)
opens_of_read job_kind bytes = opened job_kind bytes of_walk (walk_read bytes) (walk_opens job_kind (λ w. tt) bytes)

-- Reading is unique: the bytes open with at most one rule of a kind, and one rest follows it.
pub unique_reading : {kind : Kind} {bytes : List ℕ} {r r' : Rule} {rest rest' : List ℕ} → Opens kind bytes r rest → Opens kind bytes r' rest' → (r ≡ r') × (rest ≡ rest')
unique_reading {kind} {bytes} {r} {r'} {rest} {rest'} o o' =
    let e = read_of_opens kind bytes r rest o in
    let e' = read_of_opens kind bytes r' rest' o' in
    ((cc), (cc))

-- no rule is read: the bytes open with none
pub none_of_bad : (kind : Kind) (bytes : List ℕ) → rule_read kind bytes ≡ bad → (r : Rule) (rest : List ℕ) → Opens kind bytes r rest → ⊥
none_of_bad kind bytes e r rest o = got≢bad (sym (read_of_opens kind bytes r rest o) ∙ e)

-- the readers decide whether the bytes open with a rule of that kind
pub opens? : (kind : Kind) (bytes : List ℕ)
    → ((r : Rule) × (rest : List ℕ) × Opens kind bytes r rest) ⊎ ((r : Rule) (rest : List ℕ) → Opens kind bytes r rest → ⊥)
opens? kind bytes = go (rule_read kind bytes) refl
  where
    go : (g : Got Rule) → rule_read kind bytes ≡ g → ((r : Rule) × (rest : List ℕ) × Opens kind bytes r rest) ⊎ ((r : Rule) (rest : List ℕ) → Opens kind bytes r rest → ⊥)
    go (got r rest) e = inl (r, rest, opens_of_read kind bytes r rest e)
    go bad e = inr (none_of_bad kind bytes e)

-- "6 for the new signs in sheet=1, or domain 0 in a call": bytes that open with a rule of these signs open with no rule that is allowed; and what 6 leaves
pub barred : {domain : ℕ} {kind : Kind} {bytes : List ℕ} {r : Rule} {rest : List ℕ} → Opens kind bytes r rest → domain ≡ 0 → varies_in r ≡ true
    → (r' : Rule) (rest' : List ℕ) → Opens kind bytes r' rest' → Allowed domain r' → ⊥
barred o empty varies r' rest' o' allowed = true≢false (sym varies ∙ ap varies_in (unique_reading o o').0 ∙ allowed empty)

pub allowed_whole : {domain : ℕ} {kind : Kind} {bytes : List ℕ} (r : Rule) → Opens kind bytes r [] → (BadRule domain kind bytes → ⊥) → Allowed domain r
allowed_whole {domain} {kind} {bytes} r o fine empty = go (varies_in r) refl
  where
    go : (b : Bool) → varies_in r ≡ b → varies_in r ≡ false
    go true e = absurd (fine (inr (inr (λ r' o'. barred o empty e r' [] o'))))
    go false e = e

pub allowed_opening : {domain : ℕ} {kind : Kind} {bytes : List ℕ} (r : Rule) (rest : List ℕ) → Opens kind bytes r rest → (BadOpening domain kind bytes → ⊥) → Allowed domain r
allowed_opening {domain} {kind} {bytes} r rest o fine empty = go (varies_in r) refl
  where
    go : (b : Bool) → varies_in r ≡ b → varies_in r ≡ false
    go true e = absurd (fine (inr (inr (barred o empty e))))
    go false e = e

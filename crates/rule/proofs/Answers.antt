-- Laws of what the readers answer, sign by sign, on lists of bytes. Rests on the readers of `Reading`; no code.
use mathlib.Core.Path.{◌≡◌, refl, sym, ap, ap₂, subst, subst⁻¹, ◌∙◌}
use mathlib.Core.Bool.{Bool, true, false}
use mathlib.Core.List.{List, [], ◌++◌}
use Prim.Native.Nat.{ℕ, ◌+◌, ◌-◌, ◌≤◌, ◌<◌}
use native.Mathlib.Omega.{arith}
use lib.ListN.{length, drop, get_or, length-drop, length-append, drop_of_length-le}
use borrow.Author.Tests.{ne_eqb}
use Rattle.std.specs.Prelude.{Option, Some, None}
use Rattle.laws.specs.Bit.{gather}
use Rattle.meaning.specs.Limits.{text_limit, domain_limit}
use Rattle.meaning.specs.Rule.{Walk, Test, Variable, plain, plus, act, undo, next, prev, seq, alt, star, check, conv, pick, always, fluent, neg, both, diamond, exists}
use Rattle.meaning.specs.Rule.{walk_text, test_text, walk_depth, test_depth, walk_names, test_names, backward, walk_free, test_free, walk_varies, test_varies, Kind, test_kind, walk_kind, Rule, of_test, of_walk, text, depth}
use Rattle.meaning.proofs.Reading.Shapes.{Got, got, bad, Reader, onward, Shape, read_by, read_number, read_variable, none, number_sound, number_complete}
use Rattle.meaning.proofs.Reading.{walk_read, test_read, rule_read, walk_sign, test_sign, walk_none, test_none, walk_step, test_step, walk_sound, test_sound, read_of_opens, opens_of_read, none_of_bad}
use Rattle.rule.specs.declared.answer.Facts.{Facts}
use Rattle.grammar.specs.declared.signs.Sign.{Sign}
use Rattle.grammar.specs.declared.signs.Sign.TheVariants.{Step, NamedStep, OverWalk, OverTest, TwoWalks, Constant, NamedFluent, Denial, TwoTests, WalkThenTest, SumStep, SomeWalk, SumFluent, SomeTest, Stranger}
use Rattle.grammar.specs.Signs.{sign_table, sign_meant, turns_back}
use Rattle.spelling.specs.Scan.{NumberAt}
use Rattle.spelling.proofs.TwoDigits.{here}
use Rattle.grammar.specs.Letters.{place, LetterAt}
use Rattle.rule.specs.Facts.{facts_of, depth_in, PlaceWithin, leaf_of, step_of, fluent_of, lettered_of, above_of, bound_of, beside_of, inside_of}
use Rattle.rule.specs.Read.{ReadAt}
use Rattle.grammar.proofs.Lettering.{place_low}
use Rattle.rule.proofs.Variables.{letter_read, letter_unread, alone, joined, taken_off}
use Rattle.grammar.proofs.Numbers.{after_part_law}
use Rattle.grammar.proofs.SignTable.{
  Strange,
  SignIs,
  sign_is,
  act_sign,
  undo_sign,
  next_sign,
  prev_sign,
  seq_sign,
  alt_sign,
  star_sign,
  conv_sign,
  check_sign,
  always_sign,
  fluent_sign,
  neg_sign,
  both_sign,
  diamond_sign,
  sum_act_sign,
  sum_undo_sign,
  pick_sign,
  sum_fluent_sign,
  exists_sign,
  no_sign,
}

-- The answer that goes with what a reader of lists finds.
abbrev answer : {A : Type 0} → (A → Rule) → ℕ → ℕ → Got A → Option Facts
answer of domain at bad = None
answer of domain at (got a rest) = Some (facts_of domain (at + length (text (of a))) (of a))

answer_for : {A : Type 0} (of : A → Rule) (domain at : ℕ) (g : Got A) → answer (λ (r : Rule). r) domain at (onward g (λ a rest. got (of a) rest)) ≡ answer of domain at g
answer_for of domain at (got a rest) = refl
answer_for of domain at bad = refl

-- the answer that goes with what is read meets the contract, and no other does
answer_meets : (kind : Kind) (domain : ℕ) (bytes : List ℕ) (at : ℕ) → ReadAt kind domain bytes at (answer (λ (r : Rule). r) domain at (rule_read kind (drop at bytes)))
answer_meets kind domain bytes at = go (rule_read kind (drop at bytes)) refl
  where
    go : (g : Got Rule) → rule_read kind (drop at bytes) ≡ g → ReadAt kind domain bytes at (answer (λ (r : Rule). r) domain at g)
    go (got r rest) e = (r, rest, opens_of_read kind (drop at bytes) r rest e, refl)
    go bad e = none_of_bad kind (drop at bytes) e

answer_only : (kind : Kind) (domain : ℕ) (bytes : List ℕ) (at : ℕ) (r : Option Facts) → ReadAt kind domain bytes at r → r ≡ answer (λ (r : Rule). r) domain at (rule_read kind (drop at bytes))
answer_only kind domain bytes at None h = go (rule_read kind (drop at bytes)) refl
  where
    go : (g : Got Rule) → rule_read kind (drop at bytes) ≡ g → None ≡ answer (λ (r : Rule). r) domain at g
    go (got r rest) e = absurd (h r rest (opens_of_read kind (drop at bytes) r rest e))
    go bad e = refl
answer_only kind domain bytes at (Some f) h =
    let (r, rest, o, e) = h in
    ap Some e ∙ ap (answer (λ (r : Rule). r) domain at) (sym (read_of_opens kind (drop at bytes) r rest o))

-- the same for one of the two readers
walk_is : (domain : ℕ) (bytes : List ℕ) (at : ℕ) (r : Option Facts) → ReadAt walk_kind domain bytes at r → r ≡ answer of_walk domain at (walk_read (drop at bytes))
walk_is domain bytes at r h = answer_only walk_kind domain bytes at r h ∙ answer_for of_walk domain at (walk_read (drop at bytes))

test_is : (domain : ℕ) (bytes : List ℕ) (at : ℕ) (r : Option Facts) → ReadAt test_kind domain bytes at r → r ≡ answer of_test domain at (test_read (drop at bytes))
test_is domain bytes at r h = answer_only test_kind domain bytes at r h ∙ answer_for of_test domain at (test_read (drop at bytes))

walk_meets : (domain : ℕ) (bytes : List ℕ) (at : ℕ) (g : Got Walk) → walk_read (drop at bytes) ≡ g → (r : Option Facts) → r ≡ answer of_walk domain at g → ReadAt walk_kind domain bytes at r
walk_meets domain bytes at g p r q =
    subst (ReadAt walk_kind domain bytes at) (answer_for of_walk domain at (walk_read (drop at bytes)) ∙ ap (answer of_walk domain at) p ∙ sym q) (answer_meets walk_kind domain bytes at)

test_meets : (domain : ℕ) (bytes : List ℕ) (at : ℕ) (g : Got Test) → test_read (drop at bytes) ≡ g → (r : Option Facts) → r ≡ answer of_test domain at g → ReadAt test_kind domain bytes at r
test_meets domain bytes at g p r q =
    subst (ReadAt test_kind domain bytes at) (answer_for of_test domain at (test_read (drop at bytes)) ∙ ap (answer of_test domain at) p ∙ sym q) (answer_meets test_kind domain bytes at)

-- what is read where a sign stands
walk_at : (bytes : List ℕ) (at b : ℕ) → at < length bytes → get_or bytes at 0 ≡ b → walk_read (drop at bytes) ≡ read_by (walk_sign b) walk_read test_read (drop (at + 1) bytes)
walk_at bytes at b h e = ap walk_read (here bytes at h) ∙ walk_step (get_or bytes at 0) (drop (at + 1) bytes) ∙ ap (λ (x : ℕ). read_by (walk_sign x) walk_read test_read (drop (at + 1) bytes)) e

test_at : (bytes : List ℕ) (at b : ℕ) → at < length bytes → get_or bytes at 0 ≡ b → test_read (drop at bytes) ≡ read_by (test_sign b) walk_read test_read (drop (at + 1) bytes)
test_at bytes at b h e = ap test_read (here bytes at h) ∙ test_step (get_or bytes at 0) (drop (at + 1) bytes) ∙ ap (λ (x : ℕ). read_by (test_sign x) walk_read test_read (drop (at + 1) bytes)) e

-- How an answer comes from the parts' answers.
above_answer : {A B : Type 0} (of : A → Rule) (whole : A → B) (of' : B → Rule) (domain at : ℕ) (turn : Bool)
    → ((a : A) → above_of (answer of domain (at + 1) (got a [])) turn ≡ answer of' domain at (got (whole a) []))
    → (g : Got A) → above_of (answer of domain (at + 1) g) turn ≡ answer of' domain at (onward g (λ a rest. got (whole a) rest))
above_answer of whole of' domain at turn same (got a rest) = same a
above_answer of whole of' domain at turn same bad = refl

number_answer : {B : Type 0} (whole : ℕ → B) (of' : B → Rule) (domain : ℕ) (bytes : List ℕ) (at : ℕ) (made : Option ℕ → Option Facts)
    → made None ≡ None → ((n : ℕ) → made (Some n) ≡ answer of' domain at (got (whole n) []))
    → (n : Option ℕ) → NumberAt bytes (at + 1) n → made n ≡ answer of' domain at (onward (read_number (drop (at + 1) bytes)) (λ k rest. got (whole k) rest))
number_answer whole of' domain bytes at made empty same (Some n) h =
    same n ∙ ap (λ (g : Got ℕ). answer of' domain at (onward g (λ k rest. got (whole k) rest))) (sym (ap read_number h.1 ∙ number_complete n (drop (at + 1 + 2) bytes) h.0))
number_answer whole of' domain bytes at made empty same None h = go (read_number (drop (at + 1) bytes)) refl
  where
    go : (g : Got ℕ) → read_number (drop (at + 1) bytes) ≡ g → made None ≡ answer of' domain at (onward g (λ k rest. got (whole k) rest))
    go (got n rest) e = let (s, b) = number_sound (drop (at + 1) bytes) n rest e in absurd (h n rest b s)
    go bad e = empty

-- a number with a letter behind it
module _ {B : Type 0} (whole : ℕ → Variable → B) (of' : B → Rule) (domain : ℕ) (bytes : List ℕ) (at : ℕ) (made : Option ℕ → Option Facts) where
  abbrev after_number : Got ℕ → Got B
  after_number g = onward g (λ k rest. onward (read_variable rest) (λ v end. got (whole k v) end))

  abbrev after_letter : ℕ → Got Variable → Got B
  after_letter k g = onward g (λ v end. got (whole k v) end)

  sum_answer : made None ≡ None → ((n : ℕ) (v : Variable) → lettered_of (made (Some n)) (Some (place v)) ≡ answer of' domain at (got (whole n v) []))
      → (n : Option ℕ) (l : Option ℕ) → NumberAt bytes (at + 1) n → LetterAt bytes (at + 3) l → lettered_of (made n) l ≡ answer of' domain at (after_number (read_number (drop (at + 1) bytes)))
  sum_answer empty same None l h i = none l ∙ go (read_number (drop (at + 1) bytes)) refl
    where
      none : (l : Option ℕ) → lettered_of (made None) l ≡ None
      none None = refl
      none (Some k) = ap (λ (x : Option Facts). lettered_of x (Some k)) empty

      go : (g : Got ℕ) → read_number (drop (at + 1) bytes) ≡ g → None ≡ answer of' domain at (after_number g)
      go (got n rest) e = let (s, b) = number_sound (drop (at + 1) bytes) n rest e in absurd (h n rest b s)
      go bad e = refl
  sum_answer empty same (Some n) l h i = go l i ∙ ap (λ (g : Got ℕ). answer of' domain at (after_number g)) (sym numbered)
    where
      there : at + 1 + 2 ≡ at + 3
      there = omega arith

      numbered : read_number (drop (at + 1) bytes) ≡ got n (drop (at + 3) bytes)
      numbered = ap read_number h.1 ∙ number_complete n (drop (at + 1 + 2) bytes) h.0 ∙ ap (λ (k : ℕ). got n (drop k bytes)) there

      go : (l : Option ℕ) → LetterAt bytes (at + 3) l → lettered_of (made (Some n)) l ≡ answer of' domain at (after_letter n (read_variable (drop (at + 3) bytes)))
      go None i = ap (λ (g : Got Variable). answer of' domain at (after_letter n g)) (sym (letter_unread bytes (at + 3) i))
      go (Some k) (v, e, found) =
          ap (λ (x : ℕ). lettered_of (made (Some n)) (Some x)) e
          ∙ same n v
          ∙ ap (λ (g : Got Variable). answer of' domain at (after_letter n g)) (sym (letter_read bytes (at + 3) v found))

-- a letter before a part
module _ {A B : Type 0} (of : A → Rule) (whole : Variable → A → B) (of' : B → Rule) (domain : ℕ) (bytes : List ℕ) (at : ℕ) (ra : Reader A) where
  abbrev after_part : Variable → Got A → Got B
  after_part v g = onward g (λ a end. got (whole v a) end)

  abbrev after_binder : Got Variable → Got B
  after_binder g = onward g (λ v rest. after_part v (ra rest))

  bound_answer : ((v : Variable) (a : A) → bound_of (Some (place v)) (answer of domain (at + 2) (got a [])) ≡ answer of' domain at (got (whole v a) []))
      → (l : Option ℕ) → LetterAt bytes (at + 1) l
      → bound_of l (answer of domain (at + 2) (ra (drop (at + 2) bytes))) ≡ answer of' domain at (after_binder (read_variable (drop (at + 1) bytes)))
  bound_answer same None i = ap (λ (g : Got Variable). answer of' domain at (after_binder g)) (sym (letter_unread bytes (at + 1) i))
  bound_answer same (Some k) (v, e, found) =
      ap (λ (x : ℕ). bound_of (Some x) (answer of domain (at + 2) (ra (drop (at + 2) bytes)))) e
      ∙ go (ra (drop (at + 2) bytes))
      ∙ ap (λ (j : ℕ). answer of' domain at (after_part v (ra (drop j bytes)))) there
      ∙ ap (λ (g : Got Variable). answer of' domain at (after_binder g)) (sym (letter_read bytes (at + 1) v found))
    where
      there : at + 2 ≡ at + 1 + 1
      there = omega arith

      go : (g : Got A) → bound_of (Some (place v)) (answer of domain (at + 2) g) ≡ answer of' domain at (after_part v g)
      go (got a rest) = same v a
      go bad = refl

refused≢found : (f : Facts) → None ≡ Some f → ⊥
refused≢found f e = let z : ◌≡◌ {A = ℕ} 0 1 = cc in omega arith

-- no first part
first_refused : {A B : Type 0} (of : A → Rule) (of' : B → Rule) (domain at : ℕ) (go_on : A → List ℕ → Got B) (g : Got A)
    → None ≡ answer of domain (at + 1) g → None ≡ answer of' domain at (onward g go_on)
first_refused of of' domain at go_on (got a rest) e = absurd (refused≢found _ e)
first_refused of of' domain at go_on bad e = refl

-- two parts: the facts of the first may be sheltered, as those of a walk in a `<` are
module _ {A B C : Type 0} (of : A → Rule) (of' : B → Rule) (whole : A → B → C) (of'' : C → Rule) (shelter : Facts → Facts) (domain at : ℕ) where
  abbrev told : A → Facts
  told a = facts_of domain (at + 1 + length (text (of a))) (of a)

  abbrev Joined : Type 0
  Joined = (a : A) (b : B) → beside_of (shelter (told a)) (answer of' domain (told a).end (got b [])) ≡ answer of'' domain at (got (whole a b) [])

  second_answer : Joined → (a : A) (g : Got B) → beside_of (shelter (told a)) (answer of' domain (told a).end g) ≡ answer of'' domain at (onward g (λ b end. got (whole a b) end))
  second_answer same a (got b rest) = same a b
  second_answer same a bad = refl

  pair_answer : Joined → (rb : Reader B) (bytes : List ℕ) (g : Got A) → ((a : A) (rest : List ℕ) → g ≡ got a rest → drop (at + 1) bytes ≡ text (of a) ++ rest)
      → (f : Facts) (r : Option Facts) → Some f ≡ answer of domain (at + 1) g → r ≡ answer of' domain f.end (rb (drop f.end bytes))
      → beside_of (shelter f) r ≡ answer of'' domain at (onward g (λ a rest. onward (rb rest) (λ b end. got (whole a b) end)))
  pair_answer same rb bytes (got a rest) sound f r p q =
      let f-is : f ≡ told a = cc in
      let left = after_part_law bytes (text (of a)) rest (at + 1) (sound a rest refl) in
      let r-is = q ∙ ap (λ (x : Facts). answer of' domain x.end (rb (drop x.end bytes))) f-is ∙ ap (λ (l : List ℕ). answer of' domain (told a).end (rb l)) left in
      ap₂ (λ (x : Facts) (y : Option Facts). beside_of (shelter x) y) f-is r-is ∙ second_answer same a (rb rest)
  pair_answer same rb bytes bad sound f r p q = absurd (refused≢found f (sym p))

-- a byte that is no sign of a walk, or of a test
no_walk_sign : (b : ℕ) → Strange sign_table b → walk_sign b ≡ none
no_walk_sign b (a, (r, (n, (u, (s, (c, (w, (v, (t, (o, (f, (x, (y, (d, (b98, (b115, (b112, rest))))))))))))))))) =
    simp (ne_eqb b 97 a, ne_eqb b 114 r, ne_eqb b 110 n, ne_eqb b 117 u, ne_eqb b 59 s, ne_eqb b 124 c, ne_eqb b 42 w, ne_eqb b 45 v, ne_eqb b 63 t, ne_eqb b 98 b98, ne_eqb b 115 b115, ne_eqb b 112 b112)

no_test_sign : (b : ℕ) → Strange sign_table b → test_sign b ≡ none
no_test_sign b (a, (r, (n, (u, (s, (c, (w, (v, (t, (o, (f, (x, (y, (d, (b98, (b115, (b112, (b103, (b101, e))))))))))))))))))) =
    simp (ne_eqb b 49 o, ne_eqb b 102 f, ne_eqb b 33 x, ne_eqb b 38 y, ne_eqb b 60 d, ne_eqb b 103 b103, ne_eqb b 101 b101)

-- the sign is none of a walk, or none of a test
abbrev pub NoWalk : Sign → Type 0
NoWalk Step = ⊥
NoWalk NamedStep = ⊥
NoWalk OverWalk = ⊥
NoWalk OverTest = ⊥
NoWalk TwoWalks = ⊥
NoWalk Constant = Unit {0}
NoWalk NamedFluent = Unit {0}
NoWalk Denial = Unit {0}
NoWalk TwoTests = Unit {0}
NoWalk WalkThenTest = Unit {0}
NoWalk SumStep = ⊥
NoWalk SomeWalk = ⊥
NoWalk SumFluent = Unit {0}
NoWalk SomeTest = Unit {0}
NoWalk Stranger = Unit {0}

abbrev pub NoTest : Sign → Type 0
NoTest Step = Unit {0}
NoTest NamedStep = Unit {0}
NoTest OverWalk = Unit {0}
NoTest OverTest = Unit {0}
NoTest TwoWalks = Unit {0}
NoTest Constant = ⊥
NoTest NamedFluent = ⊥
NoTest Denial = ⊥
NoTest TwoTests = ⊥
NoTest WalkThenTest = ⊥
NoTest SumStep = Unit {0}
NoTest SomeWalk = Unit {0}
NoTest SumFluent = ⊥
NoTest SomeTest = ⊥
NoTest Stranger = Unit {0}

-- a sign that no arm of a walk's reader takes begins no walk
pub no_walk : (s : Sign) → (s ≡ Step → ⊥) → (s ≡ NamedStep → ⊥) → (s ≡ OverWalk → ⊥) → (s ≡ OverTest → ⊥) → (s ≡ TwoWalks → ⊥) → (s ≡ SumStep → ⊥) → (s ≡ SomeWalk → ⊥) → NoWalk s
no_walk Step n _ _ _ _ _ _ = absurd (n refl)
no_walk NamedStep _ n _ _ _ _ _ = absurd (n refl)
no_walk OverWalk _ _ n _ _ _ _ = absurd (n refl)
no_walk OverTest _ _ _ n _ _ _ = absurd (n refl)
no_walk TwoWalks _ _ _ _ n _ _ = absurd (n refl)
no_walk Constant _ _ _ _ _ _ _ = tt
no_walk NamedFluent _ _ _ _ _ _ _ = tt
no_walk Denial _ _ _ _ _ _ _ = tt
no_walk TwoTests _ _ _ _ _ _ _ = tt
no_walk WalkThenTest _ _ _ _ _ _ _ = tt
no_walk SumStep _ _ _ _ _ n _ = absurd (n refl)
no_walk SomeWalk _ _ _ _ _ _ n = absurd (n refl)
no_walk SumFluent _ _ _ _ _ _ _ = tt
no_walk SomeTest _ _ _ _ _ _ _ = tt
no_walk Stranger _ _ _ _ _ _ _ = tt

-- a sign that no arm of a test's reader takes begins no test
pub no_test : (s : Sign) → (s ≡ Constant → ⊥) → (s ≡ NamedFluent → ⊥) → (s ≡ Denial → ⊥) → (s ≡ TwoTests → ⊥) → (s ≡ WalkThenTest → ⊥) → (s ≡ SumFluent → ⊥) → (s ≡ SomeTest → ⊥) → NoTest s
no_test Step _ _ _ _ _ _ _ = tt
no_test NamedStep _ _ _ _ _ _ _ = tt
no_test OverWalk _ _ _ _ _ _ _ = tt
no_test OverTest _ _ _ _ _ _ _ = tt
no_test TwoWalks _ _ _ _ _ _ _ = tt
no_test Constant n _ _ _ _ _ _ = absurd (n refl)
no_test NamedFluent _ n _ _ _ _ _ = absurd (n refl)
no_test Denial _ _ n _ _ _ _ = absurd (n refl)
no_test TwoTests _ _ _ n _ _ _ = absurd (n refl)
no_test WalkThenTest _ _ _ _ n _ _ = absurd (n refl)
no_test SumStep _ _ _ _ _ _ _ = tt
no_test SomeWalk _ _ _ _ _ _ _ = tt
no_test SumFluent _ _ _ _ _ n _ = absurd (n refl)
no_test SomeTest _ _ _ _ _ _ n = absurd (n refl)
no_test Stranger _ _ _ _ _ _ _ = tt

unread_as_walk : {b : ℕ} {s : Sign} → SignIs b s → NoWalk s → walk_sign b ≡ none
unread_as_walk act_sign n = absurd n
unread_as_walk undo_sign n = absurd n
unread_as_walk next_sign n = absurd n
unread_as_walk prev_sign n = absurd n
unread_as_walk seq_sign n = absurd n
unread_as_walk alt_sign n = absurd n
unread_as_walk star_sign n = absurd n
unread_as_walk conv_sign n = absurd n
unread_as_walk check_sign n = absurd n
unread_as_walk always_sign n = refl
unread_as_walk fluent_sign n = refl
unread_as_walk neg_sign n = refl
unread_as_walk both_sign n = refl
unread_as_walk diamond_sign n = refl
unread_as_walk sum_act_sign n = absurd n
unread_as_walk sum_undo_sign n = absurd n
unread_as_walk pick_sign n = absurd n
unread_as_walk sum_fluent_sign n = refl
unread_as_walk exists_sign n = refl
unread_as_walk (no_sign b s) n = no_walk_sign b s

unread_as_test : {b : ℕ} {s : Sign} → SignIs b s → NoTest s → test_sign b ≡ none
unread_as_test act_sign n = refl
unread_as_test undo_sign n = refl
unread_as_test next_sign n = refl
unread_as_test prev_sign n = refl
unread_as_test seq_sign n = refl
unread_as_test alt_sign n = refl
unread_as_test star_sign n = refl
unread_as_test conv_sign n = refl
unread_as_test check_sign n = refl
unread_as_test always_sign n = absurd n
unread_as_test fluent_sign n = absurd n
unread_as_test neg_sign n = absurd n
unread_as_test both_sign n = absurd n
unread_as_test diamond_sign n = absurd n
unread_as_test sum_act_sign n = refl
unread_as_test sum_undo_sign n = refl
unread_as_test pick_sign n = refl
unread_as_test sum_fluent_sign n = absurd n
unread_as_test exists_sign n = absurd n
unread_as_test (no_sign b s) n = no_test_sign b s

-- The signs, one by one.
one_more : {end end' depth depth' actions fluents free free' : ℕ} {turn varies : Bool} → end ≡ end' → depth ≡ depth' → free ≡ free'
    → ◌≡◌ {A = Option Facts} (Some (record { end = end; depth = depth; actions = actions; fluents = fluents; backward = turn; free = free; varies = varies }))
    (Some (record { end = end'; depth = depth'; actions = actions; fluents = fluents; backward = turn; free = free'; varies = varies }))
one_more {actions = a} {fluents = f} {turn = b} {varies = v} e d s =
    λ i. Some (record { end = e i; depth = d i; actions = a; fluents = f; backward = b; free = s i; varies = v })

module _ (domain : ℕ) (bytes : List ℕ) (at : ℕ) where
  pub walk_ends : length bytes ≤ at → ReadAt walk_kind domain bytes at None
  walk_ends h = walk_meets domain bytes at bad (ap walk_read (drop_of_length-le bytes h) ∙ walk_none) None refl

  pub test_ends : length bytes ≤ at → ReadAt test_kind domain bytes at None
  test_ends h = test_meets domain bytes at bad (ap test_read (drop_of_length-le bytes h) ∙ test_none) None refl

  module _ (h : at < length bytes) where
    walk_act : get_or bytes at 0 ≡ 97 → (n : Option ℕ) → NumberAt bytes (at + 1) n → ReadAt walk_kind domain bytes at (step_of n 1 (at + 3) false)
    unfolding walk_text walk_depth walk_names backward walk_free walk_varies gather
    walk_act e n p =
        walk_meets domain bytes at _ (walk_at bytes at 97 h e) (step_of n 1 (at + 3) false)
        (number_answer (λ a. act (plain a)) of_walk domain bytes at (λ (x : Option ℕ). step_of x 1 (at + 3) false) refl (λ k. refl) n p)

    walk_undo : get_or bytes at 0 ≡ 114 → (n : Option ℕ) → NumberAt bytes (at + 1) n → ReadAt walk_kind domain bytes at (step_of n 1 (at + 3) true)
    unfolding walk_text walk_depth walk_names backward walk_free walk_varies gather
    walk_undo e n p =
        walk_meets domain bytes at _ (walk_at bytes at 114 h e) (step_of n 1 (at + 3) true)
        (number_answer (λ a. undo (plain a)) of_walk domain bytes at (λ (x : Option ℕ). step_of x 1 (at + 3) true) refl (λ k. refl) n p)

    walk_next : get_or bytes at 0 ≡ 110 → ReadAt walk_kind domain bytes at (Some (leaf_of (at + 1) false))
    unfolding walk_text walk_depth walk_names backward walk_free walk_varies gather
    walk_next e = walk_meets domain bytes at _ (walk_at bytes at 110 h e) (Some (leaf_of (at + 1) false)) refl

    walk_prev : get_or bytes at 0 ≡ 117 → ReadAt walk_kind domain bytes at (Some (leaf_of (at + 1) true))
    unfolding walk_text walk_depth walk_names backward walk_free walk_varies gather
    walk_prev e = walk_meets domain bytes at _ (walk_at bytes at 117 h e) (Some (leaf_of (at + 1) true)) refl

    walk_star : get_or bytes at 0 ≡ 42 → (p : Option Facts) → ReadAt walk_kind domain bytes (at + 1) p → ReadAt walk_kind domain bytes at (above_of p false)
    unfolding walk_text walk_depth walk_names backward walk_free walk_varies gather
    walk_star e p q =
        walk_meets domain bytes at _ (walk_at bytes at 42 h e) (above_of p false)
        (ap (λ (x : Option Facts). above_of x false) (walk_is domain bytes (at + 1) p q) ∙ above_answer of_walk star of_walk domain at false (λ a. one_more (omega arith) (omega arith) refl) (walk_read (drop (at + 1) bytes)))

    walk_check : get_or bytes at 0 ≡ 63 → (p : Option Facts) → ReadAt test_kind domain bytes (at + 1) p → ReadAt walk_kind domain bytes at (above_of p false)
    unfolding walk_text walk_depth walk_names backward walk_free walk_varies gather
    walk_check e p q =
        walk_meets domain bytes at _ (walk_at bytes at 63 h e) (above_of p false)
        (ap (λ (x : Option Facts). above_of x false) (test_is domain bytes (at + 1) p q) ∙ above_answer of_test check of_walk domain at false (λ a. one_more (omega arith) (omega arith) refl) (test_read (drop (at + 1) bytes)))

    walk_conv : get_or bytes at 0 ≡ 45 → (p : Option Facts) → ReadAt walk_kind domain bytes (at + 1) p → ReadAt walk_kind domain bytes at (above_of p true)
    unfolding walk_text walk_depth walk_names backward walk_free walk_varies gather
    walk_conv e p q =
        walk_meets domain bytes at _ (walk_at bytes at 45 h e) (above_of p true)
        (ap (λ (x : Option Facts). above_of x true) (walk_is domain bytes (at + 1) p q) ∙ above_answer of_walk conv of_walk domain at true (λ a. one_more (omega arith) (omega arith) refl) (walk_read (drop (at + 1) bytes)))

    walk_seq : get_or bytes at 0 ≡ 59 → (f : Facts) (r : Option Facts) → ReadAt walk_kind domain bytes (at + 1) (Some f) → ReadAt walk_kind domain bytes f.end r → ReadAt walk_kind domain bytes at (beside_of f r)
    unfolding walk_text walk_depth walk_names backward walk_free walk_varies gather
    walk_seq e f r p q =
        walk_meets domain bytes at _ (walk_at bytes at 59 h e) (beside_of f r)
        (pair_answer of_walk of_walk seq of_walk (λ (x : Facts). x) domain at (λ v w. one_more (rw length-append (omega arith)) (omega arith) (joined (λ u. walk_free u v) (λ u. walk_free u w))) walk_read bytes (walk_read (drop (at + 1) bytes))
        (λ w rest s. (walk_sound (drop (at + 1) bytes) w rest s).0) f r (walk_is domain bytes (at + 1) (Some f) p) (walk_is domain bytes f.end r q))

    walk_alt : get_or bytes at 0 ≡ 124 → (f : Facts) (r : Option Facts) → ReadAt walk_kind domain bytes (at + 1) (Some f) → ReadAt walk_kind domain bytes f.end r → ReadAt walk_kind domain bytes at (beside_of f r)
    unfolding walk_text walk_depth walk_names backward walk_free walk_varies gather
    walk_alt e f r p q =
        walk_meets domain bytes at _ (walk_at bytes at 124 h e) (beside_of f r)
        (pair_answer of_walk of_walk alt of_walk (λ (x : Facts). x) domain at (λ v w. one_more (rw length-append (omega arith)) (omega arith) (joined (λ u. walk_free u v) (λ u. walk_free u w))) walk_read bytes (walk_read (drop (at + 1) bytes))
        (λ w rest s. (walk_sound (drop (at + 1) bytes) w rest s).0) f r (walk_is domain bytes (at + 1) (Some f) p) (walk_is domain bytes f.end r q))

    walk_pair_none : (b : ℕ) (go_on : Walk → List ℕ → Got Walk) → walk_read (drop at bytes) ≡ onward (walk_read (drop (at + 1) bytes)) go_on
        → ReadAt walk_kind domain bytes (at + 1) None → ReadAt walk_kind domain bytes at None
    walk_pair_none b go_on e p = walk_meets domain bytes at _ e None (first_refused of_walk of_walk domain at go_on (walk_read (drop (at + 1) bytes)) (walk_is domain bytes (at + 1) None p))

    walk_sum_act : get_or bytes at 0 ≡ 98 → (n : Option ℕ) (l : Option ℕ) → NumberAt bytes (at + 1) n → LetterAt bytes (at + 3) l
        → ReadAt walk_kind domain bytes at (lettered_of (step_of n domain (at + 3) false) l)
    unfolding walk_text walk_depth walk_names backward walk_free walk_varies
    walk_sum_act e n l p q =
        walk_meets domain bytes at _ (walk_at bytes at 98 h e) (lettered_of (step_of n domain (at + 3) false) l)
        (sum_answer (λ a v. act (plus a v)) of_walk domain bytes at (λ (x : Option ℕ). step_of x domain (at + 3) false) refl (λ k v. one_more (omega arith) refl (alone v)) n l p q)

    walk_sum_undo : get_or bytes at 0 ≡ 115 → (n : Option ℕ) (l : Option ℕ) → NumberAt bytes (at + 1) n → LetterAt bytes (at + 3) l
        → ReadAt walk_kind domain bytes at (lettered_of (step_of n domain (at + 3) true) l)
    unfolding walk_text walk_depth walk_names backward walk_free walk_varies
    walk_sum_undo e n l p q =
        walk_meets domain bytes at _ (walk_at bytes at 115 h e) (lettered_of (step_of n domain (at + 3) true) l)
        (sum_answer (λ a v. undo (plus a v)) of_walk domain bytes at (λ (x : Option ℕ). step_of x domain (at + 3) true) refl (λ k v. one_more (omega arith) refl (alone v)) n l p q)

    walk_pick : get_or bytes at 0 ≡ 112 → (l : Option ℕ) (r : Option Facts) → LetterAt bytes (at + 1) l → ReadAt walk_kind domain bytes (at + 2) r
        → ReadAt walk_kind domain bytes at (bound_of l r)
    unfolding walk_text walk_depth walk_names backward walk_free walk_varies
    walk_pick e l r p q =
        walk_meets domain bytes at _ (walk_at bytes at 112 h e) (bound_of l r)
        (ap (bound_of l) (walk_is domain bytes (at + 2) r q)
        ∙ bound_answer of_walk pick of_walk domain bytes at walk_read (λ v w. one_more (omega arith) (omega arith) (taken_off v (λ u. walk_free u w))) l p)

    test_always : get_or bytes at 0 ≡ 49 → ReadAt test_kind domain bytes at (Some (leaf_of (at + 1) false))
    unfolding test_text test_depth test_names test_free test_varies gather
    test_always e = test_meets domain bytes at _ (test_at bytes at 49 h e) (Some (leaf_of (at + 1) false)) refl

    test_fluent : get_or bytes at 0 ≡ 102 → (n : Option ℕ) → NumberAt bytes (at + 1) n → ReadAt test_kind domain bytes at (fluent_of n 1 (at + 3))
    unfolding test_text test_depth test_names test_free test_varies gather
    test_fluent e n p =
        test_meets domain bytes at _ (test_at bytes at 102 h e) (fluent_of n 1 (at + 3))
        (number_answer (λ a. fluent (plain a)) of_test domain bytes at (λ (x : Option ℕ). fluent_of x 1 (at + 3)) refl (λ k. refl) n p)

    test_neg : get_or bytes at 0 ≡ 33 → (p : Option Facts) → ReadAt test_kind domain bytes (at + 1) p → ReadAt test_kind domain bytes at (above_of p false)
    unfolding test_text test_depth test_names test_free test_varies gather
    test_neg e p q =
        test_meets domain bytes at _ (test_at bytes at 33 h e) (above_of p false)
        (ap (λ (x : Option Facts). above_of x false) (test_is domain bytes (at + 1) p q) ∙ above_answer of_test neg of_test domain at false (λ a. one_more (omega arith) (omega arith) refl) (test_read (drop (at + 1) bytes)))

    test_both : get_or bytes at 0 ≡ 38 → (f : Facts) (r : Option Facts) → ReadAt test_kind domain bytes (at + 1) (Some f) → ReadAt test_kind domain bytes f.end r → ReadAt test_kind domain bytes at (beside_of f r)
    unfolding test_text test_depth test_names test_free test_varies gather
    test_both e f r p q =
        test_meets domain bytes at _ (test_at bytes at 38 h e) (beside_of f r)
        (pair_answer of_test of_test both of_test (λ (x : Facts). x) domain at (λ t u. one_more (rw length-append (omega arith)) (omega arith) (joined (λ v. test_free v t) (λ v. test_free v u))) test_read bytes (test_read (drop (at + 1) bytes))
        (λ t rest s. (test_sound (drop (at + 1) bytes) t rest s).0) f r (test_is domain bytes (at + 1) (Some f) p) (test_is domain bytes f.end r q))

    test_diamond : get_or bytes at 0 ≡ 60 → (f : Facts) (r : Option Facts) → ReadAt walk_kind domain bytes (at + 1) (Some f) → ReadAt test_kind domain bytes f.end r
        → ReadAt test_kind domain bytes at (beside_of (inside_of f) r)
    unfolding test_text test_depth test_names test_free test_varies gather
    test_diamond e f r p q =
        test_meets domain bytes at _ (test_at bytes at 60 h e) (beside_of (inside_of f) r)
        (pair_answer of_walk of_test diamond of_test inside_of domain at (λ w t. one_more (rw length-append (omega arith)) (omega arith) (joined (λ v. walk_free v w) (λ v. test_free v t))) test_read bytes (walk_read (drop (at + 1) bytes))
        (λ w rest s. (walk_sound (drop (at + 1) bytes) w rest s).0) f r (walk_is domain bytes (at + 1) (Some f) p) (test_is domain bytes f.end r q))

    test_sum : get_or bytes at 0 ≡ 103 → (n : Option ℕ) (l : Option ℕ) → NumberAt bytes (at + 1) n → LetterAt bytes (at + 3) l
        → ReadAt test_kind domain bytes at (lettered_of (fluent_of n domain (at + 3)) l)
    unfolding test_text test_depth test_names test_free test_varies
    test_sum e n l p q =
        test_meets domain bytes at _ (test_at bytes at 103 h e) (lettered_of (fluent_of n domain (at + 3)) l)
        (sum_answer (λ a v. fluent (plus a v)) of_test domain bytes at (λ (x : Option ℕ). fluent_of x domain (at + 3)) refl (λ k v. one_more (omega arith) refl (alone v)) n l p q)

    test_exists : get_or bytes at 0 ≡ 101 → (l : Option ℕ) (r : Option Facts) → LetterAt bytes (at + 1) l → ReadAt test_kind domain bytes (at + 2) r
        → ReadAt test_kind domain bytes at (bound_of l r)
    unfolding test_text test_depth test_names test_free test_varies
    test_exists e l r p q =
        test_meets domain bytes at _ (test_at bytes at 101 h e) (bound_of l r)
        (ap (bound_of l) (test_is domain bytes (at + 2) r q)
        ∙ bound_answer of_test exists of_test domain bytes at test_read (λ v t. one_more (omega arith) (omega arith) (taken_off v (λ u. test_free u t))) l p)

    test_both_none : get_or bytes at 0 ≡ 38 → ReadAt test_kind domain bytes (at + 1) None → ReadAt test_kind domain bytes at None
    test_both_none e p =
        test_meets domain bytes at _ (test_at bytes at 38 h e) None
        (first_refused of_test of_test domain at _ (test_read (drop (at + 1) bytes)) (test_is domain bytes (at + 1) None p))

    test_diamond_none : get_or bytes at 0 ≡ 60 → ReadAt walk_kind domain bytes (at + 1) None → ReadAt test_kind domain bytes at None
    test_diamond_none e p =
        test_meets domain bytes at _ (test_at bytes at 60 h e) None
        (first_refused of_walk of_test domain at _ (walk_read (drop (at + 1) bytes)) (walk_is domain bytes (at + 1) None p))

-- The same by the table of signs: what a reader answers where it has read a sign, from what it answers of what follows.
module _ (domain : ℕ) (bytes : List ℕ) (at : ℕ) (h : at < length bytes) {s : Sign} (seen : s ≡ sign_meant (get_or bytes at 0)) where
  abbrev sign : ℕ
  sign = get_or bytes at 0

  abbrev WalkIs : Option Facts → Type 0
  WalkIs = ReadAt walk_kind domain bytes at

  abbrev TestIs : Option Facts → Type 0
  TestIs = ReadAt test_kind domain bytes at

  -- the sign that is seen, by its byte
  byte_is : {k : Sign} → s ≡ k → SignIs sign k
  byte_is e = sign_is (sym e ∙ seen)

  pub walk_alone : s ≡ Step → {turn : Bool} → turn ≡ turns_back sign → {f : Facts} → f ≡ leaf_of (at + 1) turn → WalkIs (Some f)
  unfolding turns_back
  walk_alone e t q = subst⁻¹ (λ (x : Facts). WalkIs (Some x)) (q ∙ ap (leaf_of (at + 1)) t) (go (byte_is e) refl)
    where
      go : {b : ℕ} → SignIs b Step → sign ≡ b → WalkIs (Some (leaf_of (at + 1) (turns_back sign)))
      go next_sign e = rw e (walk_next domain bytes at h e)
      go prev_sign e = rw e (walk_prev domain bytes at h e)

  pub walk_named : s ≡ NamedStep → (n : Option ℕ) → NumberAt bytes (at + 1) n → {turn : Bool} → turn ≡ turns_back sign → {r : Option Facts} → r ≡ step_of n 1 (at + 3) turn → WalkIs r
  unfolding turns_back
  walk_named e n p t q = subst⁻¹ WalkIs (q ∙ ap (step_of n 1 (at + 3)) t) (go (byte_is e) refl)
    where
      go : {b : ℕ} → SignIs b NamedStep → sign ≡ b → WalkIs (step_of n 1 (at + 3) (turns_back sign))
      go act_sign e = rw e (walk_act domain bytes at h e n p)
      go undo_sign e = rw e (walk_undo domain bytes at h e n p)

  pub walk_over_walk : s ≡ OverWalk → (p : Option Facts) → ReadAt walk_kind domain bytes (at + 1) p → {turn : Bool} → turn ≡ turns_back sign → {r : Option Facts} → r ≡ above_of p turn → WalkIs r
  unfolding turns_back
  walk_over_walk e p k t q = subst⁻¹ WalkIs (q ∙ ap (above_of p) t) (go (byte_is e) refl)
    where
      go : {b : ℕ} → SignIs b OverWalk → sign ≡ b → WalkIs (above_of p (turns_back sign))
      go star_sign e = rw e (walk_star domain bytes at h e p k)
      go conv_sign e = rw e (walk_conv domain bytes at h e p k)

  pub walk_over_test : s ≡ OverTest → (p : Option Facts) → ReadAt test_kind domain bytes (at + 1) p → {r : Option Facts} → r ≡ above_of p false → WalkIs r
  walk_over_test e p k q = subst⁻¹ WalkIs q (go (byte_is e) refl)
    where
      go : {b : ℕ} → SignIs b OverTest → sign ≡ b → WalkIs (above_of p false)
      go check_sign e = walk_check domain bytes at h e p k

  pub walk_two : s ≡ TwoWalks → (f : Facts) → ReadAt walk_kind domain bytes (at + 1) (Some f) → (p : Option Facts) → ReadAt walk_kind domain bytes f.end p → {r : Option Facts} → r ≡ beside_of f p → WalkIs r
  walk_two e f i p k q = subst⁻¹ WalkIs q (go (byte_is e) refl)
    where
      go : {b : ℕ} → SignIs b TwoWalks → sign ≡ b → WalkIs (beside_of f p)
      go seq_sign e = walk_seq domain bytes at h e f p i k
      go alt_sign e = walk_alt domain bytes at h e f p i k

  pub walk_two_none : s ≡ TwoWalks → ReadAt walk_kind domain bytes (at + 1) None → {r : Option Facts} → r ≡ None → WalkIs r
  walk_two_none e i q = subst⁻¹ WalkIs q (go (byte_is e) refl)
    where
      go : {b : ℕ} → SignIs b TwoWalks → sign ≡ b → WalkIs None
      go seq_sign e = walk_pair_none domain bytes at h 59 _ (walk_at bytes at 59 h e) i
      go alt_sign e = walk_pair_none domain bytes at h 124 _ (walk_at bytes at 124 h e) i

  pub walk_sum : s ≡ SumStep → (n : Option ℕ) → NumberAt bytes (at + 1) n → {turn : Bool} → turn ≡ turns_back sign → {named : Option Facts} → named ≡ step_of n domain (at + 3) turn
      → (l : Option ℕ) → LetterAt bytes (at + 3) l → {r : Option Facts} → r ≡ lettered_of named l → WalkIs r
  unfolding turns_back
  walk_sum e n p t m l i q = subst⁻¹ WalkIs (q ∙ ap (λ (x : Option Facts). lettered_of x l) (m ∙ ap (step_of n domain (at + 3)) t)) (go (byte_is e) refl)
    where
      go : {b : ℕ} → SignIs b SumStep → sign ≡ b → WalkIs (lettered_of (step_of n domain (at + 3) (turns_back sign)) l)
      go sum_act_sign e = rw e (walk_sum_act domain bytes at h e n l p i)
      go sum_undo_sign e = rw e (walk_sum_undo domain bytes at h e n l p i)

  pub walk_some : s ≡ SomeWalk → (l : Option ℕ) → LetterAt bytes (at + 1) l → (p : Option Facts) → ReadAt walk_kind domain bytes (at + 2) p → {r : Option Facts} → r ≡ bound_of l p → WalkIs r
  walk_some e l i p k q = subst⁻¹ WalkIs q (go (byte_is e) refl)
    where
      go : {b : ℕ} → SignIs b SomeWalk → sign ≡ b → WalkIs (bound_of l p)
      go pick_sign e = walk_pick domain bytes at h e l p i k

  pub walk_strange : NoWalk s → WalkIs None
  walk_strange n =
      walk_meets domain bytes at bad (walk_at bytes at sign h refl ∙ ap (λ (y : Shape Walk). read_by y walk_read test_read (drop (at + 1) bytes)) (unread_as_walk (sign_is seen) n)) None refl

  pub test_constant : s ≡ Constant → {f : Facts} → f ≡ leaf_of (at + 1) false → TestIs (Some f)
  test_constant e q = subst⁻¹ (λ (x : Facts). TestIs (Some x)) q (go (byte_is e) refl)
    where
      go : {b : ℕ} → SignIs b Constant → sign ≡ b → TestIs (Some (leaf_of (at + 1) false))
      go always_sign e = test_always domain bytes at h e

  pub test_named : s ≡ NamedFluent → (n : Option ℕ) → NumberAt bytes (at + 1) n → {r : Option Facts} → r ≡ fluent_of n 1 (at + 3) → TestIs r
  test_named e n p q = subst⁻¹ TestIs q (go (byte_is e) refl)
    where
      go : {b : ℕ} → SignIs b NamedFluent → sign ≡ b → TestIs (fluent_of n 1 (at + 3))
      go fluent_sign e = test_fluent domain bytes at h e n p

  pub test_denial : s ≡ Denial → (p : Option Facts) → ReadAt test_kind domain bytes (at + 1) p → {r : Option Facts} → r ≡ above_of p false → TestIs r
  test_denial e p k q = subst⁻¹ TestIs q (go (byte_is e) refl)
    where
      go : {b : ℕ} → SignIs b Denial → sign ≡ b → TestIs (above_of p false)
      go neg_sign e = test_neg domain bytes at h e p k

  pub test_two : s ≡ TwoTests → (f : Facts) → ReadAt test_kind domain bytes (at + 1) (Some f) → (p : Option Facts) → ReadAt test_kind domain bytes f.end p → {r : Option Facts} → r ≡ beside_of f p → TestIs r
  test_two e f i p k q = subst⁻¹ TestIs q (go (byte_is e) refl)
    where
      go : {b : ℕ} → SignIs b TwoTests → sign ≡ b → TestIs (beside_of f p)
      go both_sign e = test_both domain bytes at h e f p i k

  pub test_two_none : s ≡ TwoTests → ReadAt test_kind domain bytes (at + 1) None → {r : Option Facts} → r ≡ None → TestIs r
  test_two_none e i q = subst⁻¹ TestIs q (go (byte_is e) refl)
    where
      go : {b : ℕ} → SignIs b TwoTests → sign ≡ b → TestIs None
      go both_sign e = test_both_none domain bytes at h e i

  pub walk_of_test : s ≡ WalkThenTest → (f : Facts) → ReadAt walk_kind domain bytes (at + 1) (Some f) → {g : Facts} → g ≡ inside_of f → (p : Option Facts) → ReadAt test_kind domain bytes f.end p
      → {r : Option Facts} → r ≡ beside_of g p → TestIs r
  walk_of_test e f i m p k q = subst⁻¹ TestIs (q ∙ ap (λ (x : Facts). beside_of x p) m) (go (byte_is e) refl)
    where
      go : {b : ℕ} → SignIs b WalkThenTest → sign ≡ b → TestIs (beside_of (inside_of f) p)
      go diamond_sign e = test_diamond domain bytes at h e f p i k

  pub test_walk_none : s ≡ WalkThenTest → ReadAt walk_kind domain bytes (at + 1) None → {r : Option Facts} → r ≡ None → TestIs r
  test_walk_none e i q = subst⁻¹ TestIs q (go (byte_is e) refl)
    where
      go : {b : ℕ} → SignIs b WalkThenTest → sign ≡ b → TestIs None
      go diamond_sign e = test_diamond_none domain bytes at h e i

  pub test_summed : s ≡ SumFluent → (n : Option ℕ) → NumberAt bytes (at + 1) n → {named : Option Facts} → named ≡ fluent_of n domain (at + 3) → (l : Option ℕ) → LetterAt bytes (at + 3) l
      → {r : Option Facts} → r ≡ lettered_of named l → TestIs r
  test_summed e n p m l i q = subst⁻¹ TestIs (q ∙ ap (λ (x : Option Facts). lettered_of x l) m) (go (byte_is e) refl)
    where
      go : {b : ℕ} → SignIs b SumFluent → sign ≡ b → TestIs (lettered_of (fluent_of n domain (at + 3)) l)
      go sum_fluent_sign e = test_sum domain bytes at h e n l p i

  pub test_some : s ≡ SomeTest → (l : Option ℕ) → LetterAt bytes (at + 1) l → (p : Option Facts) → ReadAt test_kind domain bytes (at + 2) p → {r : Option Facts} → r ≡ bound_of l p → TestIs r
  test_some e l i p k q = subst⁻¹ TestIs q (go (byte_is e) refl)
    where
      go : {b : ℕ} → SignIs b SomeTest → sign ≡ b → TestIs (bound_of l p)
      go exists_sign e = test_exists domain bytes at h e l p i k

  pub test_strange : NoTest s → TestIs None
  test_strange n =
      test_meets domain bytes at bad (test_at bytes at sign h refl ∙ ap (λ (y : Shape Test). read_by y walk_read test_read (drop (at + 1) bytes)) (unread_as_test (sign_is seen) n)) None refl

-- Bounds of what is found: a rule has a depth, and no more of it than bytes.
abbrev Deep : ℕ → List ℕ → Type 0
Deep n bytes = (0 < n) × (n ≤ length bytes)

mutual
  unfolding walk_text walk_depth

  walk_deep : (w : Walk) → Deep (walk_depth w) (walk_text w)
  walk_deep (act (plain a)) = omega arith
  walk_deep (act (plus a v)) = omega arith
  walk_deep (undo (plain a)) = omega arith
  walk_deep (undo (plus a v)) = omega arith
  walk_deep next = omega arith
  walk_deep prev = omega arith
  walk_deep (seq v w) = omega (arith, length-append (walk_text v) (walk_text w), walk_deep v, walk_deep w)
  walk_deep (alt v w) = omega (arith, length-append (walk_text v) (walk_text w), walk_deep v, walk_deep w)
  walk_deep (star w) = omega (arith, walk_deep w)
  walk_deep (check t) = omega (arith, test_deep t)
  walk_deep (conv w) = omega (arith, walk_deep w)
  walk_deep (pick v w) = omega (arith, walk_deep w)

  test_deep : (t : Test) → Deep (test_depth t) (test_text t)
  test_deep always = omega arith
  test_deep (fluent (plain i)) = omega arith
  test_deep (fluent (plus i v)) = omega arith
  test_deep (neg t) = omega (arith, test_deep t)
  test_deep (both t u) = omega (arith, length-append (test_text t) (test_text u), test_deep t, test_deep u)
  test_deep (diamond w t) = omega (arith, length-append (walk_text w) (test_text t), walk_deep w, test_deep t)
  test_deep (exists v t) = omega (arith, test_deep t)

rule_deep : (r : Rule) → Deep (depth r) (text r)
rule_deep (of_test t) = test_deep t
rule_deep (of_walk w) = walk_deep w

-- a rule that is found ends past its place and within the text, and is no deeper than the text is long from there on
pub record Within (bytes : List ℕ) (at : ℕ) (f : Facts) : Type 0 where
  pub past : at < f.end
  pub inside : f.end ≤ length bytes
  pub deep : f.depth ≤ length bytes - at

pub found_within : (kind : Kind) (domain : ℕ) (bytes : List ℕ) (at : ℕ) (f : Facts) → ReadAt kind domain bytes at (Some f) → Within bytes at f
found_within kind domain bytes at f (r, rest, o, e) =
    let whole : length (drop at bytes) ≡ length (text r) + length rest = ap length o.spells ∙ length-append (text r) rest in
    let left = length-drop at bytes in
    let (some, few) = rule_deep r in
    subst⁻¹ (Within bytes at) e (record { past = omega arith; inside = omega arith; deep = omega arith })

pub depth_within : (kind : Kind) (domain : ℕ) (bytes : List ℕ) (at : ℕ) (r : Option Facts) → ReadAt kind domain bytes at r → depth_in r ≤ length bytes - at
depth_within kind domain bytes at None h = omega arith
depth_within kind domain bytes at (Some f) h = (found_within kind domain bytes at f h).deep

-- What the readers know where they have read a sign: it lies within a text that is short enough, and a variable has few values.
module _ (domain : ℕ) (bytes : List ℕ) (at : ℕ) (h : at < length bytes) (small : (length bytes ≤ text_limit) × (domain ≤ domain_limit)) where
  -- a letter behind the sign
  pub letter_placed : (l : Option ℕ) (k : ℕ) → LetterAt bytes k l → PlaceWithin l
  letter_placed None k i = tt
  letter_placed (Some j) k (v, same, there) = omega (arith, same, place_low v)

  -- what is found behind the sign leaves room for one level more
  pub shallow : (kind : Kind) (k : ℕ) (p : Option Facts) → at < k → ReadAt kind domain bytes k p → depth_in p < text_limit
  shallow kind k p past i = omega (arith, depth_within kind domain bytes k p i)

  -- so do two parts, of which the first is found
  pub both_shallow : (kind kind' : Kind) (f : Facts) (p : Option Facts) → ReadAt kind domain bytes (at + 1) (Some f) → ReadAt kind' domain bytes f.end p
      → (f.depth < text_limit) × (depth_in p < text_limit)
  both_shallow kind kind' f p i j =
      (shallow kind (at + 1) (Some f) (omega arith) i, shallow kind' f.end p (omega (arith, (found_within kind domain bytes (at + 1) f i).past)) j)

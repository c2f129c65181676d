-- What the variables stand for and how tests are read, as the evaluator is given it: a value given over another is the world's binding. And where a variable's letter stands in a part
-- nowhere but in what binds it anew, it does not stand free, so that its value does not matter there. Knows the letters in a text, and no set.
use mathlib.Core.Path.{◌≡◌, refl, sym, ap, ap₂, subst, subst⁻¹, subst₂, ◌∙◌}
use mathlib.Core.Logic.{◌↔◌, ◌⊎◌, inl, inr, ⊎_elim}
use mathlib.Core.Bool.{Bool, true, false, not, ◌&&◌, ◌||◌}
use mathlib.Core.List.{List}
use Prim.Native.Nat.{ℕ, ◌+◌, ◌/◌, ◌%◌, ◌≤◌, ◌<◌}
use native.Mathlib.Omega.{arith}
use borrow.Author.Tests.{eq-eqb, ne_eqb}
use lib.ListN.{length, get_or, set, length-set}
use lib.Seq.{get_or-set_same, get_or-set_other}
use Rattle.laws.proofs.Truth.{off_on}
use Rattle.meaning.specs.Theory.{World, Values, stands_for, with_value, no_values, number_of, revalue, bind, inside}
use Rattle.meaning.specs.Rule.{Walk, Test, plain, plus, act, undo, next, prev, seq, alt, star, check, conv, pick, always, fluent, neg, both, diamond, exists}
use Rattle.meaning.specs.Rule.{Variable, var_v, var_w, var_x, var_y, letter, is_variable, Name, has_name, walk_free, test_free, Rule, of_walk, of_test, free_in, walk_text, test_text, text}
use Rattle.meaning.specs.Leads.{Many}
use Rattle.meaning.specs.Asks.{AsksAt}
use Rattle.meaning.proofs.Normal.{at_places}
use Rattle.meaning.proofs.Onward.{neither}
use Rattle.meaning.proofs.Variables.{variable_itself, value_given, value_over, Apart, one_or_apart}
use Rattle.meaning.proofs.Written.{leads_idle}
use Rattle.meaning.specs.Limits.{number_limit}
use Rattle.std.specs.declared.option.Option.TheVariants.{Some}
use Rattle.spelling.specs.Scan.{NumberAt}
use Rattle.theory.specs.Subject.{reading_of}
use Rattle.tables.proofs.Transposed.{described_bound, described_owning}
use Rattle.grammar.specs.Letters.{variables, place, Lettered}
use Rattle.grammar.specs.Standing.{Stands, Ends}
use Rattle.grammar.proofs.Numbers.{byte, number_tens, number_ones}
use Rattle.grammar.proofs.Lettering.{letter_is, place_low, one_place}
use Rattle.grammar.proofs.Spread.{Spread, spread, act_at, undo_at, next_part_at, prev_at, seq_at, alt_at, star_at, check_at, conv_at, pick_at}
use Rattle.grammar.proofs.Spread.{always_at, fluent_at, neg_at, both_at, diamond_at, exists_at, sum_act_at, sum_undo_at, sum_fluent_at}
use Rattle.runs.specs.Values.{value_in, inner_in, unbound, inside_of, Bears, BinderHere, Rebinds, Clean, past, other, skip, Passed, Turns}
use Rattle.runs.specs.Found.{Tabled}
use Rattle.runs.proofs.Seen.{seq_long, alt_long, star_long, check_long, conv_long, pick_long, neg_long, both_long, diamond_long, exists_long}

-- where no variable is bound, each stands for 0
none_stand : (domain own inner : ℕ) (v : Variable) → stands_for no_values v ≡ value_in (unbound domain own inner) v
none_stand domain own inner var_v = refl
none_stand domain own inner var_w = refl
none_stand domain own inner var_x = refl
none_stand domain own inner var_y = refl

pub bears_none : (w : World) → w.values ≡ no_values → (own inner : ℕ) → w.own ≡ reading_of own → w.inner ≡ reading_of inner → Bears w (unbound w.domain own inner)
bears_none w e own inner first second = record {
  room = omega arith;
  many = refl;
  stand = λ v. ap (λ (s : Values). stands_for s v) e ∙ none_stand w.domain own inner v;
  own = first;
  inner = second;
}

-- one variable more is bound
bears_more : (w : World) (v : Variable) (k : ℕ) {bound : List ℕ} → Bears w bound → Bears (bind w v k) (set bound (place v) k)
bears_more w v k {bound} b = record {
  room = omega (arith, b.room, length-set bound (place v) k);
  many = b.many ∙ sym (get_or-set_other bound (place v) (length variables) k 0 (λ e. omega (arith, place_low v, e)));
  stand = λ u. go u (one_or_apart u v);
  own = b.own ∙ ap reading_of (sym (get_or-set_other bound (place v) (length variables + 1) k 0 (λ e. omega (arith, place_low v, e))));
  inner = b.inner ∙ ap reading_of (sym (get_or-set_other bound (place v) (length variables + 2) k 0 (λ e. omega (arith, place_low v, e))));
}
  where
    go : (u : Variable) → ((is_variable u v ≡ true) × (u ≡ v)) ⊎ Apart u v → stands_for (with_value w.values v k) u ≡ value_in (set bound (place v) k) u
    go u (inl (t, e)) =
        subst⁻¹ (λ (i : Variable). stands_for (with_value w.values v k) i ≡ value_in (set bound (place v) k) i) e
        (value_given w.values v k ∙ sym (get_or-set_same bound (place v) k 0 (omega (arith, place_low v, b.room))))
    go u (inr h) =
        let other : place u ≡ place v → ⊥ = λ e. off_on h.told (subst (λ (i : Variable). is_variable u i ≡ true) (one_place u v e) (variable_itself u)) in
        h.stays w.values k ∙ b.stand u ∙ sym (get_or-set_other bound (place v) (place u) k 0 other)

pub tabled_bound : {w : World} {rows bound : List ℕ} {n : ℕ} (v : Variable) (k : ℕ) → Tabled w rows bound n → Tabled (bind w v k) rows (set bound (place v) k) n
tabled_bound {w} v k t = record {
  described = described_bound w v k t.described;
  logged = t.logged;
  room = t.room;
  bears = bears_more w v k t.bears;
}

-- inside a `<`
bears_inside : (w : World) {bound : List ℕ} → Bears w bound → Bears (inside w) (inside_of bound)
bears_inside w {bound} b =
    let at = length variables + 1 in
    let reading = inner_in bound in record {
      room = omega (arith, b.room, length-set bound at reading);
      many = b.many ∙ sym (get_or-set_other bound at (length variables) reading 0 (λ e. omega arith));
      stand = λ v. b.stand v ∙ sym (get_or-set_other bound at (place v) reading 0 (λ e. omega (arith, place_low v, e)));
      own = b.inner ∙ ap reading_of (sym (get_or-set_same bound at reading 0 (omega (arith, b.room))));
      inner = b.inner ∙ ap reading_of (sym (get_or-set_other bound at (length variables + 2) reading 0 (λ e. omega arith)));
    }

pub tabled_inside : {w : World} {rows bound : List ℕ} {n : ℕ} → Tabled w rows bound n → Tabled (inside w) rows (inside_of bound) n
tabled_inside {w} t = record {
  described = described_owning w w.inner t.described;
  logged = t.logged;
  room = t.room;
  bears = bears_inside w t.bears;
}

-- at an earlier now
pub tabled_earlier : {w : World} {rows bound : List ℕ} {n m : ℕ} → Tabled w rows bound n → m ≤ n → Tabled w rows bound m
tabled_earlier t low = record { described = t.described; logged = omega (arith, t.logged); room = t.room; bears = t.bears }

-- the byte of a variable's letter, and the variable whose letter it is
pub letter_byte : (bytes : List ℕ) (at : ℕ) (v : Variable) → Lettered bytes at v → get_or bytes at 0 ≡ letter v
letter_byte bytes at v h = byte bytes at h

-- The parts of the rule that stands at a place, and where they stand; of a name, where its number and its letter do.
unfoldable Parts : List ℕ → ℕ → Rule → Type 0
Parts bytes at (of_walk (act (plain a))) = NumberAt bytes (at + 1) (Some a)
Parts bytes at (of_walk (act (plus a v))) = NumberAt bytes (at + 1) (Some a) × Lettered bytes (at + 3) v
Parts bytes at (of_walk (undo (plain a))) = NumberAt bytes (at + 1) (Some a)
Parts bytes at (of_walk (undo (plus a v))) = NumberAt bytes (at + 1) (Some a) × Lettered bytes (at + 3) v
Parts bytes at (of_walk next) = Unit {0}
Parts bytes at (of_walk prev) = Unit {0}
Parts bytes at (of_walk (seq v x)) = Stands bytes (at + 1) (of_walk v) × Stands bytes (at + 1 + length (walk_text v)) (of_walk x)
Parts bytes at (of_walk (alt v x)) = Stands bytes (at + 1) (of_walk v) × Stands bytes (at + 1 + length (walk_text v)) (of_walk x)
Parts bytes at (of_walk (star x)) = Stands bytes (at + 1) (of_walk x)
Parts bytes at (of_walk (check t)) = Stands bytes (at + 1) (of_test t)
Parts bytes at (of_walk (conv x)) = Stands bytes (at + 1) (of_walk x)
Parts bytes at (of_walk (pick v x)) = Lettered bytes (at + 1) v × Stands bytes (at + 2) (of_walk x)
Parts bytes at (of_test always) = Unit {0}
Parts bytes at (of_test (fluent (plain i))) = NumberAt bytes (at + 1) (Some i)
Parts bytes at (of_test (fluent (plus i v))) = NumberAt bytes (at + 1) (Some i) × Lettered bytes (at + 3) v
Parts bytes at (of_test (neg t)) = Stands bytes (at + 1) (of_test t)
Parts bytes at (of_test (both t u)) = Stands bytes (at + 1) (of_test t) × Stands bytes (at + 1 + length (test_text t)) (of_test u)
Parts bytes at (of_test (diamond x t)) = Stands bytes (at + 1) (of_walk x) × Stands bytes (at + 1 + length (walk_text x)) (of_test t)
Parts bytes at (of_test (exists v t)) = Lettered bytes (at + 1) v × Stands bytes (at + 2) (of_test t)

parts : {bytes : List ℕ} {at : ℕ} {r : Rule} → Stands bytes at r → Parts bytes at r
unfolding Parts
parts {bytes} {at} h = go (spread h (get_or bytes at 0) refl)
  where
    go : {b : ℕ} {r : Rule} → Spread bytes at b r → Parts bytes at r
    go (act_at a d) = d
    go (undo_at a d) = d
    go next_part_at = tt
    go prev_at = tt
    go (seq_at v w p q) = (p, q)
    go (alt_at v w p q) = (p, q)
    go (star_at w p) = p
    go (check_at t p) = p
    go (conv_at w p) = p
    go always_at = tt
    go (fluent_at i d) = d
    go (neg_at t p) = p
    go (both_at t u p q) = (p, q)
    go (diamond_at w t p q) = (p, q)
    go (sum_act_at a v d l) = (d, l)
    go (sum_undo_at a v d l) = (d, l)
    go (pick_at v w l p) = (l, p)
    go (sum_fluent_at i v d l) = (d, l)
    go (exists_at v t l p) = (l, p)

-- A stretch in which a variable's letter stands nowhere but in what binds it anew, place by place.
module _ (bytes ends : List ℕ) (v : Variable) (to : ℕ) where
  abbrev Free : ℕ → Type 0
  Free i = Clean bytes ends (letter v) to i

  moved : (i j : ℕ) → i ≡ j → Free i → Free j
  moved i j e c = subst Free e c

  -- a place where it is not bound anew
  over : (i : ℕ) → i < to → Free i → (Rebinds bytes (letter v) i → ⊥) → (get_or bytes i 0 ≡ letter v → ⊥) × Free (i + 1)
  over i low (past h) apart = absurd (omega arith)
  over i low (other lacks c) apart = (lacks, c)
  over i low (skip r c) apart = absurd (apart r)

  -- by a byte that is no binder
  over_byte : (i b : ℕ) → get_or bytes i 0 ≡ b → (b ≡ 112 → ⊥) → (b ≡ 101 → ⊥) → i < to → Free i → (get_or bytes i 0 ≡ letter v → ⊥) × Free (i + 1)
  over_byte i b e walk test low c = over i low c (λ r. ⊎_elim (λ k. walk (sym e ∙ k)) (λ k. test (sym e ∙ k)) r.0)

  -- by the two digits of a number
  over_number : (i n : ℕ) → NumberAt bytes i (Some n) → i + 2 ≤ to → Free i → Free (i + 2)
  over_number i n d low c =
      let small : n < number_limit = d.0 in
      let one = (over_byte i (48 + n / 10) (number_tens bytes i n d) (λ e. omega (arith, e)) (λ e. omega (arith, e)) (omega arith) c).1 in
      let two = (over_byte (i + 1) (48 + n % 10) (number_ones bytes i n d) (λ e. omega (arith, e)) (λ e. omega (arith, e)) (omega arith) one).1 in
      moved (i + 1 + 1) (i + 2) (omega arith) two

  -- by a letter
  over_letter : (i : ℕ) (u : Variable) → Lettered bytes i u → i < to → Free i → (is_variable u v ≡ false) × Free (i + 1)
  over_letter i u l low c =
      let (lacks, c') = over_byte i (letter u) (letter_byte bytes i u l) (λ e. omega (arith, e, letter_is u)) (λ e. omega (arith, e, letter_is u, place_low u)) low c in
      (ne_eqb (letter u) (letter v) (λ e. lacks (letter_byte bytes i u l ∙ e)), c')

  -- by a name: the sign, the number, and the letter behind that
  over_plain : (i b n : ℕ) → get_or bytes i 0 ≡ b → (b ≡ 112 → ⊥) → (b ≡ 101 → ⊥) → NumberAt bytes (i + 1) (Some n) → i + 3 ≤ to → Free i → Free (i + 3)
  over_plain i b n e walk test d low c =
      moved (i + 1 + 2) (i + 3) (omega arith) (over_number (i + 1) n d (omega arith) (over_byte i b e walk test (omega arith) c).1)

  over_sum : (i b n : ℕ) (u : Variable) → get_or bytes i 0 ≡ b → (b ≡ 112 → ⊥) → (b ≡ 101 → ⊥) → NumberAt bytes (i + 1) (Some n) × Lettered bytes (i + 3) u → i + 4 ≤ to
      → Free i → (is_variable u v ≡ false) × Free (i + 4)
  over_sum i b n u e walk test d low c =
      let (apart, c') = over_letter (i + 3) u d.1 (omega arith) (over_plain i b n e walk test d.0 (omega arith) c) in
      (apart, moved (i + 3 + 1) (i + 4) (omega arith) c')

  -- by a binder of another variable, up to its part; and by one of this, as a whole
  over_binder : (i b : ℕ) (u : Variable) → get_or bytes i 0 ≡ b → Lettered bytes (i + 1) u → Apart u v → i + 2 ≤ to → Free i → Free (i + 2)
  over_binder i b u e l apart low c =
      let name = letter_byte bytes (i + 1) u l in
      let differs : letter u ≡ letter v → ⊥ = λ k. off_on apart.told (eq-eqb (letter u) (letter v) k) in
      let c' = (over i (omega arith) c (λ r. differs (sym name ∙ r.1))).1 in
      moved (i + 1 + 1) (i + 2) (omega arith) (over_letter (i + 1) u l (omega arith) c').1

  over_bound : (i : ℕ) → Lettered bytes (i + 1) v → i + 2 ≤ to → Free i → Free (get_or ends i 0)
  over_bound i l low (past h) = absurd (omega arith)
  over_bound i l low (skip r c) = c
  over_bound i l low (other lacks c) = absurd ((over_byte (i + 1) (letter v) (letter_byte bytes (i + 1) v l)
      (λ e. omega (arith, e, letter_is v)) (λ e. omega (arith, e, letter_is v, place_low v)) (omega arith) c).0 (letter_byte bytes (i + 1) v l))

none_under : (b : Bool) {f : Bool} → f ≡ false → (b && f) ≡ false
none_under true e = e
none_under false e = refl

-- over a rule that stands there: the variable does not stand free in it
mutual
  unfolding walk_free walk_text Parts

  walk_clean : (bytes ends : List ℕ) (v : Variable) (to : ℕ) → Ends bytes ends → (x : Walk) (at : ℕ) → Stands bytes at (of_walk x) → at + length (walk_text x) ≤ to
      → Clean bytes ends (letter v) to at → (walk_free v x ≡ false) × Clean bytes ends (letter v) to (at + length (walk_text x))
  walk_clean bytes ends v to m (act (plain a)) at s low c =
      (refl, over_plain bytes ends v to at 97 a (byte bytes at s.spells) (λ e. omega (arith, e)) (λ e. omega (arith, e)) (parts s) low c)
  walk_clean bytes ends v to m (act (plus a u)) at s low c =
      over_sum bytes ends v to at 98 a u (byte bytes at s.spells) (λ e. omega (arith, e)) (λ e. omega (arith, e)) (parts s) low c
  walk_clean bytes ends v to m (undo (plain a)) at s low c =
      (refl, over_plain bytes ends v to at 114 a (byte bytes at s.spells) (λ e. omega (arith, e)) (λ e. omega (arith, e)) (parts s) low c)
  walk_clean bytes ends v to m (undo (plus a u)) at s low c =
      over_sum bytes ends v to at 115 a u (byte bytes at s.spells) (λ e. omega (arith, e)) (λ e. omega (arith, e)) (parts s) low c
  walk_clean bytes ends v to m next at s low c =
      (refl, (over_byte bytes ends v to at 110 (byte bytes at s.spells) (λ e. omega (arith, e)) (λ e. omega (arith, e)) (omega arith) c).1)
  walk_clean bytes ends v to m prev at s low c =
      (refl, (over_byte bytes ends v to at 117 (byte bytes at s.spells) (λ e. omega (arith, e)) (λ e. omega (arith, e)) (omega arith) c).1)
  walk_clean bytes ends v to m (seq y x) at s low c =
      let sign = (over_byte bytes ends v to at 59 (byte bytes at s.spells) (λ e. omega (arith, e)) (λ e. omega (arith, e)) (omega (arith, seq_long y x)) c).1 in
      let one = walk_clean bytes ends v to m y (at + 1) (parts s).0 (omega (arith, seq_long y x)) sign in
      let two = walk_clean bytes ends v to m x (at + 1 + length (walk_text y)) (parts s).1 (omega (arith, seq_long y x)) one.1 in
      (ap₂ ◌||◌ one.0 two.0, moved bytes ends v to _ _ (omega (arith, seq_long y x)) two.1)
  walk_clean bytes ends v to m (alt y x) at s low c =
      let sign = (over_byte bytes ends v to at 124 (byte bytes at s.spells) (λ e. omega (arith, e)) (λ e. omega (arith, e)) (omega (arith, alt_long y x)) c).1 in
      let one = walk_clean bytes ends v to m y (at + 1) (parts s).0 (omega (arith, alt_long y x)) sign in
      let two = walk_clean bytes ends v to m x (at + 1 + length (walk_text y)) (parts s).1 (omega (arith, alt_long y x)) one.1 in
      (ap₂ ◌||◌ one.0 two.0, moved bytes ends v to _ _ (omega (arith, alt_long y x)) two.1)
  walk_clean bytes ends v to m (star x) at s low c =
      let sign = (over_byte bytes ends v to at 42 (byte bytes at s.spells) (λ e. omega (arith, e)) (λ e. omega (arith, e)) (omega (arith, star_long x)) c).1 in
      let part = walk_clean bytes ends v to m x (at + 1) (parts s) (omega (arith, star_long x)) sign in
      (part.0, moved bytes ends v to _ _ (omega (arith, star_long x)) part.1)
  walk_clean bytes ends v to m (check t) at s low c =
      let sign = (over_byte bytes ends v to at 63 (byte bytes at s.spells) (λ e. omega (arith, e)) (λ e. omega (arith, e)) (omega (arith, check_long t)) c).1 in
      let part = test_clean bytes ends v to m t (at + 1) (parts s) (omega (arith, check_long t)) sign in
      (part.0, moved bytes ends v to _ _ (omega (arith, check_long t)) part.1)
  walk_clean bytes ends v to m (conv x) at s low c =
      let sign = (over_byte bytes ends v to at 45 (byte bytes at s.spells) (λ e. omega (arith, e)) (λ e. omega (arith, e)) (omega (arith, conv_long x)) c).1 in
      let part = walk_clean bytes ends v to m x (at + 1) (parts s) (omega (arith, conv_long x)) sign in
      (part.0, moved bytes ends v to _ _ (omega (arith, conv_long x)) part.1)
  walk_clean bytes ends v to m (pick u x) at s low c = elim (one_or_apart u v) [
    | inl same ↦ (
      rw same.0,
      subst (λ (i : ℕ). Clean bytes ends (letter v) to i) (m.each at (of_walk (pick u x)) s)
          (over_bound bytes ends v to at (subst (λ (i : Variable). Lettered bytes (at + 1) i) same.1 (parts s).0) (omega (arith, pick_long u x)) c),
    )
    | inr apart ↦
        let inner = over_binder bytes ends v to at 112 u (byte bytes at s.spells) (parts s).0 apart (omega (arith, pick_long u x)) c in
        let part = walk_clean bytes ends v to m x (at + 2) (parts s).1 (omega (arith, pick_long u x)) inner in
        (none_under (not (is_variable u v)) part.0, moved bytes ends v to _ _ (omega (arith, pick_long u x)) part.1)
  ]

  test_clean : (bytes ends : List ℕ) (v : Variable) (to : ℕ) → Ends bytes ends → (t : Test) (at : ℕ) → Stands bytes at (of_test t) → at + length (test_text t) ≤ to
      → Clean bytes ends (letter v) to at → (test_free v t ≡ false) × Clean bytes ends (letter v) to (at + length (test_text t))
  test_clean bytes ends v to m always at s low c =
      (refl, (over_byte bytes ends v to at 49 (byte bytes at s.spells) (λ e. omega (arith, e)) (λ e. omega (arith, e)) (omega arith) c).1)
  test_clean bytes ends v to m (fluent (plain i)) at s low c =
      (refl, over_plain bytes ends v to at 102 i (byte bytes at s.spells) (λ e. omega (arith, e)) (λ e. omega (arith, e)) (parts s) low c)
  test_clean bytes ends v to m (fluent (plus i u)) at s low c =
      over_sum bytes ends v to at 103 i u (byte bytes at s.spells) (λ e. omega (arith, e)) (λ e. omega (arith, e)) (parts s) low c
  test_clean bytes ends v to m (neg t) at s low c =
      let sign = (over_byte bytes ends v to at 33 (byte bytes at s.spells) (λ e. omega (arith, e)) (λ e. omega (arith, e)) (omega (arith, neg_long t)) c).1 in
      let part = test_clean bytes ends v to m t (at + 1) (parts s) (omega (arith, neg_long t)) sign in
      (part.0, moved bytes ends v to _ _ (omega (arith, neg_long t)) part.1)
  test_clean bytes ends v to m (both t u) at s low c =
      let sign = (over_byte bytes ends v to at 38 (byte bytes at s.spells) (λ e. omega (arith, e)) (λ e. omega (arith, e)) (omega (arith, both_long t u)) c).1 in
      let one = test_clean bytes ends v to m t (at + 1) (parts s).0 (omega (arith, both_long t u)) sign in
      let two = test_clean bytes ends v to m u (at + 1 + length (test_text t)) (parts s).1 (omega (arith, both_long t u)) one.1 in
      (ap₂ ◌||◌ one.0 two.0, moved bytes ends v to _ _ (omega (arith, both_long t u)) two.1)
  test_clean bytes ends v to m (diamond x t) at s low c =
      let sign = (over_byte bytes ends v to at 60 (byte bytes at s.spells) (λ e. omega (arith, e)) (λ e. omega (arith, e)) (omega (arith, diamond_long x t)) c).1 in
      let one = walk_clean bytes ends v to m x (at + 1) (parts s).0 (omega (arith, diamond_long x t)) sign in
      let two = test_clean bytes ends v to m t (at + 1 + length (walk_text x)) (parts s).1 (omega (arith, diamond_long x t)) one.1 in
      (ap₂ ◌||◌ one.0 two.0, moved bytes ends v to _ _ (omega (arith, diamond_long x t)) two.1)
  test_clean bytes ends v to m (exists u t) at s low c = elim (one_or_apart u v) [
    | inl same ↦ (
      rw same.0,
      subst (λ (i : ℕ). Clean bytes ends (letter v) to i) (m.each at (of_test (exists u t)) s)
          (over_bound bytes ends v to at (subst (λ (i : Variable). Lettered bytes (at + 1) i) same.1 (parts s).0) (omega (arith, exists_long u t)) c),
    )
    | inr apart ↦
        let inner = over_binder bytes ends v to at 101 u (byte bytes at s.spells) (parts s).0 apart (omega (arith, exists_long u t)) c in
        let part = test_clean bytes ends v to m t (at + 2) (parts s).1 (omega (arith, exists_long u t)) inner in
        (none_under (not (is_variable u v)) part.0, moved bytes ends v to _ _ (omega (arith, exists_long u t)) part.1)
  ]

not_free : {bytes ends : List ℕ} → Ends bytes ends → (v : Variable) (r : Rule) (at : ℕ) → Stands bytes at r → Clean bytes ends (letter v) (at + length (text r)) at
    → free_in v r ≡ false
not_free {bytes} {ends} m v (of_walk x) at s c = (walk_clean bytes ends v (at + length (walk_text x)) m x at s (omega arith) c).0
not_free {bytes} {ends} m v (of_test t) at s c = (test_clean bytes ends v (at + length (test_text t)) m t at s (omega arith) c).0

-- one place is looked at, and then the rest
pub clean_passed : (bytes ends : List ℕ) (name to i behind : ℕ) → (get_or bytes i 0 ≡ name → ⊥) → i < behind → Passed bytes ends name i behind → Clean bytes ends name to behind
    → Clean bytes ends name to i
clean_passed bytes ends name to i behind lacks more (inl e) c = other lacks (subst (λ (k : ℕ). Clean bytes ends name to k) e c)
clean_passed bytes ends name to i behind lacks more (inr (inl low)) c = absurd (omega arith)
clean_passed bytes ends name to i behind lacks more (inr (inr (r, e))) c = skip r (subst (λ (k : ℕ). Clean bytes ends name to k) e c)

-- its value does not matter for what a walk asks for
name_idle : (s : Values) (v : Variable) (k : ℕ) (a : Name) → has_name v a ≡ false → number_of (with_value s v k) a ≡ number_of s a
name_idle s v k (plain n) e = refl
name_idle s v k (plus n u) e = elim (one_or_apart u v) [
  | inl one ↦ absurd (off_on e one.0)
  | inr apart ↦ ap (λ (i : ℕ). n + i) (apart.stays s k)
]

pub asks_idle : (may : ℕ → Bool) (w : World) (v : Variable) (k at : ℕ) (x : Walk) → walk_free v x ≡ false → (p n a : ℕ)
    → AsksAt may (bind w v k) at x p n a ↔ AsksAt may w at x p n a
unfolding AsksAt walk_free
asks_idle may w v k at (act b) e p n a =
    let same = name_idle w.values v k b e in
    (λ h. (h.0, h.1, h.2 ∙ same), λ h. (h.0, h.1, h.2 ∙ sym same))
asks_idle may w v k at (undo b) e p n a = (λ h. h, λ h. h)
asks_idle may w v k at next e p n a = (λ h. h, λ h. h)
asks_idle may w v k at prev e p n a = (λ h. h, λ h. h)
asks_idle may w v k at (seq y x) e p n a =
    let (f, g) = neither (walk_free v y) (walk_free v x) e in
    let one = asks_idle may w v k (at + 1) y f p n a in
    let two = asks_idle may w v k (at + 1 + length (walk_text y)) x g in
    let led = at_places (leads_idle w v k y f) p in (
      ⊎_elim (λ h. inl (one.0 h)) (λ h. inr (h.0, (led h.0 n).0 h.1, (two h.0 n a).0 h.2)),
      ⊎_elim (λ h. inl (one.1 h)) (λ h. inr (h.0, (led h.0 n).1 h.1, (two h.0 n a).1 h.2)),
    )
asks_idle may w v k at (alt y x) e p n a =
    let (f, g) = neither (walk_free v y) (walk_free v x) e in
    let one = asks_idle may w v k (at + 1) y f p n a in
    let two = asks_idle may w v k (at + 1 + length (walk_text y)) x g p n a in
    (⊎_elim (λ h. inl (one.0 h)) (λ h. inr (two.0 h)), ⊎_elim (λ h. inl (one.1 h)) (λ h. inr (two.1 h)))
asks_idle may w v k at (star x) e p n a =
    let part = asks_idle may w v k (at + 1) x e in
    let led = at_places (ap Many (leads_idle w v k x e)) p in
    (λ h. (h.0, (led h.0 n).0 h.1, (part h.0 n a).0 h.2), λ h. (h.0, (led h.0 n).1 h.1, (part h.0 n a).1 h.2))
asks_idle may w v k at (check t) e p n a = (λ h. h, λ h. h)
asks_idle may w v k at (conv x) e p n a = (λ h. h, λ h. h)
asks_idle may w v k at (pick u x) e p n a =
    let part : (i : ℕ) → walk_free v x ≡ false → AsksAt may (bind (bind w u i) v k) (at + 2) x p n a ↔ AsksAt may (bind w u i) (at + 2) x p n a
    = λ i free. asks_idle may (bind w u i) v k (at + 2) x free p n a in
    (λ h. (h.0, h.1, (each h.0 (part h.0) (one_or_apart u v)).0 h.2), λ h. (h.0, h.1, (each h.0 (part h.0) (one_or_apart u v)).1 h.2))
  where
    each : (i : ℕ) → (walk_free v x ≡ false → AsksAt may (bind (bind w u i) v k) (at + 2) x p n a ↔ AsksAt may (bind w u i) (at + 2) x p n a)
        → ((is_variable u v ≡ true) × (u ≡ v)) ⊎ Apart u v → AsksAt may (bind (bind w v k) u i) (at + 2) x p n a ↔ AsksAt may (bind w u i) (at + 2) x p n a
    each i part (inl (t, s)) =
        let over : with_value (with_value w.values v k) u i ≡ with_value w.values u i =
        subst (λ (j : Variable). with_value (with_value w.values j k) u i ≡ with_value w.values u i) s (value_over w.values u i k) in
        subst⁻¹ (λ (l : Values). AsksAt may (revalue w l) (at + 2) x p n a ↔ AsksAt may (bind w u i) (at + 2) x p n a) over (λ h. h, λ h. h)
    each i part (inr h) =
        let free : walk_free v x ≡ false = subst (λ (b : Bool). (not b && walk_free v x) ≡ false) h.told e in
        subst⁻¹ (λ (l : Values). AsksAt may (revalue w l) (at + 2) x p n a ↔ AsksAt may (bind w u i) (at + 2) x p n a) (h.commute w.values i k)
        (part free)

-- How many values a binder goes over.
module _ (bytes : List ℕ) (at : ℕ) where
  pub one_turn : {ends : List ℕ} {domain end : ℕ} → 1 ≤ domain → BinderHere bytes at end → Ends bytes ends → Clean bytes ends (get_or bytes (at + 1) 0) end (at + 2)
      → Turns bytes at domain 1
  one_turn {ends} some here m c = record {
    low = some;
    enough = λ v part l s. inr (
      refl,
      not_free m v part (at + 2) s
          (subst₂ (λ (b k : ℕ). Clean bytes ends b k (at + 2)) (letter_byte bytes (at + 1) v l) (here.ends part s) c),
    );
  }

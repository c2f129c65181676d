-- The log transposed, row by row: one step or one position more, and the whole. Knows the meaning of a step and which positions a row holds; no word and
-- no code.
use mathlib.Core.Path.{◌≡◌, refl, sym, ap, subst, subst⁻¹, subst₂, ◌∙◌}
use mathlib.Core.Logic.Iff
use mathlib.Core.Logic.{◌↔◌, inl, inr, ⊎_elim}
use mathlib.Core.Bool.{Bool, true, false, ◌&&◌, xor, and-false}
use mathlib.Core.List.{List}
use mathlib.Core.Option.{some}
use Prim.Native.Nat.{ℕ, ◌+◌, ◌≤◌, ◌<◌, min}
use native.Mathlib.Nat.{eq-or-lt_of_le}
use native.Mathlib.Omega.{arith}
use borrow.Author.Tests.{leb-true, leb-false, le-leb}
use lib.Bits.{bit_xor}
use lib.Dec.{leb, leb-zero}
use lib.ListN.{length, get_or, replicate, length-replicate}
use Rattle.laws.specs.Bit.{on}
use Rattle.laws.proofs.Bitwise.{on_xor}
use Rattle.laws.proofs.Truth.{off_on, true_or_false, and_iff, same_truth}
use Rattle.meaning.specs.Limits.{fluent_limit, action_limit}
use Rattle.meaning.specs.Theory.{Possible, Reading, World, Values, with_value, revalue, bind, owning, state_before, step_at}
use Rattle.meaning.specs.Rule.{Variable}
use Rattle.meaning.proofs.Theory.{get_elem_get_d, get_elem_within}
use Rattle.theory.specs.declared.Setting.{Setting}
use Rattle.theory.specs.Subject.{setting_of, subject_of, world_of}
use Rattle.tables.specs.Tables.{action_rows, fluent_rows, possible_row, row_count, row_holds, action_holds, fluent_holds, TakenAt, Describes, Noted, Reversed}
use Rattle.tables.proofs.Marks.{blank, among}

-- the rows of the actions and of what was possible, of the steps before position n
pub record TakenBelow (w : World) (rows : List ℕ) (n : ℕ) : Type 0 where
  pub room : length rows ≡ row_count
  pub bits : (a q : ℕ) → (action_holds rows a q ≡ true) ↔ ((q < n) × TakenAt w q a)
  pub possible : (q : ℕ) → (row_holds rows possible_row q ≡ true) ↔ ((q < n) × ((a : ℕ) × TakenAt w q a))

-- the rows of the fluents, of the positions up to n: behind it the state at n stands on, up to the log's end
pub record ShownTo (w : World) (rows : List ℕ) (n : ℕ) : Type 0 where
  pub room : length rows ≡ row_count
  pub bits : (i q : ℕ) → fluent_holds rows i q ≡ (leb q (length w.log) && on (state_before w (min q n)) i)

-- the rows at the start
pub empty_room : length {A = ℕ} (replicate row_count 0) ≡ row_count
empty_room = length-replicate {A = ℕ} row_count 0

pub taken_none : (w : World) → TakenBelow w (replicate row_count 0) 0
taken_none w =
    record {
      room = empty_room;
      bits = λ a q. (λ h. absurd (off_on (blank row_count (action_rows + a) q) ((among (replicate row_count 0) action_rows action_limit a q).0 h).1), λ r. absurd (omega (arith, r.0)));
      possible = λ q. (λ h. absurd (off_on (blank row_count possible_row q) h), λ r. absurd (omega (arith, r.0)));
    }

-- the step at position p
module _ (w : World) {old new : List ℕ} {p state : ℕ} {able : Bool} (within : p < length w.log) (now : state ≡ state_before w p)
    (known : get_or w.log p 0 < action_limit) (possible : (able ≡ true) ↔ Possible (w.masks (get_or w.log p 0)) state)
    (note : Noted old new (get_or w.log p 0) p able) (t : TakenBelow w old p) where
  step : step_at w p ≡ some (get_or w.log p 0)
  step = get_elem_get_d w.log p within

  -- what it takes
  taken_here : able ≡ true → (a q : ℕ) → a ≡ get_or w.log p 0 → q ≡ p → TakenAt w q a
  taken_here can a q e f = (
    ap (step_at w) f ∙ step ∙ ap some (sym e),
    subst₂ (λ (x y : ℕ). Possible (w.masks x) (state_before w y)) (sym e) (sym f) (subst (Possible (w.masks (get_or w.log p 0))) now (possible.0 can)),
  )

  here_taken : (a q : ℕ) → TakenAt w q a → q ≡ p → (able ≡ true) × (a ≡ get_or w.log p 0)
  here_taken a q r f =
      let logged : step_at w q ≡ some a = r.0 in
      let here : step_at w q ≡ step_at w p = ap (step_at w) f in
      let same : a ≡ get_or w.log p 0 = cc step in
      let able-here = subst₂ (λ (x y : ℕ). Possible (w.masks x) (state_before w y)) same f r.1 in
      (possible.1 (subst⁻¹ (Possible (w.masks (get_or w.log p 0))) now able-here), same)

  bits_on : (a q : ℕ) → action_holds new a q ≡ true → (q < p + 1) × TakenAt w q a
  bits_on a q h =
      let u = (among new action_rows action_limit a q).0 h in
      let low : a < action_limit = u.0 in
      ⊎_elim
      (λ o. let r = (t.bits a q).0 ((among old action_rows action_limit a q).1 (low, o)) in (omega (arith, r.0), r.1))
      (λ r. (omega (arith, r.2), taken_here r.0 a q (⊎_elim (λ e. omega arith) (λ e. absurd (omega arith)) r.1) r.2))
      ((note.bits (action_rows + a) q).0 u.1)

  bits_back : (a q : ℕ) → (q < p + 1) × TakenAt w q a → action_holds new a q ≡ true
  bits_back a q r =
      ⊎_elim
      (λ e.
      let (can, same) = here_taken a q r.1 e in
      (among new action_rows action_limit a q).1 (omega arith, (note.bits (action_rows + a) q).1 (inr (can, inl (omega arith), e))))
      (λ l.
      let u = (among old action_rows action_limit a q).0 ((t.bits a q).1 (l, r.1)) in
      (among new action_rows action_limit a q).1 (u.0, (note.bits (action_rows + a) q).1 (inl u.1)))
      (eq-or-lt_of_le (omega (arith, r.0)))

  possible_on : (q : ℕ) → row_holds new possible_row q ≡ true → (q < p + 1) × ((a : ℕ) × TakenAt w q a)
  possible_on q h =
      ⊎_elim
      (λ o. let r = (t.possible q).0 o in (omega (arith, r.0), r.1))
      (λ r. (omega (arith, r.2), (get_or w.log p 0, taken_here r.0 (get_or w.log p 0) q refl r.2)))
      ((note.bits possible_row q).0 h)

  possible_back : (q : ℕ) → (q < p + 1) × ((a : ℕ) × TakenAt w q a) → row_holds new possible_row q ≡ true
  possible_back q r =
      ⊎_elim
      (λ e. (note.bits possible_row q).1 (inr ((here_taken r.1.0 q r.1.1 e).0, inr refl, e)))
      (λ l. (note.bits possible_row q).1 (inl ((t.possible q).1 (l, r.1))))
      (eq-or-lt_of_le (omega (arith, r.0)))

  pub taken_more : TakenBelow w new (p + 1)
  taken_more =
      record {
        room = note.room ∙ t.room;
        bits = λ a q. (bits_on a q, bits_back a q);
        possible = λ q. (possible_on q, possible_back q);
      }

-- a step that is noted leaves the fluents' rows, and fluents that are turned leave the others
pub noted_shown : (w : World) {old new : List ℕ} {n a p : ℕ} {able : Bool} → a < action_limit → Noted old new a p able → ShownTo w old n → ShownTo w new n
noted_shown w {old} {new} {n} {a} {p} {able} low note s =
    record { room = note.room ∙ s.room; bits = λ i q. same_truth (fluent_holds new i q) (fluent_holds old i q) (onward i q) (back i q) ∙ s.bits i q }
  where
    onward : (i q : ℕ) → fluent_holds new i q ≡ true → fluent_holds old i q ≡ true
    onward i q h =
        let u = (among new fluent_rows fluent_limit i q).0 h in
        let there : i < fluent_limit = u.0 in
        ⊎_elim
        (λ o. (among old fluent_rows fluent_limit i q).1 (there, o))
        (λ r. absurd (⊎_elim (λ e. omega arith) (λ e. omega arith) r.1))
        ((note.bits (fluent_rows + i) q).0 u.1)

    back : (i q : ℕ) → fluent_holds old i q ≡ true → fluent_holds new i q ≡ true
    back i q h =
        let u = (among old fluent_rows fluent_limit i q).0 h in
        (among new fluent_rows fluent_limit i q).1 (u.0, (note.bits (fluent_rows + i) q).1 (inl u.1))

pub turned_taken : (w : World) {old new : List ℕ} {n changed at : ℕ} → Reversed old new changed at → TakenBelow w old n → TakenBelow w new n
turned_taken w {old} {new} r t =
    record {
      room = r.room ∙ t.room;
      bits = λ a q. Iff.trans (onward a q, back a q) (t.bits a q);
      possible = λ q. rw (r.others possible_row q (inr (omega arith))) (t.possible q);
    }
  where
    onward : (a q : ℕ) → action_holds new a q ≡ true → action_holds old a q ≡ true
    onward a q h =
        let u = (among new action_rows action_limit a q).0 h in
        let low : a < action_limit = u.0 in
        (among old action_rows action_limit a q).1 (low, sym (r.others (action_rows + a) q (inl (omega arith))) ∙ u.1)

    back : (a q : ℕ) → action_holds old a q ≡ true → action_holds new a q ≡ true
    back a q h =
        let u = (among old action_rows action_limit a q).0 h in
        let low : a < action_limit = u.0 in
        (among new action_rows action_limit a q).1 (low, r.others (action_rows + a) q (inl (omega arith)) ∙ u.1)

-- the start state stands from position 0 on
alone : (l s : Bool) → xor false (true && l && s) ≡ (l && s)
unfolding xor
alone true true = refl
alone true false = refl
alone false s = refl

pub shown_start : (w : World) {new : List ℕ} {start at : ℕ} → start ≡ state_before w 0 → ((q : ℕ) → on at q ≡ (leb 0 q && leb q (length w.log)))
    → Reversed (replicate row_count 0) new start at → ShownTo w new 0
shown_start w {new} {start} {at} e from t =
    record {
      room = t.room ∙ empty_room;
      bits = λ i q.
          let first : min q 0 ≡ 0 = omega arith in
          t.shown i q
          ∙ rw (from q, leb-zero, first, ← e, blank row_count (fluent_rows + i) q, and-false)
          (alone (leb q (length w.log)) (on start i));
    }

-- from position p + 1 on, what changed is the other way
stays : (a l x : Bool) → xor a (false && l && x) ≡ a
unfolding xor
stays true l x = refl
stays false l x = refl

turns : (l s n : Bool) → xor (l && s) (true && l && xor s n) ≡ (l && n)
unfolding xor
turns false s n = refl
turns true true true = refl
turns true true false = refl
turns true false true = refl
turns true false false = refl

pub shown_more : (w : World) {old new : List ℕ} {p state next at : ℕ} → state ≡ state_before w p → next ≡ state_before w (p + 1)
    → ((q : ℕ) → on at q ≡ (leb (p + 1) q && leb q (length w.log)))
    → Reversed old new (bit_xor state next) at → ShownTo w old p → ShownTo w new (p + 1)
shown_more w {old} {new} {p} {state} {next} {at} e f from t s =
    record {
      room = t.room ∙ s.room;
      bits = λ i q.
          t.shown i q
          ∙ rw (s.bits i q, on_xor state next i, from q) (⊎_elim (behind i q) (before i q) (true_or_false (leb (p + 1) q)));
    }
  where
    end : ℕ
    end = length w.log

    before : (i q : ℕ) → leb (p + 1) q ≡ false
        → xor (leb q end && on (state_before w (min q p)) i) (leb (p + 1) q && leb q end && xor (on state i) (on next i)) ≡ (leb q end && on (state_before w (min q (p + 1))) i)
    before i q h =
        let low : q < p + 1 = leb-false (p + 1) q h in
        let here : min q p ≡ q = omega arith in
        let still : min q (p + 1) ≡ q = omega arith in
        rw (here, still, h) (stays (leb q end && on (state_before w q) i) (leb q end) (xor (on state i) (on next i)))

    behind : (i q : ℕ) → leb (p + 1) q ≡ true
        → xor (leb q end && on (state_before w (min q p)) i) (leb (p + 1) q && leb q end && xor (on state i) (on next i)) ≡ (leb q end && on (state_before w (min q (p + 1))) i)
    behind i q h =
        let high : p + 1 ≤ q = leb-true (p + 1) q h in
        let here : min q p ≡ p = omega arith in
        let then : min q (p + 1) ≡ p + 1 = omega arith in
        rw (here, then, h, ← e, ← f) (turns (leb q end) (on state i) (on next i))

-- the whole log, and its last position
pub describes : (w : World) {rows : List ℕ} {n : ℕ} → n ≡ length w.log → TakenBelow w rows n → ShownTo w rows n → Describes w rows
describes w {rows} {n} ends t s =
    record {
      room = t.room;
      taken = λ a p. Iff.trans (t.bits a p) (λ r. r.1, λ r. (within p a r.0, r));
      shown = λ i p. (onward i p, back i p);
      possible = λ p. Iff.trans (t.possible p) (λ r. r.1, λ r. (within p r.0 r.1.0, r));
    }
  where
    within : (p a : ℕ) → step_at w p ≡ some a → p < n
    within p a e = omega (arith, ends, get_elem_within w.log p a e)

    stood : (i p : ℕ) → p ≤ length w.log → on (state_before w (min p n)) i ≡ on (state_before w p) i
    stood i p h = let here : min p n ≡ p = omega (arith, ends) in rw here

    onward : (i p : ℕ) → fluent_holds rows i p ≡ true → (p ≤ length w.log) × (on (state_before w p) i ≡ true)
    onward i p h =
        let both = (and_iff (leb p (length w.log)) (on (state_before w (min p n)) i)).0 (sym (s.bits i p) ∙ h) in
        let within = leb-true p (length w.log) both.0 in
        (within, sym (stood i p within) ∙ both.1)

    back : (i p : ℕ) → (p ≤ length w.log) × (on (state_before w p) i ≡ true) → fluent_holds rows i p ≡ true
    back i p r = s.bits i p ∙ (and_iff (leb p (length w.log)) (on (state_before w (min p n)) i)).1 (le-leb p (length w.log) r.0, stood i p r.0 ∙ r.1)

-- The world as far as a row depends on it: neither the counts matter, nor the values of the variables, nor how a test is read.
abbrev pub uncounted : ℕ → List ℕ → List ℕ → World
uncounted start masks log = world_of (subject_of (setting_of 0 0 0 start 0) masks log)

pub recount : (s : Setting) (masks log : List ℕ) {rows : List ℕ} → Describes (uncounted s.start masks log) rows → Describes (world_of (subject_of s masks log)) rows
recount s masks log d = record { room = d.room; taken = d.taken; shown = d.shown; possible = d.possible }

pub described_anew : (w : World) (values : Values) {rows : List ℕ} → Describes w rows → Describes (revalue w values) rows
described_anew w values d = record { room = d.room; taken = d.taken; shown = d.shown; possible = d.possible }

pub described_bound : (w : World) (v : Variable) (k : ℕ) {rows : List ℕ} → Describes w rows → Describes (bind w v k) rows
described_bound w v k d = described_anew w (with_value w.values v k) d

pub described_owning : (w : World) (r : Reading) {rows : List ℕ} → Describes w rows → Describes (owning w r) rows
described_owning w r d = record { room = d.room; taken = d.taken; shown = d.shown; possible = d.possible }

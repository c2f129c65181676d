-- The lengths before a walk, from those before its parts, and what the table gains: all the mathematics of `before`, an arm at a time. Knows the text by the rules that
-- stand in it; no code.
use mathlib.Core.Path.{◌≡◌, refl, sym, subst, ◌∙◌}
use mathlib.Core.Logic.{inl, inr, ⊎_elim}
use mathlib.Core.Bool.{Bool, true, false}
use mathlib.Core.List.{List}
use Prim.Native.Nat.{ℕ, ◌+◌, ◌≤◌, ◌<◌}
use native.Mathlib.Decide.{ℕ_discrete, dec_lt}
use native.Mathlib.Omega.{arith}
use lib.Bits.{bit_or}
use lib.ListN.{length, get_or, set, length-append, get_or-replicate, get_or-eq_default, length-replicate}
use lib.Seq.{get_or-set_same, get_or-set_other}
use Rattle.laws.specs.Bit.{on}
use Rattle.meaning.specs.Limits.{text_limit}
use Rattle.meaning.specs.Rule.{Walk, act, undo, next, prev, seq, alt, star, check, conv, pick, plain, plus, walk_text, of_walk}
use Rattle.meaning.specs.Lengths.{Inside, Longer, Measured, Grown}
use Rattle.meaning.proofs.Measured.{or_left, or_right, measured_none, measured_wide}
use Rattle.grammar.specs.Standing.{Ends}
use Rattle.grammar.proofs.Spread.{Spread, spread, act_at, undo_at, next_part_at, prev_at, seq_at, alt_at, star_at, check_at, conv_at, sum_act_at, sum_undo_at, pick_at, within}
use Rattle.runs.proofs.Calls.{end_stands, NoSign}
use Rattle.finish.specs.Lengths.{Closed, Gained, BeforeHere, BeforeTold, MayTold, no_lengths}

-- the table has the sign's place
pub sign_inside : {text ends follow : List ℕ} {at : ℕ} → BeforeHere text ends follow at → at < length follow
sign_inside h = omega (arith, within h.here.stands, h.room)

-- a table that grows outside the walk's places
pub closed_apart : (ons offs : ℕ) (follow larger : List ℕ) (at : ℕ) (x : Walk) → Grown follow larger
    → ((i : ℕ) → at ≤ i → i < at + length (walk_text x) → get_or larger i 0 ≡ get_or follow i 0) → Closed ons offs follow at x → Closed ons offs larger at x
unfolding Closed walk_text
closed_apart ons offs f f' at (act a) g same h = tt
closed_apart ons offs f f' at (undo a) g same h = tt
closed_apart ons offs f f' at next g same h = tt
closed_apart ons offs f f' at prev g same h = tt
closed_apart ons offs f f' at (seq v x) g same h = (
  closed_apart ons offs f f' (at + 1) v g (λ i low high. same i (omega arith) (simp length-append (omega arith))) h.0,
  closed_apart ons offs f f' (at + 1 + length (walk_text v)) x g (λ i low high. same i (omega arith) (simp length-append (omega arith))) h.1,
)
closed_apart ons offs f f' at (alt v x) g same h = (
  closed_apart ons offs f f' (at + 1) v g (λ i low high. same i (omega arith) (simp length-append (omega arith))) h.0,
  closed_apart ons offs f f' (at + 1 + length (walk_text v)) x g (λ i low high. same i (omega arith) (simp length-append (omega arith))) h.1,
)
closed_apart ons offs f f' at (star x) g same h = (
  rw (same at (omega arith) (omega arith)) (measured_wide ons offs f f' (at + 1) x (get_or f at 0) (get_or f at 0) (get_or f at 0) (get_or f at 0) g (λ l e. e) (λ l e. e) h.0),
  closed_apart ons offs f f' (at + 1) x g (λ i low high. same i (omega arith) (omega arith)) h.1,
)
closed_apart ons offs f f' at (check t) g same h = tt
closed_apart ons offs f f' at (conv x) g same h = tt
closed_apart ons offs f f' at (pick v x) g same h = closed_apart ons offs f f' (at + 2) x g (λ i low high. same i (omega arith) (omega arith)) h

-- a table with nothing in it
none_there : (i : ℕ) → get_or no_lengths i 0 ≡ 0
none_there i = elim (dec_lt i (text_limit + 1)) [
  | yes low ↦ get_or-replicate (text_limit + 1) i 0 0 low
  | no high ↦ get_or-eq_default no_lengths 0 {n = i} (omega (arith, length-replicate {A = ℕ} (text_limit + 1) 0))
]

pub closed_none : (ons offs : ℕ) (at : ℕ) (x : Walk) → Closed ons offs no_lengths at x
unfolding Closed
closed_none ons offs at (act a) = tt
closed_none ons offs at (undo a) = tt
closed_none ons offs at next = tt
closed_none ons offs at prev = tt
closed_none ons offs at (seq v x) = (closed_none ons offs (at + 1) v, closed_none ons offs (at + 1 + length (walk_text v)) x)
closed_none ons offs at (alt v x) = (closed_none ons offs (at + 1) v, closed_none ons offs (at + 1 + length (walk_text v)) x)
closed_none ons offs at (star x) = (rw (none_there at) (measured_none ons offs no_lengths _ x), closed_none ons offs (at + 1) x)
closed_none ons offs at (check t) = tt
closed_none ons offs at (conv x) = tt
closed_none ons offs at (pick v x) = closed_none ons offs (at + 2) x

-- one place of the table that grows
pub set_grown : (f : List ℕ) (at b : ℕ) → at < length f → Inside (get_or f at 0) b → Grown f (set f at b)
set_grown f at b room more i l e = elim (ℕ_discrete i at) [
  | yes same ↦ subst (λ (j : ℕ). on (get_or (set f at b) j 0) l ≡ true) (sym same)
      (rw (get_or-set_same f at b 0 room) (more l (subst (λ (j : ℕ). on (get_or f j 0) l ≡ true) same e)))
  | no other ↦ rw (get_or-set_other f at i b 0 other) e
]

-- A step sign.
there : (at behind : ℕ) (f f' : List ℕ) → at < length f → f' ≡ set f at (bit_or (get_or f at 0) behind) → Inside behind (get_or f' at 0)
there at behind f f' room e l h = rw (e, get_or-set_same f at (bit_or (get_or f at 0) behind) 0 room) (or_right (get_or f at 0) behind l h)

module _ (ons offs : ℕ) {at behind r : ℕ} {f f' : List ℕ} where
  step_gained : (x : Walk) → 0 < length (walk_text x) → at < length f → f' ≡ set f at (bit_or (get_or f at 0) behind)
      → Closed ons offs f' at x → Measured ons offs f' at x behind r → Gained ons offs at x behind f f' r
  step_gained x some room e closed measured = record {
    grown = rw e (set_grown f at _ room (or_left (get_or f at 0) behind));
    apart = λ i out. rw e (get_or-set_other f at i _ 0 (⊎_elim (λ h same. omega arith) (λ h same. omega arith) out));
    closed = closed;
    measured = measured;
  }

module _ (ons offs : ℕ) {text : List ℕ} {at behind r : ℕ} {f f' : List ℕ} where
  pub act_gained : get_or text at 0 ≡ 97 → at < length f → f' ≡ set f at (bit_or (get_or f at 0) behind) → Longer behind r → BeforeTold text at ons offs behind f f' r
  unfolding Closed Measured walk_text
  act_gained sign room e longer = record { each = λ x h closed. go (spread h 97 sign) }
    where
      go : {x : Walk} → Spread text at 97 (of_walk x) → Gained ons offs at x behind f f' r
      go (act_at a digits) = step_gained ons offs (act (plain a)) (omega arith) room e tt (there at behind f f' room e, longer)

  pub sum_gained : get_or text at 0 ≡ 98 → at < length f → f' ≡ set f at (bit_or (get_or f at 0) behind) → Longer behind r → BeforeTold text at ons offs behind f f' r
  unfolding Closed Measured walk_text
  sum_gained sign room e longer = record { each = λ x h closed. go (spread h 98 sign) }
    where
      go : {x : Walk} → Spread text at 98 (of_walk x) → Gained ons offs at x behind f f' r
      go (sum_act_at a v digits letter) = step_gained ons offs (act (plus a v)) (omega arith) room e tt (there at behind f f' room e, longer)

  pub next_gained : get_or text at 0 ≡ 110 → at < length f → f' ≡ set f at (bit_or (get_or f at 0) behind) → Longer behind r → BeforeTold text at ons offs behind f f' r
  unfolding Closed Measured walk_text
  next_gained sign room e longer = record { each = λ x h closed. go (spread h 110 sign) }
    where
      go : {x : Walk} → Spread text at 110 (of_walk x) → Gained ons offs at x behind f f' r
      go next_part_at = step_gained ons offs next (omega arith) room e tt (there at behind f f' room e, longer)

-- `pvW`: what W takes, whatever the value
module _ (ons offs : ℕ) {text : List ℕ} {at behind r : ℕ} {f f' : List ℕ} where
  pub pick_gained : get_or text at 0 ≡ 112 → BeforeTold text (at + 2) ons offs behind f f' r → BeforeTold text at ons offs behind f f' r
  unfolding Closed Measured walk_text
  pick_gained sign g = record { each = λ x s closed. go (spread s 112 sign) closed }
    where
      go : {x : Walk} → Spread text at 112 (of_walk x) → Closed ons offs f at x → Gained ons offs at x behind f f' r
      go (pick_at v x letter p) closed =
          let a : Gained ons offs (at + 2) x behind f f' r = g.each x p closed in
          record {
            grown = a.grown;
            apart = λ i out. a.apart i (⊎_elim (λ k. inl (omega arith)) (λ k. inr (omega arith)) out);
            closed = a.closed;
            measured = a.measured;
          }

-- Two parts: the table grows by one, then by the other.
module _ (ons offs : ℕ) {text ends : List ℕ} (marked : Ends text ends) {at other : ℕ} (place : other ≡ get_or ends (at + 1) 0) {behind one two : ℕ} {f f₁ f₂ : List ℕ} where
  -- `;VW`: W first, and V with what W leaves
  pub seq_gained : get_or text at 0 ≡ 59 → BeforeTold text other ons offs behind f f₁ one → BeforeTold text (at + 1) ons offs one f₁ f₂ two
      → BeforeTold text at ons offs behind f f₂ two
  unfolding Closed Measured walk_text
  seq_gained sign g h = record { each = λ x s closed. go (spread s 59 sign) closed }
    where
      go : {x : Walk} → Spread text at 59 (of_walk x) → Closed ons offs f at x → Gained ons offs at x behind f f₂ two
      go (seq_at v x p q) closed =
          let here : other ≡ at + 1 + length (walk_text v) = place ∙ marked.each (at + 1) (of_walk v) p in
          let a : Gained ons offs (at + 1 + length (walk_text v)) x behind f f₁ one =
          subst (λ (i : ℕ). Gained ons offs i x behind f f₁ one) here
          (g.each x (end_stands marked p other place q) (subst (λ (i : ℕ). Closed ons offs f i x) (sym here) closed.1)) in
          let b : Gained ons offs (at + 1) v one f₁ f₂ two =
          h.each v p (closed_apart ons offs f f₁ (at + 1) v a.grown (λ i low high. a.apart i (inl high)) closed.0) in
          record {
            grown = λ i l e. b.grown i l (a.grown i l e);
            apart = λ i out. b.apart i (⊎_elim (λ k. inl (omega arith)) (λ k. inr (omega (arith, length-append (walk_text v) (walk_text x)))) out)
                ∙ a.apart i (⊎_elim (λ k. inl (omega arith)) (λ k. inr (omega (arith, length-append (walk_text v) (walk_text x)))) out);
            closed = (b.closed, closed_apart ons offs f₁ f₂ (at + 1 + length (walk_text v)) x b.grown (λ i low high. b.apart i (inr low)) a.closed);
            measured = (
              one,
              measured_wide ons offs f₁ f₂ (at + 1 + length (walk_text v)) x behind one behind one b.grown (λ l e. e) (λ l e. e) a.measured,
              b.measured,
            );
          }

  -- `|VW`: either, with the same behind it
  pub alt_gained : get_or text at 0 ≡ 124 → BeforeTold text (at + 1) ons offs behind f f₁ one → BeforeTold text other ons offs behind f₁ f₂ two
      → BeforeTold text at ons offs behind f f₂ (bit_or one two)
  unfolding Closed Measured walk_text
  alt_gained sign g h = record { each = λ x s closed. go (spread s 124 sign) closed }
    where
      go : {x : Walk} → Spread text at 124 (of_walk x) → Closed ons offs f at x → Gained ons offs at x behind f f₂ (bit_or one two)
      go (alt_at v x p q) closed =
          let here : other ≡ at + 1 + length (walk_text v) = place ∙ marked.each (at + 1) (of_walk v) p in
          let a : Gained ons offs (at + 1) v behind f f₁ one = g.each v p closed.0 in
          let still : Closed ons offs f₁ (at + 1 + length (walk_text v)) x =
          closed_apart ons offs f f₁ (at + 1 + length (walk_text v)) x a.grown (λ i low high. a.apart i (inr low)) closed.1 in
          let b : Gained ons offs (at + 1 + length (walk_text v)) x behind f₁ f₂ two =
          subst (λ (i : ℕ). Gained ons offs i x behind f₁ f₂ two) here
          (h.each x (end_stands marked p other place q) (subst (λ (i : ℕ). Closed ons offs f₁ i x) (sym here) still)) in
          record {
            grown = λ i l e. b.grown i l (a.grown i l e);
            apart = λ i out. b.apart i (⊎_elim (λ k. inl (omega arith)) (λ k. inr (omega (arith, length-append (walk_text v) (walk_text x)))) out)
                ∙ a.apart i (⊎_elim (λ k. inl (omega arith)) (λ k. inr (omega (arith, length-append (walk_text v) (walk_text x)))) out);
            closed = (closed_apart ons offs f₁ f₂ (at + 1) v b.grown (λ i low high. b.apart i (inl high)) a.closed, b.closed);
            measured = (
              measured_wide ons offs f₁ f₂ (at + 1) v behind one behind (bit_or one two) b.grown (λ l e. e) (or_left one two) a.measured,
              measured_wide ons offs f₂ f₂ (at + 1 + length (walk_text v)) x behind two behind (bit_or one two) (λ i l e. e) (λ l e. e) (or_right one two) b.measured,
            );
          }

-- The table stays as it is.
stays : (ons offs : ℕ) {at behind : ℕ} {f : List ℕ} (x : Walk) (r : ℕ) → Closed ons offs f at x → Measured ons offs f at x behind r → Gained ons offs at x behind f f r
stays ons offs x r closed measured = record { grown = λ i l e. e; apart = λ i out. refl; closed = closed; measured = measured }

module _ (ons offs : ℕ) {text : List ℕ} {at behind : ℕ} {f : List ℕ} where
  -- `?T`, where T may be true, and where it cannot
  pub may_gained : get_or text at 0 ≡ 63 → BeforeTold text at ons offs behind f f behind
  unfolding Measured
  may_gained sign = record { each = λ x h closed. go (spread h 63 sign) closed }
    where
      go : {x : Walk} → Spread text at 63 (of_walk x) → Closed ons offs f at x → Gained ons offs at x behind f f behind
      go (check_at t p) closed = stays ons offs (check t) behind closed (inr (λ l e. e))

  pub never_gained : {answer : Bool} → get_or text at 0 ≡ 63 → answer ≡ false → MayTold text (at + 1) true ons offs answer → BeforeTold text at ons offs behind f f 0
  unfolding Measured
  never_gained sign bar told = record { each = λ x h closed. go (spread h 63 sign) closed }
    where
      go : {x : Walk} → Spread text at 63 (of_walk x) → Closed ons offs f at x → Gained ons offs at x behind f f 0
      go (check_at t p) closed = stays ons offs (check t) 0 closed (inl (told.never bar t p))

  -- a job has no other sign
  pub quiet_gained : NoSign text at 97 → NoSign text at 110 → NoSign text at 59 → NoSign text at 124 → NoSign text at 42 → NoSign text at 63 → NoSign text at 98 → NoSign text at 112
      → BeforeTold text at ons offs behind f f 0
  unfolding Measured
  quiet_gained no-act no-next no_seq no_alt no_star no_check no-sum no_pick = record { each = λ x h closed. go (spread h (get_or text at 0) refl) refl closed }
    where
      go : {b : ℕ} {x : Walk} → Spread text at b (of_walk x) → get_or text at 0 ≡ b → Closed ons offs f at x → Gained ons offs at x behind f f 0
      go (act_at b digits) e closed = absurd (no-act e)
      go (undo_at b digits) e closed = stays ons offs (undo (plain b)) 0 closed tt
      go next_part_at e closed = absurd (no-next e)
      go prev_at e closed = stays ons offs prev 0 closed tt
      go (seq_at v x p q) e closed = absurd (no_seq e)
      go (alt_at v x p q) e closed = absurd (no_alt e)
      go (star_at x p) e closed = absurd (no_star e)
      go (check_at t p) e closed = absurd (no_check e)
      go (conv_at x p) e closed = stays ons offs (conv x) 0 closed tt
      go (sum_act_at b v digits letter) e closed = absurd (no-sum e)
      go (sum_undo_at b v digits letter) e closed = stays ons offs (undo (plus b v)) 0 closed tt
      go (pick_at v x letter p) e closed = absurd (no_pick e)

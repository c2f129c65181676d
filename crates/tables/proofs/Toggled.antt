-- A possible step put on the rows of a log, or taken off them: they are then the rows of the log with that step, or without it. Knows which positions a row
-- holds; no word and no code.
use mathlib.Core.Path.{◌≡◌, refl, sym, ap, subst, subst⁻¹, subst₂, ◌∙◌}
use mathlib.Core.Logic.Iff
use mathlib.Core.Logic.{◌↔◌, ◌⊎◌, inl, inr, ⊎_elim}
use mathlib.Core.Bool.{Bool, true, false, false≢true, ◌&&◌, xor}
use mathlib.Core.List.{List, [], ◌∷◌, ◌++◌}
use mathlib.Core.Option.{some}
use Prim.Native.Nat.{ℕ, ◌+◌, ◌≤◌, ◌<◌}
use native.Mathlib.Nat.{eq-or-lt_of_le}
use native.Mathlib.Omega.{arith}
use borrow.Author.Tests.{eqb-true, eq-eqb}
use lib.Dec.{eqb}
use lib.ListN.{length, length-append}
use lib.Seq.{take-append-le}
use Rattle.laws.specs.Bit.{on}
use Rattle.laws.proofs.Truth.{and_iff}
use Rattle.meaning.specs.Theory.{Possible, World, after, relog, state_before, step_at}
use Rattle.meaning.proofs.Theory.{get_elem_seam, get_elem_within, step_cut, state_logged, state_longer}
use Rattle.tables.specs.Tables.{TakenAt, Describes, Toggled}

-- of two things that are never both so, one is, if their answers differ; and taking the second away leaves the first
put : {A B : Type 0} (x y : Bool) → (x ≡ true) ↔ A → (y ≡ true) ↔ B → (A → B → ⊥) → (xor x y ≡ true) ↔ (A ⊎ B)
unfolding xor
put true true a b apart = absurd (apart (a.0 refl) (b.0 refl))
put true false a b apart = (λ h. inl (a.0 refl), λ h. refl)
put false true a b apart = (λ h. inr (b.0 refl), λ h. refl)
put false false a b apart = (λ h. absurd (false≢true h), ⊎_elim (λ h. a.1 h) (λ h. b.1 h))

take_off : {A B : Type 0} (x y : Bool) → (x ≡ true) ↔ (A ⊎ B) → (y ≡ true) ↔ B → (A → B → ⊥) → (xor x y ≡ true) ↔ A
unfolding xor
take_off true true a b apart = (λ h. absurd (false≢true h), λ h. absurd (apart h (b.0 refl)))
take_off true false a b apart = (λ h. ⊎_elim (λ l. l) (λ r. absurd (false≢true (b.1 r))) (a.0 refl), λ h. refl)
take_off false true a b apart = absurd (false≢true (a.1 (inr (b.0 refl))))
take_off false false a b apart = (λ h. absurd (false≢true h), λ h. a.1 (inl h))

module _ (w : World) (a p behind : ℕ) (end : p ≡ length w.log) (able : Possible (w.masks a) (state_before w p)) (next : behind ≡ after (w.masks a) (state_before w p)) where
  abbrev longer : World
  longer = relog w (w.log ++ a ∷ [])

  -- the last step is action a, and those before it are what they were
  last : step_at longer p ≡ some a
  last = subst (λ (x : ℕ). step_at longer x ≡ some a) (sym end) (get_elem_seam w.log a [])

  state : (q : ℕ) → q ≤ p → state_before longer q ≡ state_before w q
  state q h = state_longer w (a ∷ []) q (omega (arith, end))

  step : (q : ℕ) → q < p → step_at longer q ≡ step_at w q
  step q h = step_cut w (w.log ++ a ∷ []) w.log q p (rw (end, take-append-le (length w.log) w.log (a ∷ []) (omega arith))) h

  long : length longer.log ≡ p + 1
  long = length-append w.log (a ∷ []) ∙ rw (← end)

  -- which steps were taken
  before : (b q : ℕ) → TakenAt w q b → q < p
  before b q t = omega (arith, end, get_elem_within w.log q b t.0)

  kept : (b q : ℕ) → q < p → TakenAt w q b ↔ TakenAt longer q b
  kept b q h = (
    λ t. (step q h ∙ t.0, subst⁻¹ (Possible (w.masks b)) (state q (omega arith)) t.1),
    λ t. (sym (step q h) ∙ t.0, subst (Possible (w.masks b)) (state q (omega arith)) t.1),
  )

  here : (b q : ℕ) → b ≡ a → q ≡ p → TakenAt longer q b
  here b q e f =
      subst₂ (λ (x y : ℕ). TakenAt longer y x) (sym e) (sym f) (last, subst⁻¹ (Possible (w.masks a)) (state p (omega arith)) able)

  taken : (b q : ℕ) → (TakenAt w q b ⊎ ((b ≡ a) × (q ≡ p))) ↔ TakenAt longer q b
  taken b q = (
    ⊎_elim (λ t. (kept b q (before b q t)).0 t) (λ e. here b q e.0 e.1),
    λ t.
        let low : q < length longer.log = get_elem_within longer.log q b t.0 in
        ⊎_elim
        (λ e. inr (cc (last, subst (λ (x : ℕ). step_at longer x ≡ some b) e t.0), e))
        (λ h. inl ((kept b q h).1 t))
        (eq-or-lt_of_le (omega (arith, long))),
  )

  -- the fluents: at the position behind the step, those of the state there
  reached : state_before longer (p + 1) ≡ behind
  reached = state_logged longer p a last ∙ ap (after (w.masks a)) (state p (omega arith)) ∙ sym next

  shown : (i q : ℕ) → (((q ≤ length w.log) × (on (state_before w q) i ≡ true)) ⊎ ((q ≡ p + 1) × (on behind i ≡ true)))
      ↔ ((q ≤ length longer.log) × (on (state_before longer q) i ≡ true))
  shown i q = (
    ⊎_elim
        (λ s. (omega (arith, s.0, end, long), subst⁻¹ (λ (x : ℕ). on x i ≡ true) (state q (omega (arith, s.0, end))) s.1))
        (λ s. (omega (arith, s.0, long), subst⁻¹ (λ (x : ℕ). on (state_before longer x) i ≡ true) s.0 (subst⁻¹ (λ (x : ℕ). on x i ≡ true) reached s.1))),
    λ s.
        ⊎_elim
        (λ e. inr (e, subst (λ (x : ℕ). on x i ≡ true) reached (subst (λ (x : ℕ). on (state_before longer x) i ≡ true) e s.1)))
        (λ h. inl (omega (arith, h, end), subst (λ (x : ℕ). on x i ≡ true) (state q (omega (arith, h))) s.1))
        (eq-or-lt_of_le (omega (arith, s.0, long))),
  )

  shown_apart : (i q : ℕ) → (q ≤ length w.log) × (on (state_before w q) i ≡ true) → (q ≡ p + 1) × (on behind i ≡ true) → ⊥
  shown_apart i q s t = omega (arith, s.0, t.0, end)

  -- whichever action it was
  possible : (q : ℕ) → (((b : ℕ) × TakenAt w q b) ⊎ (q ≡ p)) ↔ ((b : ℕ) × TakenAt longer q b)
  possible q = (
    ⊎_elim (λ t. (t.0, (taken t.0 q).0 (inl t.1))) (λ e. (a, here a q refl e)),
    λ t. ⊎_elim (λ s. inl (t.0, s)) (λ e. inr e.1) ((taken t.0 q).1 t.1),
  )

  both : (b q : ℕ) → ((eqb b a && eqb q p) ≡ true) ↔ ((b ≡ a) × (q ≡ p))
  both b q = (
    λ h. let u = (and_iff (eqb b a) (eqb q p)).0 h in (eqb-true b a u.0, eqb-true q p u.1),
    λ e. (and_iff (eqb b a) (eqb q p)).1 (eq-eqb b a e.0, eq-eqb q p e.1),
  )

  lit : (i q : ℕ) → ((eqb q (p + 1) && on behind i) ≡ true) ↔ ((q ≡ p + 1) × (on behind i ≡ true))
  lit i q = (
    λ h. let u = (and_iff (eqb q (p + 1)) (on behind i)).0 h in (eqb-true q (p + 1) u.0, u.1),
    λ e. (and_iff (eqb q (p + 1)) (on behind i)).1 (eq-eqb q (p + 1) e.0, e.1),
  )

  -- the rows of a log become those of the log with the step, and back
  pub toggled_on : {old new : List ℕ} → Describes w old → Toggled old new a p behind → Describes longer new
  toggled_on d t =
      record {
        room = t.room ∙ d.room;
        taken = λ b q. rw (t.taken b q) (Iff.trans (put _ _ (d.taken b q) (both b q) (λ s e. omega (arith, before b q s, e.1))) (taken b q));
        shown = λ i q. rw (t.shown i q) (Iff.trans (put _ _ (d.shown i q) (lit i q) (shown_apart i q)) (shown i q));
        possible = λ q.
            rw (t.possible q)
            (Iff.trans (put _ _ (d.possible q) (eqb-true q p, eq-eqb q p) (λ s e. omega (arith, before s.0 q s.1, e))) (possible q));
      }

  pub toggled_off : {old new : List ℕ} → Describes longer old → Toggled old new a p behind → Describes w new
  toggled_off d t =
      record {
        room = t.room ∙ d.room;
        taken = λ b q.
            rw (t.taken b q) (take_off _ _ (Iff.trans (d.taken b q) (Iff.symm (taken b q))) (both b q) (λ s e. omega (arith, before b q s, e.1)));
        shown = λ i q. rw (t.shown i q) (take_off _ _ (Iff.trans (d.shown i q) (Iff.symm (shown i q))) (lit i q) (shown_apart i q));
        possible = λ q.
            rw (t.possible q)
            (take_off _ _ (Iff.trans (d.possible q) (Iff.symm (possible q))) (eqb-true q p, eq-eqb q p) (λ s e. omega (arith, before s.0 q s.1, e)));
      }

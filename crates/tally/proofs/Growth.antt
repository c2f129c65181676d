-- The record of a log with one action more: "Append to a record of log l equals the record of l ++ [a]". And the record of no step. Knows the meaning's steps.
use mathlib.Core.Path.{◌≡◌, refl, sym, ap, subst, subst₂, ◌∙◌}
use mathlib.Core.Logic.{◌⊎◌, ◌↔◌, inl, inr, ⊎_elim}
use mathlib.Core.List.{List, [], ◌∷◌, ◌++◌}
use mathlib.Core.Option.{some, some-injective}
use Prim.Native.Nat.{ℕ, suc, ◌+◌, ◌≤◌, ◌<◌}
use native.Mathlib.Decide.{dec_lt, ℕ_discrete}
use native.Mathlib.Numerals.{add-one}
use native.Mathlib.Omega.{arith}
use borrow.Author.Tests.{lt-leb}
use lib.ListN.{length, get_or, take, replicate, length-append, length-set, length-replicate, get_or-replicate}
use lib.Seq.{take-suc, take-length, length-take-le, take-append-le, get_or-set_same, get_or-set_other}
use Rattle.laws.proofs.Count.{count_le}
use Rattle.laws.proofs.Truth.{off_on, true_or_false}
use Rattle.meaning.specs.Limits.{action_limit, log_limit}
use Rattle.meaning.specs.Theory.{Possible, World, after, relog, state_before, step_at}
use Rattle.meaning.proofs.Theory.{get_elem_within, get_elem_seam, state_longer, state_logged, state_start, step_cut}
use Rattle.meaning.proofs.Possible.{possible, possible_tells}
use Rattle.theory.specs.Subject.{subject_of, world_of}
use Rattle.tables.specs.Tables.{TakenAt}
use Rattle.theory.specs.declared.Setting.{Setting}
use Rattle.tables.proofs.Transposed.{uncounted}
use Rattle.tally.specs.Record.{Last, Times, ImpossibleAt, ActionTold, TallyOf, one_added, Grown}
use Rattle.tally.specs.declared.Tally.{Tally}
use Rattle.tally.proofs.Places.{last_kept, last_moved, times_kept, times_more, last_none, times_none}

-- whatever is taken is a step of the log
pub taken_within : (w : World) (p a : ℕ) → TakenAt w p a → p < length w.log
taken_within w p a h = get_elem_within w.log p a h.0

module _ (w : World) (a : ℕ) where
  -- the log with action a behind it, and where a stands
  abbrev pub longer : World
  longer = relog w (w.log ++ a ∷ [])

  abbrev n : ℕ
  n = length w.log

  -- a is possible there
  abbrev pub New : Type 0
  New = Possible (w.masks a) (state_before w n)

  pub longer_length : length (w.log ++ a ∷ []) ≡ suc n
  longer_length = omega (arith, length-append w.log (a ∷ []))

  old_step : (p : ℕ) → p < n → step_at longer p ≡ step_at w p
  old_step p h = step_cut w (w.log ++ a ∷ []) w.log p n (take-append-le n w.log (a ∷ []) (omega arith)) h

  old_state : (p : ℕ) → p ≤ n → state_before longer p ≡ state_before w p
  old_state p h = state_longer w (a ∷ []) p h

  new_step : step_at longer n ≡ some a
  new_step = get_elem_seam w.log a []

  -- a step of the longer log is an old one or the new one
  old_or_new : (p : ℕ) → p < length longer.log → (p < n) ⊎ (p ≡ n)
  old_or_new p h = elim (dec_lt p n) [ yes low ↦ inl low | no high ↦ inr (omega (arith, longer_length, h, high)) ]

  old_taken : (p b : ℕ) → p < n → TakenAt longer p b ↔ TakenAt w p b
  old_taken p b h = (
    λ t. (sym (old_step p h) ∙ t.0, subst (Possible (w.masks b)) (old_state p (omega arith)) t.1),
    λ t. (old_step p h ∙ t.0, subst (Possible (w.masks b)) (sym (old_state p (omega arith))) t.1),
  )

  new_taken : (b : ℕ) → TakenAt longer n b ↔ ((b ≡ a) × New)
  new_taken b = (
    λ t.
        let same : b ≡ a = some-injective _ _ (sym t.0 ∙ new_step) in
        (same, subst (Possible (w.masks a)) (old_state n (omega arith)) (subst (λ (c : ℕ). Possible (w.masks c) (state_before longer n)) same t.1)),
    λ h. (
      new_step ∙ ap some (sym h.0),
      subst (λ (c : ℕ). Possible (w.masks c) (state_before longer n)) (sym h.0) (subst (Possible (w.masks a)) (sym (old_state n (omega arith))) h.1),
    ),
  )

  pub taken_grows : (b p : ℕ) → TakenAt longer p b ↔ (TakenAt w p b ⊎ ((p ≡ n) × ((b ≡ a) × New)))
  taken_grows b p = (
    λ t. ⊎_elim (λ h. inl ((old_taken p b h).0 t)) (λ e. inr (e, (new_taken b).0 (subst (λ (q : ℕ). TakenAt longer q b) e t))) (old_or_new p (taken_within longer p b t)),
    ⊎_elim (λ t. (old_taken p b (taken_within w p b t)).1 t) (λ h. subst (λ (q : ℕ). TakenAt longer q b) (sym h.0) ((new_taken b).1 h.1)),
  )

  pub impossible_grows : (p : ℕ) → ImpossibleAt longer p ↔ (ImpossibleAt w p ⊎ ((p ≡ n) × (New → ⊥)))
  impossible_grows p = (
    λ i. ⊎_elim
        (λ h. inl (h, λ b t. i.1 b ((old_taken p b h).1 t)))
        (λ e. inr (e, λ new. i.1 a (subst (λ (q : ℕ). TakenAt longer q a) (sym e) ((new_taken a).1 (refl, new)))))
        (old_or_new p i.0),
    ⊎_elim
        (λ i. (omega (arith, i.0, longer_length), λ b t. i.1 b ((old_taken p b i.0).0 t)))
        (λ h. (omega (arith, h.0, longer_length), λ b t. h.1 ((new_taken b).0 (subst (λ (q : ℕ). TakenAt longer q b) h.0 t)).1)),
  )

  pub longer_state : state_before longer (length longer.log) ≡ after (w.masks a) (state_before w n)
  longer_state =
      let e : length longer.log ≡ n + 1 = omega (arith, longer_length) in
      ap (state_before longer) e ∙ state_logged longer n a new_step ∙ ap (after (w.masks a)) (old_state n (omega arith))

-- no count of a log is more than its steps, so that it is counted on
counts_on : {Such : ℕ → Type 0} {n c : ℕ} → Times Such n c → n < log_limit → one_added c ≡ c + 1
counts_on {n = n} {c = c} t h =
    let low : c < log_limit = omega (arith, t.counted, count_le n t.marked, h) in
    rw (lt-leb log_limit c low)

-- one step more in the record of a log gives the record of the longer log
module _ (w : World) (a : ℕ) {t u : Tally} (room : length w.log < log_limit) (known : a < action_limit) (told : TallyOf w t) (g : Grown (w.masks a) a t u) where
  -- what is told of action b once it is told what its fields are
  action_kept : (b : ℕ) → b < action_limit → ((b ≡ a) × New w a → ⊥) → {count last : ℕ} → count ≡ get_or t.counts b 0 → last ≡ get_or t.last b 0
      → ActionTold (longer w a) b count last
  action_kept b low not c l =
      let old = told.actions b low in
      let times = times_kept (length w.log) (λ p. taken_within w p b) (taken_grows w a b) not old.times in
      record {
        times = subst₂ (Times (λ p. TakenAt (longer w a) p b)) (sym (longer_length w a)) (sym c) times;
        latest = subst (Last (λ p. TakenAt (longer w a) p b)) (sym l) (last_kept (length w.log) (λ p. taken_within w p b) (taken_grows w a b) not old.latest);
      }

  action_more : New w a → {count last : ℕ} → count ≡ one_added (get_or t.counts a 0) → last ≡ t.steps + 1 → ActionTold (longer w a) a count last
  action_more new c l =
      let old = told.actions a known in
      let times = times_more (length w.log) (λ p. taken_within w p a) (taken_grows w a a) (refl, new) old.times in
      let latest = last_moved (length w.log) (λ p. taken_within w p a) (taken_grows w a a) (refl, new) in
      let count = sym (c ∙ counts_on old.times room) in
      let place = ap (λ (k : ℕ). k + 1) (sym told.steps) ∙ sym l in
      record {
        times = subst₂ (Times (λ p. TakenAt (longer w a) p a)) (sym (longer_length w a)) count times;
        latest = subst (Last (λ p. TakenAt (longer w a) p a)) place latest;
      }

  within : (p : ℕ) → ImpossibleAt w p → p < length w.log
  within p h = h.0

  -- the state that the step is asked in is the log's last
  here : Possible (w.masks a) t.state ↔ New w a
  here = (subst (Possible (w.masks a)) told.state, subst (Possible (w.masks a)) (sym told.state))

  steps : u.steps ≡ length (w.log ++ a ∷ [])
  steps = omega (arith, g.steps, told.steps, longer_length w a)

  state : u.state ≡ state_before (longer w a) (length (w.log ++ a ∷ []))
  state = g.state ∙ ap (after (w.masks a)) told.state ∙ sym (longer_state w a)

  when_possible : Possible (w.masks a) t.state → TallyOf (longer w a) u
  when_possible can =
      let new = here.0 can in
      let (counts, last, impossible) = g.possible can in
      record {
        actions = λ b low. elim (ℕ_discrete b a) [
          | yes e ↦ subst (λ (k : ℕ). ActionTold (longer w a) k (get_or u.counts k 0) (get_or u.last k 0)) (sym e)
              (action_more new
              (ap (λ (l : List ℕ). get_or l a 0) counts ∙ get_or-set_same t.counts a _ 0 (omega (arith, known, told.count_room)))
              (ap (λ (l : List ℕ). get_or l a 0) last ∙ get_or-set_same t.last a _ 0 (omega (arith, known, told.last_room))))
          | no ne ↦
              action_kept b low (λ h. ne h.0)
              (ap (λ (l : List ℕ). get_or l b 0) counts ∙ get_or-set_other t.counts a b _ 0 ne)
              (ap (λ (l : List ℕ). get_or l b 0) last ∙ get_or-set_other t.last a b _ 0 ne)
        ];
        impossible =
            subst (Last (ImpossibleAt (longer w a))) (sym impossible)
            (last_kept (length w.log) within (impossible_grows w a) (λ not. not new) told.impossible);
        state = state;
        steps = steps;
        count_room = ap length counts ∙ length-set t.counts a _ ∙ told.count_room;
        last_room = ap length last ∙ length-set t.last a _ ∙ told.last_room;
      }

  when_not : (Possible (w.masks a) t.state → ⊥) → TallyOf (longer w a) u
  when_not cannot =
      let not : New w a → ⊥ = λ new. cannot (here.1 new) in
      let (counts, last, impossible) = g.impossible cannot in
      record {
        actions = λ b low.
            action_kept b low (λ h. not h.1) (ap (λ (l : List ℕ). get_or l b 0) counts) (ap (λ (l : List ℕ). get_or l b 0) last);
        impossible =
            subst (Last (ImpossibleAt (longer w a))) (ap (λ (k : ℕ). k + 1) (sym told.steps) ∙ sym impossible)
            (last_moved (length w.log) within (impossible_grows w a) not);
        state = state;
        steps = steps;
        count_room = ap length counts ∙ told.count_room;
        last_room = ap length last ∙ told.last_room;
      }

  pub tally_grows : TallyOf (longer w a) u
  tally_grows =
      ⊎_elim (λ h. when_possible ((possible_tells (w.masks a) t.state).0 h)) (λ h. when_not (λ can. off_on h ((possible_tells (w.masks a) t.state).1 can)))
      (true_or_false (possible (w.masks a) t.state))

-- Over a log, from its front: no step, one step more, and the whole.
pub tally_begins : (w : World) → TallyOf (relog w []) (record { counts = replicate action_limit 0; last = replicate action_limit 0; state = w.start; steps = 0; impossible = 0 })
tally_begins w =
    record {
      actions = λ a low. record {
        times = subst (Times (λ p. TakenAt (relog w []) p a) 0) (sym (get_or-replicate action_limit a 0 0 low)) (times_none (none_taken a));
        latest = subst (Last (λ p. TakenAt (relog w []) p a)) (sym (get_or-replicate action_limit a 0 0 low)) (last_none (none_taken a));
      };
      impossible = last_none (λ p h. omega (arith, h.0));
      state = sym (state_start (relog w []));
      steps = refl;
      count_room = length-replicate {A = ℕ} action_limit 0;
      last_room = length-replicate {A = ℕ} action_limit 0;
    }
  where
    none_taken : (a p : ℕ) → TakenAt (relog w []) p a → ⊥
    none_taken a p h = omega (arith, taken_within (relog w []) p a h)

pub tally_next : (w : World) (i : ℕ) {t u : Tally} → i < length w.log → length w.log ≤ log_limit → get_or w.log i 0 < action_limit
    → TallyOf (relog w (take i w.log)) t → Grown (w.masks (get_or w.log i 0)) (get_or w.log i 0) t u → TallyOf (relog w (take (i + 1) w.log)) u
tally_next w i {t} {u} inside short known told g =
    let front : take (i + 1) w.log ≡ take i w.log ++ (get_or w.log i 0 ∷ []) = rw add-one (take-suc w.log i 0 inside) in
    let done : length (take i w.log) ≡ i = length-take-le i w.log (omega arith) in
    subst (λ (l : List ℕ). TallyOf (relog w l) u) (sym front)
    (tally_grows (relog w (take i w.log)) (get_or w.log i 0) (omega arith) known told g)

pub tally_whole : (w : World) (i : ℕ) {t : Tally} → i ≡ length w.log → TallyOf (relog w (take i w.log)) t → TallyOf w t
tally_whole w i {t} e told = subst (λ (l : List ℕ). TallyOf (relog w l) t) (ap (λ (k : ℕ). take k w.log) e ∙ take-length w.log) told

-- how many fluents and actions there are does not matter
pub recount : (s : Setting) (masks log : List ℕ) {t : Tally} → TallyOf (uncounted s.start masks log) t → TallyOf (world_of (subject_of s masks log)) t
recount s masks log d =
    record {
      actions = λ a low. let x = d.actions a low in record { times = x.times; latest = x.latest };
      impossible = d.impossible;
      state = d.state;
      steps = d.steps;
      count_room = d.count_room;
      last_room = d.last_room;
    }

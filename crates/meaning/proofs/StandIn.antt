-- A stand-in takes another action's place in a log, and no walk that names neither can tell: as many steps, possible where the other was, and the same
-- fluents on, but for those that decide nothing. Knows the two tables and the effects of an action.
use mathlib.Core.Path.{◌≡◌, refl, sym, ◌∙◌}
use mathlib.Core.Logic.{◌⊎◌, inl, inr}
use mathlib.Core.Bool.{Bool, true, false, not, ◌&&◌, ◌||◌, cond, and-false, or-true}
use mathlib.Core.List.{List, [], ◌∷◌, ◌++◌, append_assoc}
use mathlib.Core.Option.{some}
use Prim.Native.Nat.{ℕ, zero, suc, ◌+◌, ◌≤◌, max}
use native.Mathlib.Decide.{dec_lt}
use native.Mathlib.Omega.{arith}
use lib.ListN.{length, length-append, take, get_elem?}
use Rattle.laws.specs.Bit.{on}
use Rattle.laws.proofs.On.{on_high}
use Rattle.laws.proofs.Truth.{same_truth, off_on}
use Rattle.meaning.specs.Limits.{fluent_limit}
use Rattle.meaning.specs.Theory.{Clause, Masks, Possible, Acts, acts, clause_puts, clause_drops, World, as_job, bind, inside, after, relog, run, state_before, step_at}
use Rattle.meaning.specs.Rule.{Variable, Name, plain, plus, Walk, Test, act, undo, next, prev, seq, alt, star, check, conv, pick, always, fluent, neg, both, diamond, exists, walk_names, test_names}
use Rattle.meaning.specs.Leads.{Leads, Holds, Step, AnyStep, own_now}
use Rattle.meaning.specs.Finish.{Able, Smaller, First}
use Rattle.meaning.specs.StandIn.{among, NamesNone, Asked, Idle, SameClause, Alike, StandsIn}
use Rattle.meaning.proofs.Effects.{acts_tells, after_bit}
use Rattle.meaning.proofs.Theory.{after_lt}
use Rattle.meaning.proofs.Bounds.{leads_within}
use Rattle.meaning.proofs.Converse.{back_exchanged}
use Rattle.meaning.proofs.Cut.{Kept, Stays, then_kept, or_kept, many_kept, here_kept, some_stays, turned_kept}

-- at every now
abbrev Any : ℕ → Type 0
Any n = Unit {0}

-- What a walk that the two functions give 0 can tell of a world, another world has as well: the steps of its actions, that there is a step, its fluents.
record Told (f g : Name → ℕ) (w w' : World) : Type 0 where
  values : w.domain ≡ w'.domain
  own : w.own ≡ w'.own
  inner : w.inner ≡ w'.inner
  step : (a : ℕ) → f (plain a) ≡ 0 → Kept Any (Step w a) (Step w' a)
  any : Kept Any (AnyStep w) (AnyStep w')
  shown : (i : ℕ) → g (plain i) ≡ 0 → (t : ℕ) → on (state_before w t) i ≡ on (state_before w' t) i

-- the values of variables have no part in it
told_bound : {f g : Name → ℕ} {w w' : World} (v : Variable) (k : ℕ) → Told f g w w' → Told f g (bind w v k) (bind w' v k)
told_bound v k u = record { values = u.values; own = u.own; inner = u.inner; step = u.step; any = u.any; shown = u.shown }

-- and what a test sees inside a `<` is told as well
told_inside : {f g : Name → ℕ} {w w' : World} → Told f g w w' → Told f g (inside w) (inside w')
told_inside u = record { values = u.values; own = u.inner; inner = u.inner; step = u.step; any = u.any; shown = u.shown }

-- neither of two parts names a thing
apart : (m n : ℕ) → max m n ≡ 0 → (m ≡ 0) × (n ≡ 0)
apart m n e = (omega arith, omega arith)

module _ (f g : Name → ℕ) (no-act : (n : ℕ) (v : Variable) → f (plus n v) ≡ 0 → ⊥) (no-fluent : (n : ℕ) (v : Variable) → g (plus n v) ≡ 0 → ⊥) where
  mutual
    unfolding Leads walk_names own_now

    leads_told : (w w' : World) (x : Walk) → walk_names f g x ≡ 0 → Told f g w w' → Told f g w' w → Kept Any (Leads w x) (Leads w' x)
    leads_told w w' (act (plain a)) z u v = u.step a z
    leads_told w w' (act (plus n y)) z u v = absurd (no-act n y z)
    leads_told w w' (undo (plain a)) z u v = λ p q. u.step a z q p
    leads_told w w' (undo (plus n y)) z u v = absurd (no-act n y z)
    leads_told w w' next z u v = u.any
    leads_told w w' prev z u v = λ p q. u.any q p
    leads_told w w' (seq x y) z u v =
        let e = apart (walk_names f g x) (walk_names f g y) z in
        then_kept (leads_told w w' x e.0 u v) (leads_told w w' y e.1 u v)
    leads_told w w' (alt x y) z u v =
        let e = apart (walk_names f g x) (walk_names f g y) z in
        or_kept (leads_told w w' x e.0 u v) (leads_told w w' y e.1 u v)
    leads_told w w' (star x) z u v = many_kept (leads_told w w' x z u v)
    leads_told w w' (check t) z u v = here_kept w w' (λ p n. rw u.own) (λ m n l e. e) (holds_told w w' t z u v)
    leads_told w w' (conv x) z u v = turned_kept (back_exchanged w x) (back_exchanged w' x) (leads_told w w' x z u v)
    leads_told w w' (pick y x) z u v = λ p q n e h.
        (h.0, rw (← u.values) h.1, leads_told (bind w y h.0) (bind w' y h.0) x z (told_bound y h.0 u) (told_bound y h.0 v) p q n e h.2)

    holds_told : (w w' : World) (x : Test) → test_names f g x ≡ 0 → Told f g w w' → Told f g w' w → Stays Any (Holds w x) (Holds w' x)
    holds_told w w' always z u v = λ t n e l h. h
    holds_told w w' (fluent (plain i)) z u v = λ t n e l h. sym (u.shown i z t) ∙ h
    holds_told w w' (fluent (plus n y)) z u v = absurd (no-fluent n y z)
    holds_told w w' (neg x) z u v = λ t n e l no-x h. no-x (holds_told w' w x z v u t n e l h)
    holds_told w w' (both x y) z u v =
        let d = apart (test_names f g x) (test_names f g y) z in
        λ t n e l h. (holds_told w w' x d.0 u v t n e l h.0, holds_told w w' y d.1 u v t n e l h.1)
    holds_told w w' (diamond x y) z u v =
        let d = apart (walk_names f g x) (test_names f g y) z in
        some_stays (leads_within (inside w) x) (leads_told (inside w) (inside w') x d.0 (told_inside u) (told_inside v)) (holds_told w w' y d.1 u v)
    holds_told w w' (exists y x) z u v = λ t n e l h.
        (h.0, rw (← u.values) h.1, holds_told (bind w y h.0) (bind w' y h.0) x z (told_bound y h.0 u) (told_bound y h.0 v) t n e l h.2)

-- what an action does to a fluent, by its bits: a drop of a clause that acts and puts does not show
module _ (s x y : Bool) where
  first_clause : (p d d' a : Bool) → (p ≡ false → d ≡ d') → (((p && a) || x) || (s && not ((d && a) || y))) ≡ (((p && a) || x) || (s && not ((d' && a) || y)))
  first_clause true d d' true f = refl
  first_clause true d d' false f = simp and-false
  first_clause false d d' a f = rw (f refl)

  second_clause : (p d d' a : Bool) → (p ≡ false → d ≡ d') → ((x || (p && a)) || (s && not (y || (d && a)))) ≡ ((x || (p && a)) || (s && not (y || (d' && a))))
  second_clause true d d' true f = simp or-true
  second_clause true d d' false f = simp and-false
  second_clause false d d' a f = rw (f refl)

module _ (masks : ℕ → Masks) (idle : ℕ) (quiet : Idle masks idle) where
  -- two states with the same fluents on, but for the idle ones
  abbrev Near : ℕ → ℕ → Type 0
  Near s s' = (i : ℕ) → on idle i ≡ false → on s i ≡ on s' i

  -- a clause acts in both or in neither
  near_acting : (c c' : Clause) (s s' : ℕ) → ((i : ℕ) → Asked c' i → on idle i ≡ false) → c.when ≡ c'.when → c.unless ≡ c'.unless → Near s s'
      → Acts c s → Acts c' s'
  near_acting c c' s s' unread d e n h = record {
    met = λ i l o. sym (n i (unread i (inl o))) ∙ h.met i l (rw d o);
    clear = λ i l o. sym (n i (unread i (inr o))) ∙ h.clear i l (rw e o);
  }

  near_acts : (c c' : Clause) (s s' : ℕ) → ((i : ℕ) → Asked c' i → on idle i ≡ false) → SameClause idle c c' → Near s s' → acts c s ≡ acts c' s'
  near_acts c c' s s' unread h n =
      let unread' : (i : ℕ) → Asked c i → on idle i ≡ false = λ i o. unread i (rw (h.when, h.unless) at o) in
      same_truth (acts c s) (acts c' s')
      (λ o. (acts_tells c' s').1 (near_acting c c' s s' unread h.when h.unless n ((acts_tells c s).0 o)))
      (λ o. (acts_tells c s).1 (near_acting c' c s' s unread' (sym h.when) (sym h.unless) (λ i e. sym (n i e)) ((acts_tells c' s').0 o)))

  -- and does the same
  near_after : (a b s s' : ℕ) → Alike idle (masks a) (masks b) → Near s s' → Near (after (masks a) s) (after (masks b) s')
  near_after a b s s' h n i e = elim (dec_lt i fluent_limit) [
    | yes l ↦
        let m = masks a in
        let m' = masks b in
        let one = near_acts m.one m'.one s s' (λ j o. quiet b j (inr (inl o))) h.one n in
        let two = near_acts m.two m'.two s s' (λ j o. quiet b j (inr (inr o))) h.two n in
        rw (after_bit m s i l, after_bit m' s' i l, one, two, h.one.put i l e, h.two.put i l e, n i e)
        (first_clause (on s' i) (clause_puts m'.two s' i) (on m.two.drop i && acts m'.two s') (on m'.one.put i) (on m.one.drop i) (on m'.one.drop i)
        (acts m'.one s') (λ z. h.one.drop i l e (h.one.put i l e ∙ z))
        ∙ second_clause (on s' i) (clause_puts m'.one s' i) (clause_drops m'.one s' i) (on m'.two.put i) (on m.two.drop i) (on m'.two.drop i)
        (acts m'.two s') (λ z. h.two.drop i l e (h.two.put i l e ∙ z)))
    | no l ↦
        let far : fluent_limit ≤ i = omega arith in
        on_high fluent_limit (after_lt (masks a) s) far ∙ sym (on_high fluent_limit (after_lt (masks b) s') far)
  ]

  alike_self : (m : Masks) → Alike idle m m
  alike_self m = record { need = refl; ban = refl; one = same m.one; two = same m.two }
    where
      same : (c : Clause) → SameClause idle c c
      same c = record { when = refl; unless = refl; put = λ i l e. refl; drop = λ i l e p. refl }

  near_run : (l : List ℕ) (s s' : ℕ) → Near s s' → Near (run masks s l) (run masks s' l)
  unfolding run
  near_run [] s s' n = n
  near_run (a ∷ l) s s' n = near_run l (after (masks a) s) (after (masks a) s') (near_after a a s s' (alike_self (masks a)) n)

  -- an action is possible in both or in neither
  near_possible : (a b s s' : ℕ) → (masks a).need ≡ (masks b).need → (masks a).ban ≡ (masks b).ban → Near s s' → Possible (masks a) s → Possible (masks b) s'
  near_possible a b s s' d e n h = record {
    needed = λ i o. sym (n i (quiet b i (inl (inl o)))) ∙ h.needed i (rw d o);
    banned = λ i o. sym (n i (quiet b i (inl (inr o)))) ∙ h.banned i (rw e o);
  }

  near_able : (actions : ℕ) (rest : List ℕ) (s s' : ℕ) → Near s s' → Able actions masks s rest → Able actions masks s' rest
  near_able actions [] s s' n h = tt
  near_able actions (c ∷ rest) s s' n h = (
    h.0,
    near_possible c c s s' refl refl n h.1,
    near_able actions rest (after (masks c) s) (after (masks c) s') (near_after c c s s' (alike_self (masks c)) n) h.2,
  )

  module _ (a b : ℕ) (alike : Alike idle (masks a) (masks b)) where
    -- a log and the same log with b for one of its a
    near_states : (log rest : List ℕ) (s p : ℕ) → Near (run masks s (take p (log ++ a ∷ rest))) (run masks s (take p (log ++ b ∷ rest)))
    unfolding run
    near_states [] rest s zero = λ i e. refl
    near_states [] rest s (suc p) = near_run (take p rest) (after (masks a) s) (after (masks b) s) (near_after a b s s alike (λ i e. refl))
    near_states (c ∷ log) rest s zero = λ i e. refl
    near_states (c ∷ log) rest s (suc p) = near_states log rest (after (masks c) s) p

    steps : (log rest : List ℕ) (p c : ℕ) → get_elem? (log ++ a ∷ rest) p ≡ some c
        → (get_elem? (log ++ b ∷ rest) p ≡ some c) ⊎ ((c ≡ a) × (get_elem? (log ++ b ∷ rest) p ≡ some b))
    steps [] rest zero c h = inr (cc, refl)
    steps [] rest (suc p) c h = inl h
    steps (d ∷ log) rest zero c h = inl h
    steps (d ∷ log) rest (suc p) c h = steps log rest p c h

alike_turned : (idle : ℕ) (m m' : Masks) → Alike idle m m' → Alike idle m' m
alike_turned idle m m' h = record { need = sym h.need; ban = sym h.ban; one = turned m.one m'.one h.one; two = turned m.two m'.two h.two }
  where
    turned : (c c' : Clause) → SameClause idle c c' → SameClause idle c' c
    turned c c' k = record {
      when = sym k.when;
      unless = sym k.unless;
      put = λ i l e. sym (k.put i l e);
      drop = λ i l e p. sym (k.drop i l e (k.put i l e ∙ p));
    }

-- 0 is for what a mask does not hold
not_among : (b : Bool) → ◌≡◌ {A = ℕ} (cond b 1 0) 0 → b ≡ false
not_among true e = absurd (omega arith)
not_among false e = refl

module _ (w : World) (unnamed idle : ℕ) (quiet : Idle w.masks idle) where
  abbrev With : List ℕ → ℕ → List ℕ → World
  With log a rest = relog w (log ++ a ∷ rest)

  told : (a b : ℕ) → on unnamed a ≡ true → Alike idle (w.masks a) (w.masks b) → (log rest : List ℕ)
      → Told (among unnamed) (among idle) (With log a rest) (With log b rest)
  told a b free alike log rest = record {
    values = refl;
    own = refl;
    inner = refl;
    step = λ c z p q n u h. record {
      onward = h.onward;
      within = h.within;
      logged = elim (steps w.masks idle quiet a b alike log rest p c h.logged) [
        | inl e ↦ e
        | inr e ↦ absurd (off_on (not_among (on unnamed c) z) (rw e.0 free))
      ];
      able = near_possible w.masks idle quiet c c _ _ refl refl (near p) h.able;
    };
    any = λ p q n u h. elim (steps w.masks idle quiet a b alike log rest p h.0 h.1.logged) [
      | inl e ↦ (h.0, taken p q n h.0 h.0 h.1.onward h.1.within e refl refl h.1.able)
      | inr e ↦ (b, taken p q n h.0 b h.1.onward h.1.within e.1 (rw e.0 alike.need) (rw e.0 alike.ban) h.1.able)
    ];
    shown = λ i z t. near t i (not_among (on idle i) z);
  }
    where
      near : (p : ℕ) → Near w.masks idle quiet (state_before (With log a rest) p) (state_before (With log b rest) p)
      near p = near_states w.masks idle quiet a b alike log rest w.start p

      taken : (p q n c d : ℕ) → q ≡ p + 1 → q ≤ n → step_at (With log b rest) p ≡ some d → (w.masks c).need ≡ (w.masks d).need → (w.masks c).ban ≡ (w.masks d).ban
          → Possible (w.masks c) (state_before (With log a rest) p) → Step (With log b rest) d p q n
      taken p q n c d past low e need ban able =
          record { onward = past; within = low; logged = e; able = near_possible w.masks idle quiet c d _ _ need ban (near p) able }

  -- so a walk that names neither leads as far with the one as with the other
  pub stand_in_leads : (x : Walk) → NamesNone unnamed idle x → (a b : ℕ) → StandsIn w.masks unnamed idle a b → (log rest : List ℕ) (p q n : ℕ)
      → Leads (With log b rest) x p q n → Leads (With log a rest) x p q n
  stand_in_leads x none a b h log rest p q n =
      let back = alike_turned idle (w.masks a) (w.masks b) h.alike in
      leads_told (among unnamed) (among idle) (λ n v e. omega arith) (λ n v e. omega arith) (With log b rest) (With log a rest) x none
      (told b a h.spared back log rest) (told a b h.apart h.alike log rest) p q n tt

  -- and every action of the rest is possible where it stands
  pub stand_in_able : (actions a b : ℕ) → StandsIn w.masks unnamed idle a b → (state : ℕ) (rest : List ℕ)
      → Able actions w.masks state (b ∷ rest) → Able actions w.masks state (a ∷ rest)
  stand_in_able actions a b h state rest able =
      let back = alike_turned idle (w.masks a) (w.masks b) h.alike in (
        omega (arith, h.smaller, able.0),
        near_possible w.masks idle quiet b a state state back.need back.ban (λ i e. refl) able.1,
        near_able w.masks idle quiet actions rest (after (w.masks b) state) (after (w.masks a) state)
            (near_after w.masks idle quiet b a state state back (λ i e. refl)) able.2,
      )

-- so the first finishing sequence never has an action with a stand-in
module _ (w : World) (unnamed idle : ℕ) (quiet : Idle w.masks idle) where
  pub first_without : (x : Walk) → NamesNone unnamed idle x → (a b : ℕ) → StandsIn w.masks unnamed idle a b → (more : ℕ) (front rest : List ℕ)
      → First w x more (front ++ b ∷ rest) → ⊥
  first_without x none a b h more front rest f =
      let long : length (front ++ a ∷ rest) ≡ length (front ++ b ∷ rest) = simp length-append in
      let g = f.finishes in
      f.earliest (front ++ a ∷ rest)
      (record {
        short = rw long g.short;
        fits = rw long g.fits;
        able = able-swapped front _ g.able;
        done = rw (long, ← append_assoc) (stand_in_leads (as_job w) unnamed idle quiet x none a b h (w.log ++ front) rest 0 _ _ (rw append_assoc g.done));
      })
      (inr (long, smaller-swapped front))
    where
      able-swapped : (front : List ℕ) (state : ℕ) → Able w.actions w.masks state (front ++ b ∷ rest) → Able w.actions w.masks state (front ++ a ∷ rest)
      able-swapped [] state able = stand_in_able w unnamed idle quiet w.actions a b h state rest able
      able-swapped (c ∷ front) state able = (able.0, able.1, able-swapped front (after (w.masks c) state) able.2)

      smaller-swapped : (front : List ℕ) → Smaller (front ++ a ∷ rest) (front ++ b ∷ rest)
      smaller-swapped [] = inl h.smaller
      smaller-swapped (c ∷ front) = inr (refl, smaller-swapped front)

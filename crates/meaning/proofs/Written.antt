-- Document 02, Q-2: a binder means the choice over all values of the rule with the value written in, for every rule, without a limit; a rule in which a
-- variable does not stand free does not depend on its value; an inner binding hides an outer one. Knows the two tables.
use mathlib.Core.Path.{◌≡◌, refl, ap, ap₂, subst, subst⁻¹, ◌∙◌, fun_ext}
use mathlib.Core.Logic.{◌↔◌, ◌⊎◌, inl, inr}
use mathlib.Core.Bool.{Bool, true, false, not, ◌&&◌, cond, false≢true}
use Prim.Native.Nat.{ℕ, zero, suc, ◌+◌, ◌≤◌, ◌<◌}
use native.Mathlib.Decide.{dec_le}
use native.Mathlib.Omega.{arith}
use Rattle.meaning.specs.Theory.{World, Values, with_value, stands_for, number_of, revalue, bind, inside}
use Rattle.meaning.specs.Rule.{Walk, Test, act, undo, next, prev, seq, alt, star, check, conv, pick, always, fluent, neg, both, diamond, exists}
use Rattle.meaning.specs.Rule.{Variable, var_v, var_w, var_x, var_y, is_variable, Name, plain, plus, has_name, walk_free, test_free, Rule, free_in}
use Rattle.meaning.specs.Refusal.{Unbound}
use Rattle.meaning.specs.Leads.{Leads, Back, Holds, Step, Turned, Then, Or, Many, Here, Pick, On, Not, Both, Some, Exists, own_now}
use Rattle.meaning.specs.Written.{written_name, written, written_test, choice_to, none_to, some_to}
use Rattle.meaning.proofs.Normal.{at_places, at_times}
use Rattle.meaning.proofs.Onward.{neither}
use Rattle.meaning.proofs.Any.{choice_leads}
use Rattle.meaning.proofs.Converse.{back_exchanged}
use Rattle.meaning.proofs.Tells.{Tells}
use Rattle.meaning.proofs.Evaluate.{value_gives}
use Rattle.meaning.proofs.Variables.{variable_itself, value_given, value_over, Apart, one_or_apart}

-- what a name stands for with a value given is what it stands for with the value written in
pub number_written : (s : Values) (v : Variable) (k : ℕ) (a : Name) → number_of (with_value s v k) a ≡ number_of s (written_name v k a)
number_written s v k (plain n) = refl
number_written s v k (plus n u) = go (one_or_apart u v)
  where
    go : ((is_variable u v ≡ true) × (u ≡ v)) ⊎ Apart u v → n + stands_for (with_value s v k) u ≡ number_of s (cond (is_variable u v) (plain (n + k)) (plus n u))
    go (inl (t, e)) = rw t (ap (λ (i : ℕ). n + i) (ap (stands_for (with_value s v k)) e ∙ value_given s v k))
    go (inr h) = rw h.told (ap (λ (i : ℕ). n + i) (h.stays s k))

-- under a binder: of the same variable the value given before is gone, of another the two are given in either order
pub under : {A : Type 0} {B : Type 1} (F : World → A → B) (w : World) (v u : Variable) (k j : ℕ) (x y : A)
    → F (bind (bind w u j) v k) x ≡ F (bind w u j) y → F (bind (bind w v k) u j) x ≡ F (bind w u j) (cond (is_variable u v) x y)
under {A} {B} F w v u k j x y ih = go (one_or_apart u v)
  where
    go : ((is_variable u v ≡ true) × (u ≡ v)) ⊎ Apart u v → F (bind (bind w v k) u j) x ≡ F (bind w u j) (cond (is_variable u v) x y)
    go (inl (t, e)) =
        subst⁻¹ (λ (b : Bool). F (bind (bind w v k) u j) x ≡ F (bind w u j) (cond b x y)) t
        (ap (λ (s : Values). F (revalue w s) x) (subst (λ (i : Variable). with_value (with_value w.values i k) u j ≡ with_value w.values u j) e (value_over w.values u j k)))
    go (inr h) =
        subst⁻¹ (λ (b : Bool). F (bind (bind w v k) u j) x ≡ F (bind w u j) (cond b x y)) h.told
        (ap (λ (s : Values). F (revalue w s) x) (h.commute w.values j k) ∙ ih)

-- one relation, one truth: with the value given, and with it written in
mutual
  unfolding Leads written own_now

  pub leads_written : (w : World) (v : Variable) (k : ℕ) (x : Walk) → Leads (bind w v k) x ≡ Leads w (written v k x)
  leads_written w v k (act a) = ap (Step w) (number_written w.values v k a)
  leads_written w v k (undo a) = ap (λ (i : ℕ). Turned (Step w i)) (number_written w.values v k a)
  leads_written w v k next = refl
  leads_written w v k prev = refl
  leads_written w v k (seq y x) = ap₂ Then (leads_written w v k y) (leads_written w v k x)
  leads_written w v k (alt y x) = ap₂ Or (leads_written w v k y) (leads_written w v k x)
  leads_written w v k (star x) = ap Many (leads_written w v k x)
  leads_written w v k (check t) = ap (Here w) (holds_written w v k t)
  leads_written w v k (conv x) = back_written w v k x
  leads_written w v k (pick u x) =
      ap (Pick w.domain) (fun_ext (λ j. under Leads w v u k j x (written v k x) (leads_written (bind w u j) v k x)))

  pub back_written : (w : World) (v : Variable) (k : ℕ) (x : Walk) → Back (bind w v k) x ≡ Back w (written v k x)
  back_written w v k (act a) = ap (λ (i : ℕ). Turned (Step w i)) (number_written w.values v k a)
  back_written w v k (undo a) = ap (Step w) (number_written w.values v k a)
  back_written w v k next = refl
  back_written w v k prev = refl
  back_written w v k (seq y x) = ap₂ Then (back_written w v k x) (back_written w v k y)
  back_written w v k (alt y x) = ap₂ Or (back_written w v k y) (back_written w v k x)
  back_written w v k (star x) = ap Many (back_written w v k x)
  back_written w v k (check t) = ap (Here w) (holds_written w v k t)
  back_written w v k (conv x) = leads_written w v k x
  back_written w v k (pick u x) =
      ap (Pick w.domain) (fun_ext (λ j. under Back w v u k j x (written v k x) (back_written (bind w u j) v k x)))

  pub holds_written : (w : World) (v : Variable) (k : ℕ) (t : Test) → Holds (bind w v k) t ≡ Holds w (written_test v k t)
  holds_written w v k always = refl
  holds_written w v k (fluent i) = ap (On w) (number_written w.values v k i)
  holds_written w v k (neg t) = ap Not (holds_written w v k t)
  holds_written w v k (both t u) = ap₂ Both (holds_written w v k t) (holds_written w v k u)
  holds_written w v k (diamond x t) = ap₂ Some (leads_written (inside w) v k x) (holds_written w v k t)
  holds_written w v k (exists u t) =
      ap (Exists w.domain) (fun_ext (λ j. under Holds w v u k j t (written_test v k t) (holds_written (bind w u j) v k t)))

-- no test of a choice is true, one by one
none_holds : (w : World) (test : ℕ → Test) (then now k : ℕ) → Holds w (none_to test k) then now ↔ ((a : ℕ) → a ≤ k → Holds w (test a) then now → ⊥)
unfolding Leads
none_holds w test then now k = (onward k, back k)
  where
    onward : (k : ℕ) → Holds w (none_to test k) then now → (a : ℕ) → a ≤ k → Holds w (test a) then now → ⊥
    onward zero h a low = let first : a ≡ 0 = omega arith in subst⁻¹ (λ (i : ℕ). Holds w (test i) then now → ⊥) first h
    onward (suc k) h a low = elim (dec_le a k) [
      | yes less ↦ onward k h.0 a less
      | no high ↦ let last : a ≡ suc k = omega arith in subst⁻¹ (λ (i : ℕ). Holds w (test i) then now → ⊥) last h.1
    ]

    back : (k : ℕ) → ((a : ℕ) → a ≤ k → Holds w (test a) then now → ⊥) → Holds w (none_to test k) then now
    back zero h = h 0 (omega arith)
    back (suc k) h = (back k (λ a low. h a (omega arith)), h (suc k) (omega arith))

-- what a test tells is so where it cannot be otherwise
stable : {b : Bool} {X : Type 0} → Tells b X → ¬ ¬ X → X
stable {b = true} tells twice = tells.0 refl
stable {b = false} tells twice = absurd (twice (λ x. false≢true (tells.1 x)))

-- `pvW` is the choice of W with each value written in, `evT` the choice of T, where there are values 0 to d
module _ (w : World) (v : Variable) (d : ℕ) (values : w.domain ≡ suc d) where
  pub pick_is_choice : (x : Walk) (p q n : ℕ) → Leads w (pick v x) p q n ↔ Leads w (choice_to (λ k. written v k x) d) p q n
  unfolding Leads
  pick_is_choice x p q n =
      let each : (k : ℕ) → Leads (bind w v k) x p q n ↔ Leads w (written v k x) p q n = λ k. at_places (leads_written w v k x) p q n in
      let of = choice_leads w (λ k. written v k x) d p q n in (
        λ h. let low : h.0 < w.domain = h.1 in of.1 (h.0, omega arith, (each h.0).0 h.2),
        λ h. let (k, low, leads) = of.0 h in (k, omega arith, (each k).1 leads),
      )

  pub back_is_choice : (x : Walk) (p q n : ℕ) → Back w (pick v x) p q n ↔ Back w (choice_to (λ k. written v k x) d) p q n
  back_is_choice x p q n =
      let all = choice_to (λ k. written v k x) d in (
        λ h. (back_exchanged w all p q n).1 ((pick_is_choice x q p n).0 ((back_exchanged w (pick v x) p q n).0 h)),
        λ h. (back_exchanged w (pick v x) p q n).1 ((pick_is_choice x q p n).1 ((back_exchanged w all p q n).0 h)),
      )

  pub exists_is_choice : (t : Test) (then now : ℕ) → Holds w (exists v t) then now ↔ Holds w (some_to (λ k. written_test v k t) d) then now
  unfolding Leads
  exists_is_choice t then now =
      let each : (k : ℕ) → Holds (bind w v k) t then now ↔ Holds w (written_test v k t) then now = λ k. at_times (holds_written w v k t) then now in
      let none = none_holds w (λ k. written_test v k t) then now in (
        λ h no. let low : h.0 < w.domain = h.1 in (none d).0 no h.0 (omega arith) ((each h.0).0 h.2),
        λ some. stable (value_gives w (exists v t) then now) (λ no. some ((none d).1 (λ k low h. no (k, omega arith, (each k).1 h)))),
      )

-- A variable that does not stand free: nothing is written in
name_idle : (v : Variable) (k : ℕ) (a : Name) → has_name v a ≡ false → written_name v k a ≡ a
name_idle v k (plain n) e = refl
name_idle v k (plus n u) e = rw e

under_idle : {A : Type 0} (b f : Bool) (x y : A) → (f ≡ false → y ≡ x) → (not b && f) ≡ false → cond b x y ≡ x
under_idle true f x y h e = refl
under_idle false f x y h e = h e

mutual
  unfolding written walk_free

  pub written_idle : (v : Variable) (k : ℕ) (x : Walk) → walk_free v x ≡ false → written v k x ≡ x
  written_idle v k (act a) e = ap act (name_idle v k a e)
  written_idle v k (undo a) e = ap undo (name_idle v k a e)
  written_idle v k next e = refl
  written_idle v k prev e = refl
  written_idle v k (seq y x) e = let f = neither (walk_free v y) (walk_free v x) e in ap₂ seq (written_idle v k y f.0) (written_idle v k x f.1)
  written_idle v k (alt y x) e = let f = neither (walk_free v y) (walk_free v x) e in ap₂ alt (written_idle v k y f.0) (written_idle v k x f.1)
  written_idle v k (star x) e = ap star (written_idle v k x e)
  written_idle v k (check t) e = ap check (test_idle v k t e)
  written_idle v k (conv x) e = ap conv (written_idle v k x e)
  written_idle v k (pick u x) e = ap (pick u) (under_idle (is_variable u v) (walk_free v x) x (written v k x) (written_idle v k x) e)

  pub test_idle : (v : Variable) (k : ℕ) (t : Test) → test_free v t ≡ false → written_test v k t ≡ t
  test_idle v k always e = refl
  test_idle v k (fluent i) e = ap fluent (name_idle v k i e)
  test_idle v k (neg t) e = ap neg (test_idle v k t e)
  test_idle v k (both t u) e = let f = neither (test_free v t) (test_free v u) e in ap₂ both (test_idle v k t f.0) (test_idle v k u f.1)
  test_idle v k (diamond x t) e = let f = neither (walk_free v x) (test_free v t) e in ap₂ diamond (written_idle v k x f.0) (test_idle v k t f.1)
  test_idle v k (exists u t) e = ap (exists u) (under_idle (is_variable u v) (test_free v t) t (written_test v k t) (test_idle v k t) e)

-- and its value does not matter
module _ (w : World) (v : Variable) (k : ℕ) where
  pub leads_idle : (x : Walk) → walk_free v x ≡ false → Leads (bind w v k) x ≡ Leads w x
  leads_idle x e = leads_written w v k x ∙ ap (Leads w) (written_idle v k x e)

  pub back_idle : (x : Walk) → walk_free v x ≡ false → Back (bind w v k) x ≡ Back w x
  back_idle x e = back_written w v k x ∙ ap (Back w) (written_idle v k x e)

  pub holds_idle : (t : Test) → test_free v t ≡ false → Holds (bind w v k) t ≡ Holds w t
  holds_idle t e = holds_written w v k t ∙ ap (Holds w) (test_idle v k t e)

  -- "An inner binding hides an outer one of the same name."
  pub pick_hides : (x : Walk) → Leads (bind w v k) (pick v x) ≡ Leads w (pick v x)
  unfolding walk_free
  pick_hides x = leads_idle (pick v x) (rw variable_itself)

  pub exists_hides : (t : Test) → Holds (bind w v k) (exists v t) ≡ Holds w (exists v t)
  unfolding test_free
  exists_hides t = holds_idle (exists v t) (rw variable_itself)

-- so a binder of such a variable may be left out
module _ (w : World) (v : Variable) (some : 0 < w.domain) where
  pub pick_idle : (x : Walk) → walk_free v x ≡ false → (p q n : ℕ) → Leads w (pick v x) p q n ↔ Leads w x p q n
  unfolding Leads
  pick_idle x e p q n = (λ h. (at_places (leads_idle w v h.0 x e) p q n).0 h.2, λ h. (0, some, (at_places (leads_idle w v 0 x e) p q n).1 h))

  pub pick_back_idle : (x : Walk) → walk_free v x ≡ false → (p q n : ℕ) → Back w (pick v x) p q n ↔ Back w x p q n
  unfolding Leads
  pick_back_idle x e p q n = (λ h. (at_places (back_idle w v h.0 x e) p q n).0 h.2, λ h. (0, some, (at_places (back_idle w v 0 x e) p q n).1 h))

  pub exists_idle : (t : Test) → test_free v t ≡ false → (then now : ℕ) → Holds w (exists v t) then now ↔ Holds w t then now
  unfolding Leads
  exists_idle t e then now =
      (λ h. (at_times (holds_idle w v h.0 t e) then now).0 h.2, λ h. (0, some, (at_times (holds_idle w v 0 t e) then now).1 h))

-- What 13 leaves: no variable stands free.
pub none_free : (r : Rule) → (Unbound r → ⊥) → (v : Variable) → free_in v r ≡ false
none_free r bound v = go (free_in v r) refl
  where
    go : (b : Bool) → free_in v r ≡ b → free_in v r ≡ false
    go true e = absurd (bound (record { variable = v; free = e }))
    go false e = e

-- A rule in which no variable stands free does not depend on the values.
module _ (w : World) (s : Values) where
  pub leads_closed : (x : Walk) → ((v : Variable) → walk_free v x ≡ false) → Leads (revalue w s) x ≡ Leads w x
  leads_closed x e =
      let one = bind w var_v s.of_v in
      let two = bind one var_w s.of_w in
      let three = bind two var_x s.of_x in
      leads_idle three var_y s.of_y x (e var_y) ∙ leads_idle two var_x s.of_x x (e var_x) ∙ leads_idle one var_w s.of_w x (e var_w) ∙ leads_idle w var_v s.of_v x (e var_v)

  pub holds_closed : (t : Test) → ((v : Variable) → test_free v t ≡ false) → Holds (revalue w s) t ≡ Holds w t
  holds_closed t e =
      let one = bind w var_v s.of_v in
      let two = bind one var_w s.of_w in
      let three = bind two var_x s.of_x in
      holds_idle three var_y s.of_y t (e var_y) ∙ holds_idle two var_x s.of_x t (e var_x) ∙ holds_idle one var_w s.of_w t (e var_w) ∙ holds_idle w var_v s.of_v t (e var_v)

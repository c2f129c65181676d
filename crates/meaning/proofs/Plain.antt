-- Rules with no sign of variables: each means the same whatever the domain and the values, as it does on a sheet that has neither; and a rule in which no
-- variable stands free, written out, is one. Knows the two tables.
use mathlib.Core.Path.{◌≡◌, refl, sym, ap, ap₂, subst⁻¹, ◌∙◌}
use mathlib.Core.Logic.{◌⊎◌, inl, inr}
use mathlib.Core.Bool.{Bool, true, false, not, ◌&&◌, ◌||◌, cond, true≢false}
use Prim.Native.Nat.{ℕ, zero, suc, ◌+◌}
use Rattle.meaning.specs.Theory.{World, Values, inside, varying}
use Rattle.meaning.specs.Rule.{Walk, Test, plain, plus, act, undo, next, prev, seq, alt, star, check, conv, pick, always, fluent, neg, both, diamond, exists}
use Rattle.meaning.specs.Rule.{Variable, is_variable, Name, has_name, is_sum, walk_free, test_free, walk_varies, test_varies}
use Rattle.meaning.specs.Leads.{Leads, Back, Holds, Then, Or, Many, Here, Not, Both, Some, own_now}
use Rattle.meaning.specs.Written.{written_name, written, written_test, choice_to, none_to, spelled_out, test_out}
use Rattle.meaning.proofs.Onward.{neither}
use Rattle.meaning.proofs.Variables.{variable_itself, one_or_apart}

-- whatever the domain and the values
mutual
  unfolding Leads walk_varies own_now

  pub leads_plain : (w : World) (d : ℕ) (s : Values) (x : Walk) → walk_varies x ≡ false → Leads (varying w d s) x ≡ Leads w x
  leads_plain w d s (act (plain a)) e = refl
  leads_plain w d s (act (plus a v)) e = absurd (true≢false e)
  leads_plain w d s (undo (plain a)) e = refl
  leads_plain w d s (undo (plus a v)) e = absurd (true≢false e)
  leads_plain w d s next e = refl
  leads_plain w d s prev e = refl
  leads_plain w d s (seq v x) e = let f = neither (walk_varies v) (walk_varies x) e in ap₂ Then (leads_plain w d s v f.0) (leads_plain w d s x f.1)
  leads_plain w d s (alt v x) e = let f = neither (walk_varies v) (walk_varies x) e in ap₂ Or (leads_plain w d s v f.0) (leads_plain w d s x f.1)
  leads_plain w d s (star x) e = ap Many (leads_plain w d s x e)
  leads_plain w d s (check t) e = ap (Here w) (holds_plain w d s t e)
  leads_plain w d s (conv x) e = back_plain w d s x e
  leads_plain w d s (pick v x) e = absurd (true≢false e)

  pub back_plain : (w : World) (d : ℕ) (s : Values) (x : Walk) → walk_varies x ≡ false → Back (varying w d s) x ≡ Back w x
  back_plain w d s (act (plain a)) e = refl
  back_plain w d s (act (plus a v)) e = absurd (true≢false e)
  back_plain w d s (undo (plain a)) e = refl
  back_plain w d s (undo (plus a v)) e = absurd (true≢false e)
  back_plain w d s next e = refl
  back_plain w d s prev e = refl
  back_plain w d s (seq v x) e = let f = neither (walk_varies v) (walk_varies x) e in ap₂ Then (back_plain w d s x f.1) (back_plain w d s v f.0)
  back_plain w d s (alt v x) e = let f = neither (walk_varies v) (walk_varies x) e in ap₂ Or (back_plain w d s v f.0) (back_plain w d s x f.1)
  back_plain w d s (star x) e = ap Many (back_plain w d s x e)
  back_plain w d s (check t) e = ap (Here w) (holds_plain w d s t e)
  back_plain w d s (conv x) e = leads_plain w d s x e
  back_plain w d s (pick v x) e = absurd (true≢false e)

  pub holds_plain : (w : World) (d : ℕ) (s : Values) (t : Test) → test_varies t ≡ false → Holds (varying w d s) t ≡ Holds w t
  holds_plain w d s always e = refl
  holds_plain w d s (fluent (plain i)) e = refl
  holds_plain w d s (fluent (plus i v)) e = absurd (true≢false e)
  holds_plain w d s (neg t) e = ap Not (holds_plain w d s t e)
  holds_plain w d s (both t u) e = let f = neither (test_varies t) (test_varies u) e in ap₂ Both (holds_plain w d s t f.0) (holds_plain w d s u f.1)
  holds_plain w d s (diamond x t) e = let f = neither (walk_varies x) (test_varies t) e in ap₂ Some (leads_plain (inside w) d s x f.0) (holds_plain w d s t f.1)
  holds_plain w d s (exists v t) e = absurd (true≢false e)

-- Written out, a rule in which no variable stands free has no sign of variables left: it is one of document 01's.

-- no binder, and only such variables
abbrev OnlyName : (Variable → Type 0) → Name → Type 0
OnlyName F (plain n) = Unit {0}
OnlyName F (plus n u) = F u

mutual
  Only : (Variable → Type 0) → Walk → Type 0
  Only F (act a) = OnlyName F a
  Only F (undo a) = OnlyName F a
  Only F next = Unit {0}
  Only F prev = Unit {0}
  Only F (seq v w) = Only F v × Only F w
  Only F (alt v w) = Only F v × Only F w
  Only F (star w) = Only F w
  Only F (check t) = OnlyTest F t
  Only F (conv w) = Only F w
  Only F (pick v w) = ⊥

  OnlyTest : (Variable → Type 0) → Test → Type 0
  OnlyTest F always = Unit {0}
  OnlyTest F (fluent i) = OnlyName F i
  OnlyTest F (neg t) = OnlyTest F t
  OnlyTest F (both t u) = OnlyTest F t × OnlyTest F u
  OnlyTest F (diamond w t) = Only F w × OnlyTest F t
  OnlyTest F (exists v t) = ⊥

-- a value written in takes one variable away
name_only : (F : Variable → Type 0) (v : Variable) (k : ℕ) (a : Name) → OnlyName (λ u. (u ≡ v) ⊎ F u) a → OnlyName F (written_name v k a)
name_only F v k (plain n) h = tt
name_only F v k (plus n u) (inl e) = subst⁻¹ (λ (i : Variable). OnlyName F (written_name v k (plus n i))) e (subst⁻¹ (λ (b : Bool). OnlyName F (cond b (plain (n + k)) (plus n v))) (variable_itself v) tt)
name_only F v k (plus n u) (inr h) = go (is_variable u v)
  where
    go : (b : Bool) → OnlyName F (cond b (plain (n + k)) (plus n u))
    go true = tt
    go false = h

mutual
  unfolding Only written

  written_only : (F : Variable → Type 0) (v : Variable) (k : ℕ) (x : Walk) → Only (λ u. (u ≡ v) ⊎ F u) x → Only F (written v k x)
  written_only F v k (act a) h = name_only F v k a h
  written_only F v k (undo a) h = name_only F v k a h
  written_only F v k next h = tt
  written_only F v k prev h = tt
  written_only F v k (seq y x) h = (written_only F v k y h.0, written_only F v k x h.1)
  written_only F v k (alt y x) h = (written_only F v k y h.0, written_only F v k x h.1)
  written_only F v k (star x) h = written_only F v k x h
  written_only F v k (check t) h = test_only F v k t h
  written_only F v k (conv x) h = written_only F v k x h
  written_only F v k (pick u x) h = absurd h

  test_only : (F : Variable → Type 0) (v : Variable) (k : ℕ) (t : Test) → OnlyTest (λ u. (u ≡ v) ⊎ F u) t → OnlyTest F (written_test v k t)
  test_only F v k always h = tt
  test_only F v k (fluent i) h = name_only F v k i h
  test_only F v k (neg t) h = test_only F v k t h
  test_only F v k (both t u) h = (test_only F v k t h.0, test_only F v k u h.1)
  test_only F v k (diamond x t) h = (written_only F v k x h.0, test_only F v k t h.1)
  test_only F v k (exists u t) h = absurd h

choice_only : (F : Variable → Type 0) (walk : ℕ → Walk) → ((k : ℕ) → Only F (walk k)) → (d : ℕ) → Only F (choice_to walk d)
unfolding Only
choice_only F walk each zero = each 0
choice_only F walk each (suc d) = (choice_only F walk each d, each (suc d))

none_only : (F : Variable → Type 0) (test : ℕ → Test) → ((k : ℕ) → OnlyTest F (test k)) → (d : ℕ) → OnlyTest F (none_to test d)
unfolding Only
none_only F test each zero = each 0
none_only F test each (suc d) = (none_only F test each d, each (suc d))

-- what stands free in a part stands free above it, but under its binder
free_name : {F : Variable → Type 0} (a : Name) → ((u : Variable) → has_name u a ≡ true → F u) → OnlyName F a
free_name (plain n) h = tt
free_name (plus n v) h = h v (variable_itself v)

or_left : (a b : Bool) → a ≡ true → (a || b) ≡ true
or_left a b e = rw e

or_right : (a b : Bool) → b ≡ true → (a || b) ≡ true
or_right true b e = refl
or_right false b e = e

under_binder : {F : Variable → Type 0} (v : Variable) (free : Variable → Bool) → ((u : Variable) → (not (is_variable v u) && free u) ≡ true → F u)
    → (u : Variable) → free u ≡ true → (u ≡ v) ⊎ F u
under_binder {F} v free h u e = elim (one_or_apart v u) [
  | inl one ↦ inl (sym one.1)
  | inr apart ↦ inr (h u (subst⁻¹ (λ (b : Bool). (not b && free u) ≡ true) apart.told e))
]

mutual
  unfolding Only spelled_out walk_free

  out_only : (d : ℕ) (F : Variable → Type 0) (x : Walk) → ((u : Variable) → walk_free u x ≡ true → F u) → Only F (spelled_out d x)
  out_only d F (act a) h = free_name a h
  out_only d F (undo a) h = free_name a h
  out_only d F next h = tt
  out_only d F prev h = tt
  out_only d F (seq v x) h = (out_only d F v (λ u e. h u (or_left _ _ e)), out_only d F x (λ u e. h u (or_right (walk_free u v) _ e)))
  out_only d F (alt v x) h = (out_only d F v (λ u e. h u (or_left _ _ e)), out_only d F x (λ u e. h u (or_right (walk_free u v) _ e)))
  out_only d F (star x) h = out_only d F x h
  out_only d F (check t) h = test_out_only d F t h
  out_only d F (conv x) h = out_only d F x h
  out_only d F (pick v x) h =
      let part = out_only d (λ u. (u ≡ v) ⊎ F u) x (under_binder v (λ u. walk_free u x) h) in
      choice_only F (λ k. written v k (spelled_out d x)) (λ k. written_only F v k (spelled_out d x) part) d

  test_out_only : (d : ℕ) (F : Variable → Type 0) (t : Test) → ((u : Variable) → test_free u t ≡ true → F u) → OnlyTest F (test_out d t)
  test_out_only d F always h = tt
  test_out_only d F (fluent i) h = free_name i h
  test_out_only d F (neg t) h = test_out_only d F t h
  test_out_only d F (both t y) h = (test_out_only d F t (λ u e. h u (or_left _ _ e)), test_out_only d F y (λ u e. h u (or_right (test_free u t) _ e)))
  test_out_only d F (diamond x t) h = (out_only d F x (λ u e. h u (or_left _ _ e)), test_out_only d F t (λ u e. h u (or_right (walk_free u x) _ e)))
  test_out_only d F (exists v t) h =
      let part = test_out_only d (λ u. (u ≡ v) ⊎ F u) t (under_binder v (λ u. test_free u t) h) in
      none_only F (λ k. written_test v k (test_out d t)) (λ k. test_only F v k (test_out d t) part) d

-- with no variable there is no sign of one
name_plain : (a : Name) → OnlyName (λ u. ⊥) a → is_sum a ≡ false
name_plain (plain n) h = refl
name_plain (plus n v) h = absurd h

mutual
  unfolding Only walk_varies

  only_plain : (x : Walk) → Only (λ u. ⊥) x → walk_varies x ≡ false
  only_plain (act a) h = name_plain a h
  only_plain (undo a) h = name_plain a h
  only_plain next h = refl
  only_plain prev h = refl
  only_plain (seq v x) h = ap₂ ◌||◌ (only_plain v h.0) (only_plain x h.1)
  only_plain (alt v x) h = ap₂ ◌||◌ (only_plain v h.0) (only_plain x h.1)
  only_plain (star x) h = only_plain x h
  only_plain (check t) h = only_plain_test t h
  only_plain (conv x) h = only_plain x h
  only_plain (pick v x) h = absurd h

  only_plain_test : (t : Test) → OnlyTest (λ u. ⊥) t → test_varies t ≡ false
  only_plain_test always h = refl
  only_plain_test (fluent i) h = name_plain i h
  only_plain_test (neg t) h = only_plain_test t h
  only_plain_test (both t u) h = ap₂ ◌||◌ (only_plain_test t h.0) (only_plain_test u h.1)
  only_plain_test (diamond x t) h = ap₂ ◌||◌ (only_plain x h.0) (only_plain_test t h.1)
  only_plain_test (exists v t) h = absurd h

pub walk_out_plain : (d : ℕ) (x : Walk) → ((v : Variable) → walk_free v x ≡ false) → walk_varies (spelled_out d x) ≡ false
walk_out_plain d x none = only_plain (spelled_out d x) (out_only d (λ u. ⊥) x (λ u e. true≢false (sym e ∙ none u)))

pub test_out_plain : (d : ℕ) (t : Test) → ((v : Variable) → test_free v t ≡ false) → test_varies (test_out d t) ≡ false
test_out_plain d t none = only_plain_test (test_out d t) (test_out_only d (λ u. ⊥) t (λ u e. true≢false (sym e ∙ none u)))

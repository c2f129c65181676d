-- What the normal form does to the text of a rule: no `-` is left, each that was there is one byte less, the names are the same, it is no deeper, the signs
-- under no `-` stay, a second rewriting changes nothing, a job stays a job, and the same variables stand free. Knows the definitions of document 01 alone, nothing of the rewriter.
use mathlib.Core.Path.{◌≡◌, refl, sym, ap, ap₂, subst⁻¹, ◌∙◌}
use mathlib.Core.Bool.{Bool, true, false, not, ◌&&◌, ◌||◌, or_comm, false≢true}
use mathlib.Core.List.{List, ◌∷◌, ◌++◌}
use Prim.Native.Nat.{ℕ, suc, ◌+◌, ◌≤◌, max}
use native.Mathlib.Omega.{arith}
use lib.ListN.{length, length-append}
use Rattle.meaning.specs.Rule.{Walk, Test, Rule, Kind, Name, plain, plus, act, undo, next, prev, seq, alt, star, check, conv, pick, always, fluent, neg, both, diamond, exists}
use Rattle.meaning.specs.Rule.{of_test, of_walk, test_kind, walk_kind, job_kind, Fits, text, depth, names_in, up_to, other, as_written, backward, backward_in, Opens}
use Rattle.meaning.specs.Rule.{walk_text, walk_depth, walk_names, Variable, is_variable, walk_free, test_free, walk_varies, test_varies, free_in, varies_in}
use Rattle.meaning.specs.Normal.{normal, turned, normal_test, normal_rule, walk_signs, test_signs, signs_in, WalkKept, TestKept}
use Rattle.meaning.specs.Normal.{act_kept, undo_kept, next_kept, prev_kept, seq_kept, alt_kept, star_kept, check_kept, under_conv, pick_kept}
use Rattle.meaning.specs.Normal.{always_kept, fluent_kept, neg_kept, both_kept, diamond_kept, exists_kept}

-- a rule's `-` signs, text, depth and names, and those of its normal form
pub record Rewritten (signs : ℕ) (text : List ℕ) (depth names signs' : ℕ) (text' : List ℕ) (depth' names' : ℕ) : Type 0 where
  pub bare : signs' ≡ 0
  pub shorter : length text' + signs ≡ length text
  pub shallow : depth' ≤ depth
  pub named : names' ≡ names

abbrev pub Figures : (Name → ℕ) → (Name → ℕ) → Rule → Rule → Type 0
Figures f g r r' = Rewritten (signs_in r) (text r) (depth r) (names_in f g r) (signs_in r') (text r') (depth r') (names_in f g r')

-- a sign above one part, one that binds a variable, a `-` taken away, and a sign above two parts, in their order or exchanged
module _ {b s d k s' d' k' : ℕ} {x x' : List ℕ} (h : Rewritten s x d k s' x' d' k') where
  one : Rewritten s (b ∷ x) (suc d) k s' (b ∷ x') (suc d') k'
  one = omega arith

  bound : {c : ℕ} → Rewritten s (b ∷ c ∷ x) (suc d) k s' (b ∷ c ∷ x') (suc d') k'
  bound = omega arith

  gone : Rewritten (suc s) (b ∷ x) (suc d) k s' x' d' k'
  gone = omega arith

  module _ {t e m t' e' m' : ℕ} {y y' : List ℕ} (i : Rewritten t y e m t' y' e' m') where
    two : Rewritten (s + t) (b ∷ x ++ y) (suc (max d e)) (max k m) (s' + t') (b ∷ x' ++ y') (suc (max d' e')) (max k' m')
    two = omega (arith, length-append x y, length-append x' y')

    exchanged : Rewritten (s + t) (b ∷ x ++ y) (suc (max d e)) (max k m) (t' + s') (b ∷ y' ++ x') (suc (max e' d')) (max m' k')
    exchanged = omega (arith, length-append x y, length-append y' x')

mutual
  unfolding normal walk_signs walk_text walk_depth walk_names

  pub normal_figures : (f g : Name → ℕ) (x : Walk) → Figures f g (of_walk x) (of_walk (normal x))
  normal_figures f g (act a) = omega arith
  normal_figures f g (undo a) = omega arith
  normal_figures f g next = omega arith
  normal_figures f g prev = omega arith
  normal_figures f g (seq v w) = two (normal_figures f g v) (normal_figures f g w)
  normal_figures f g (alt v w) = two (normal_figures f g v) (normal_figures f g w)
  normal_figures f g (star w) = one (normal_figures f g w)
  normal_figures f g (check t) = one (test_figures f g t)
  normal_figures f g (conv w) = gone (turned_figures f g w)
  normal_figures f g (pick v w) = bound (normal_figures f g w)

  pub turned_figures : (f g : Name → ℕ) (x : Walk) → Figures f g (of_walk x) (of_walk (turned x))
  turned_figures f g (act (plain a)) = omega arith
  turned_figures f g (act (plus a v)) = omega arith
  turned_figures f g (undo (plain a)) = omega arith
  turned_figures f g (undo (plus a v)) = omega arith
  turned_figures f g next = omega arith
  turned_figures f g prev = omega arith
  turned_figures f g (seq v w) = exchanged (turned_figures f g v) (turned_figures f g w)
  turned_figures f g (alt v w) = two (turned_figures f g v) (turned_figures f g w)
  turned_figures f g (star w) = one (turned_figures f g w)
  turned_figures f g (check t) = one (test_figures f g t)
  turned_figures f g (conv w) = gone (normal_figures f g w)
  turned_figures f g (pick v w) = bound (turned_figures f g w)

  pub test_figures : (f g : Name → ℕ) (t : Test) → Figures f g (of_test t) (of_test (normal_test t))
  test_figures f g always = omega arith
  test_figures f g (fluent i) = omega arith
  test_figures f g (neg t) = one (test_figures f g t)
  test_figures f g (both t u) = two (test_figures f g t) (test_figures f g u)
  test_figures f g (diamond w t) = two (normal_figures f g w) (test_figures f g t)
  test_figures f g (exists v t) = bound (test_figures f g t)

-- "Signs under no `-` stay as they are."
mutual
  unfolding normal

  pub normal_kept : (x : Walk) → WalkKept x (normal x)
  normal_kept (act a) = act_kept a
  normal_kept (undo a) = undo_kept a
  normal_kept next = next_kept
  normal_kept prev = prev_kept
  normal_kept (seq v w) = seq_kept (normal_kept v) (normal_kept w)
  normal_kept (alt v w) = alt_kept (normal_kept v) (normal_kept w)
  normal_kept (star w) = star_kept (normal_kept w)
  normal_kept (check t) = check_kept (test_kept t)
  normal_kept (conv w) = under_conv w (turned w)
  normal_kept (pick v w) = pick_kept v (normal_kept w)

  pub test_kept : (t : Test) → TestKept t (normal_test t)
  test_kept always = always_kept
  test_kept (fluent i) = fluent_kept i
  test_kept (neg t) = neg_kept (test_kept t)
  test_kept (both t u) = both_kept (test_kept t) (test_kept u)
  test_kept (diamond w t) = diamond_kept (normal_kept w) (test_kept t)
  test_kept (exists v t) = exists_kept v (test_kept t)

-- where no `-` stands, all signs stay
mutual
  unfolding walk_signs

  pub same_walk : {x y : Walk} → WalkKept x y → walk_signs x ≡ 0 → y ≡ x
  same_walk (act_kept a) e = refl
  same_walk (undo_kept a) e = refl
  same_walk next_kept e = refl
  same_walk prev_kept e = refl
  same_walk (seq_kept h i) e = ap₂ seq (same_walk h (omega arith)) (same_walk i (omega arith))
  same_walk (alt_kept h i) e = ap₂ alt (same_walk h (omega arith)) (same_walk i (omega arith))
  same_walk (star_kept h) e = ap star (same_walk h e)
  same_walk (check_kept h) e = ap check (same_test h e)
  same_walk (under_conv w w') e = absurd (omega arith)
  same_walk (pick_kept v h) e = ap (pick v) (same_walk h e)

  pub same_test : {t u : Test} → TestKept t u → test_signs t ≡ 0 → u ≡ t
  same_test always_kept e = refl
  same_test (fluent_kept i) e = refl
  same_test (neg_kept h) e = ap neg (same_test h e)
  same_test (both_kept h i) e = ap₂ both (same_test h (omega arith)) (same_test i (omega arith))
  same_test (diamond_kept h i) e = ap₂ diamond (same_walk h (omega arith)) (same_test i (omega arith))
  same_test (exists_kept v h) e = ap (exists v) (same_test h e)

-- so a second rewriting changes nothing
pub normal_same : (x : Walk) → walk_signs x ≡ 0 → normal x ≡ x
normal_same x = same_walk (normal_kept x)

pub normal_twice : (x : Walk) → normal (normal x) ≡ normal x
normal_twice x = normal_same (normal x) (normal_figures other other x).bare

pub test_same : (t : Test) → test_signs t ≡ 0 → normal_test t ≡ t
test_same t = same_test (test_kept t)

pub test_twice : (t : Test) → normal_test (normal_test t) ≡ normal_test t
test_twice t = test_same (normal_test t) (test_figures other other t).bare

-- a walk with no backward sign outside every `<` has none in its normal form
no_two : {a b c d : Bool} → (a ≡ false → c ≡ false) → (b ≡ false → d ≡ false) → (a || b) ≡ false → (c || d) ≡ false
no_two {a = false} f g e = ap₂ ◌||◌ (f refl) (g e)
no_two {a = true} f g e = absurd (false≢true (sym e))

pub normal_job : (x : Walk) → backward x ≡ false → backward (normal x) ≡ false
unfolding normal backward
normal_job (act a) = λ e. e
normal_job (undo a) = λ e. e
normal_job next = λ e. e
normal_job prev = λ e. e
normal_job (seq v w) = no_two (normal_job v) (normal_job w)
normal_job (alt v w) = no_two (normal_job v) (normal_job w)
normal_job (star w) = normal_job w
normal_job (check t) = λ e. e
normal_job (conv w) = λ e. absurd (false≢true (sym e))
normal_job (pick v w) = normal_job w

-- Which variables stand free, and whether a sign of variables stands anywhere, stays.
abbrev SameVariables : (Variable → Bool) → Bool → (Variable → Bool) → Bool → Type 0
SameVariables free varies free' varies' = ((v : Variable) → free' v ≡ free v) × (varies' ≡ varies)

module _ {f f' : Variable → Bool} {b b' : Bool} (h : SameVariables f b f' b') where
  bound_same : (u : Variable) → SameVariables (λ v. not (is_variable u v) && f v) true (λ v. not (is_variable u v) && f' v) true
  bound_same u = (λ v. ap (λ (x : Bool). not (is_variable u v) && x) (h.0 v), refl)

  module _ {g g' : Variable → Bool} {c c' : Bool} (i : SameVariables g c g' c') where
    two_same : SameVariables (λ v. f v || g v) (b || c) (λ v. f' v || g' v) (b' || c')
    two_same = (λ v. ap₂ ◌||◌ (h.0 v) (i.0 v), ap₂ ◌||◌ h.1 i.1)

    exchanged_same : SameVariables (λ v. f v || g v) (b || c) (λ v. g' v || f' v) (c' || b')
    exchanged_same = (λ v. ap₂ ◌||◌ (i.0 v) (h.0 v) ∙ or_comm (g v) (f v), ap₂ ◌||◌ i.1 h.1 ∙ or_comm c b)

mutual
  unfolding normal walk_free walk_varies

  normal_variables : (x : Walk) → SameVariables (λ v. walk_free v x) (walk_varies x) (λ v. walk_free v (normal x)) (walk_varies (normal x))
  normal_variables (act a) = (λ v. refl, refl)
  normal_variables (undo a) = (λ v. refl, refl)
  normal_variables next = (λ v. refl, refl)
  normal_variables prev = (λ v. refl, refl)
  normal_variables (seq y w) = two_same (normal_variables y) (normal_variables w)
  normal_variables (alt y w) = two_same (normal_variables y) (normal_variables w)
  normal_variables (star w) = normal_variables w
  normal_variables (check t) = test_variables t
  normal_variables (conv w) = turned_variables w
  normal_variables (pick u w) = bound_same (normal_variables w) u

  turned_variables : (x : Walk) → SameVariables (λ v. walk_free v x) (walk_varies x) (λ v. walk_free v (turned x)) (walk_varies (turned x))
  turned_variables (act a) = (λ v. refl, refl)
  turned_variables (undo a) = (λ v. refl, refl)
  turned_variables next = (λ v. refl, refl)
  turned_variables prev = (λ v. refl, refl)
  turned_variables (seq y w) = exchanged_same (turned_variables y) (turned_variables w)
  turned_variables (alt y w) = two_same (turned_variables y) (turned_variables w)
  turned_variables (star w) = turned_variables w
  turned_variables (check t) = test_variables t
  turned_variables (conv w) = normal_variables w
  turned_variables (pick u w) = bound_same (turned_variables w) u

  test_variables : (t : Test) → SameVariables (λ v. test_free v t) (test_varies t) (λ v. test_free v (normal_test t)) (test_varies (normal_test t))
  test_variables always = (λ v. refl, refl)
  test_variables (fluent i) = (λ v. refl, refl)
  test_variables (neg t) = test_variables t
  test_variables (both t u) = two_same (test_variables t) (test_variables u)
  test_variables (diamond w t) = two_same (normal_variables w) (test_variables t)
  test_variables (exists u t) = bound_same (test_variables t) u

-- The same of a rule

pub rule_figures : (f g : Name → ℕ) (r : Rule) → Figures f g r (normal_rule r)
rule_figures f g (of_test t) = test_figures f g t
rule_figures f g (of_walk x) = normal_figures f g x

pub rule_same : (r : Rule) → signs_in r ≡ 0 → normal_rule r ≡ r
rule_same (of_test t) e = ap of_test (test_same t e)
rule_same (of_walk x) e = ap of_walk (normal_same x e)

pub rule_twice : (r : Rule) → normal_rule (normal_rule r) ≡ normal_rule r
rule_twice r = rule_same (normal_rule r) (rule_figures other other r).bare

pub rule_job : (r : Rule) → backward_in r ≡ false → backward_in (normal_rule r) ≡ false
rule_job (of_test t) e = e
rule_job (of_walk x) e = normal_job x e

pub rule_free : (v : Variable) (r : Rule) → free_in v (normal_rule r) ≡ free_in v r
rule_free v (of_test t) = (test_variables t).0 v
rule_free v (of_walk x) = (normal_variables x).0 v

pub rule_varies : (r : Rule) → varies_in (normal_rule r) ≡ varies_in r
rule_varies (of_test t) = (test_variables t).1
rule_varies (of_walk x) = (normal_variables x).1

pub rule_fits : (kind : Kind) (r : Rule) → Fits kind (normal_rule r) ≡ Fits kind r
rule_fits test_kind (of_test t) = refl
rule_fits test_kind (of_walk x) = refl
rule_fits walk_kind (of_test t) = refl
rule_fits walk_kind (of_walk x) = refl
rule_fits job_kind (of_test t) = refl
rule_fits job_kind (of_walk x) = refl

-- the normal form of a rule that can be read can be read, as the same kind, whatever follows it
pub rule_opens : {kind : Kind} {bytes rest : List ℕ} {r : Rule}
    → Opens kind bytes r rest
    → (more : List ℕ)
    → Opens kind (text (normal_rule r) ++ more) (normal_rule r) more
rule_opens {kind} {r = r} h more = record {
  fits = subst⁻¹ (λ (A : Type 0). A) (rule_fits kind r) h.fits;
  spells = refl;
  short_actions = rw (rule_figures (up_to as_written) other r).named h.short_actions;
  short_fluents = rw (rule_figures other (up_to as_written) r).named h.short_fluents;
}

-- The normal form has the same variables: those that stand free, and whether there are any. Opens the normal form; no code.
use mathlib.Core.Path.{◌≡◌, refl, ap, ap₂, ◌∙◌}
use mathlib.Core.Bool.{Bool, not, ◌&&◌, ◌||◌, or_comm}
use Rattle.meaning.specs.Rule.{Walk, Test, Rule, Variable, of_test, of_walk, act, undo, next, prev, seq, alt, star, check, conv, pick, always, fluent, neg, both, diamond, exists}
use Rattle.meaning.specs.Rule.{is_variable, walk_free, test_free, walk_varies, test_varies, free_in, varies_in}
use Rattle.meaning.specs.Normal.{normal, turned, normal_test, normal_rule}

-- two parts exchanged
exchanged : {a b c d : Bool} → a ≡ c → b ≡ d → (b || a) ≡ (c || d)
exchanged {a} {b} e f = or_comm b a ∙ ap₂ ◌||◌ e f

mutual
  unfolding normal walk_free

  normal_free : (u : Variable) (x : Walk) → walk_free u (normal x) ≡ walk_free u x
  normal_free u (act a) = refl
  normal_free u (undo a) = refl
  normal_free u next = refl
  normal_free u prev = refl
  normal_free u (seq v w) = ap₂ ◌||◌ (normal_free u v) (normal_free u w)
  normal_free u (alt v w) = ap₂ ◌||◌ (normal_free u v) (normal_free u w)
  normal_free u (star w) = normal_free u w
  normal_free u (check t) = test_free_law u t
  normal_free u (conv w) = turned_free u w
  normal_free u (pick v w) = ap (λ (b : Bool). not (is_variable v u) && b) (normal_free u w)

  turned_free : (u : Variable) (x : Walk) → walk_free u (turned x) ≡ walk_free u x
  turned_free u (act a) = refl
  turned_free u (undo a) = refl
  turned_free u next = refl
  turned_free u prev = refl
  turned_free u (seq v w) = exchanged (turned_free u v) (turned_free u w)
  turned_free u (alt v w) = ap₂ ◌||◌ (turned_free u v) (turned_free u w)
  turned_free u (star w) = turned_free u w
  turned_free u (check t) = test_free_law u t
  turned_free u (conv w) = normal_free u w
  turned_free u (pick v w) = ap (λ (b : Bool). not (is_variable v u) && b) (turned_free u w)

  test_free_law : (u : Variable) (t : Test) → test_free u (normal_test t) ≡ test_free u t
  test_free_law u always = refl
  test_free_law u (fluent i) = refl
  test_free_law u (neg t) = test_free_law u t
  test_free_law u (both t s) = ap₂ ◌||◌ (test_free_law u t) (test_free_law u s)
  test_free_law u (diamond w t) = ap₂ ◌||◌ (normal_free u w) (test_free_law u t)
  test_free_law u (exists v t) = ap (λ (b : Bool). not (is_variable v u) && b) (test_free_law u t)

mutual
  unfolding normal walk_varies

  normal_varies : (x : Walk) → walk_varies (normal x) ≡ walk_varies x
  normal_varies (act a) = refl
  normal_varies (undo a) = refl
  normal_varies next = refl
  normal_varies prev = refl
  normal_varies (seq v w) = ap₂ ◌||◌ (normal_varies v) (normal_varies w)
  normal_varies (alt v w) = ap₂ ◌||◌ (normal_varies v) (normal_varies w)
  normal_varies (star w) = normal_varies w
  normal_varies (check t) = test_varies_law t
  normal_varies (conv w) = turned_varies w
  normal_varies (pick v w) = refl

  turned_varies : (x : Walk) → walk_varies (turned x) ≡ walk_varies x
  turned_varies (act a) = refl
  turned_varies (undo a) = refl
  turned_varies next = refl
  turned_varies prev = refl
  turned_varies (seq v w) = exchanged (turned_varies v) (turned_varies w)
  turned_varies (alt v w) = ap₂ ◌||◌ (turned_varies v) (turned_varies w)
  turned_varies (star w) = turned_varies w
  turned_varies (check t) = test_varies_law t
  turned_varies (conv w) = normal_varies w
  turned_varies (pick v w) = refl

  test_varies_law : (t : Test) → test_varies (normal_test t) ≡ test_varies t
  test_varies_law always = refl
  test_varies_law (fluent i) = refl
  test_varies_law (neg t) = test_varies_law t
  test_varies_law (both t u) = ap₂ ◌||◌ (test_varies_law t) (test_varies_law u)
  test_varies_law (diamond w t) = ap₂ ◌||◌ (normal_varies w) (test_varies_law t)
  test_varies_law (exists v t) = refl

pub rule_free : (u : Variable) (r : Rule) → free_in u (normal_rule r) ≡ free_in u r
rule_free u (of_test t) = test_free_law u t
rule_free u (of_walk x) = normal_free u x

pub rule_varies : (r : Rule) → varies_in (normal_rule r) ≡ varies_in r
rule_varies (of_test t) = test_varies_law t
rule_varies (of_walk x) = normal_varies x

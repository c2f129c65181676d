-- What stands where the rewriter reads a sign, by the table of signs: a walk's sign is a walk's, and its parts stand where the table of ends says. No code.
use mathlib.Core.Path.{◌≡◌, refl, sym, subst, ◌∙◌}
use mathlib.Core.Logic.{◌⊎◌, inl, inr, ⊎_elim}
use mathlib.Core.List.{List}
use Prim.Native.Nat.{ℕ, ◌+◌}
use lib.ListN.{length, get_or}
use Rattle.meaning.specs.Rule.{Walk, Test, Rule, of_test, of_walk, text}
use Rattle.grammar.specs.declared.signs.Sign.{Sign}
use Rattle.grammar.specs.declared.signs.Sign.TheVariants.{Step, NamedStep, OverWalk, OverTest, TwoWalks, Constant, NamedFluent, Denial, TwoTests, WalkThenTest, SumStep, SomeWalk, SumFluent, SomeTest, Stranger}
use Rattle.grammar.specs.Signs.{sign_meant}
use Rattle.grammar.specs.Standing.{Stands, Ends}
use Rattle.rule.proofs.Answers.{NoWalk, NoTest}
use Rattle.grammar.proofs.Spread.{Spread, spread, act_at, undo_at, next_part_at, prev_at, seq_at, alt_at, star_at, check_at, conv_at, always_at, fluent_at, neg_at, both_at, diamond_at, sum_act_at, sum_undo_at, pick_at, sum_fluent_at, exists_at}

-- where a walk stands, its sign is none but a walk's; a test's likewise
stands_of_walk : {bytes : List ℕ} {at b : ℕ} {x : Walk} {s : Sign} → Spread bytes at b (of_walk x) → s ≡ sign_meant b → NoWalk s → ⊥
unfolding sign_meant
stands_of_walk (act_at a d) e n = subst NoWalk e n
stands_of_walk (undo_at a d) e n = subst NoWalk e n
stands_of_walk next_part_at e n = subst NoWalk e n
stands_of_walk prev_at e n = subst NoWalk e n
stands_of_walk (seq_at v w p q) e n = subst NoWalk e n
stands_of_walk (alt_at v w p q) e n = subst NoWalk e n
stands_of_walk (star_at w p) e n = subst NoWalk e n
stands_of_walk (check_at t p) e n = subst NoWalk e n
stands_of_walk (conv_at w p) e n = subst NoWalk e n
stands_of_walk (sum_act_at a v d l) e n = subst NoWalk e n
stands_of_walk (sum_undo_at a v d l) e n = subst NoWalk e n
stands_of_walk (pick_at v w l p) e n = subst NoWalk e n

stands_of_test : {bytes : List ℕ} {at b : ℕ} {t : Test} {s : Sign} → Spread bytes at b (of_test t) → s ≡ sign_meant b → NoTest s → ⊥
unfolding sign_meant
stands_of_test always_at e n = subst NoTest e n
stands_of_test (fluent_at i d) e n = subst NoTest e n
stands_of_test (neg_at t p) e n = subst NoTest e n
stands_of_test (both_at t u p q) e n = subst NoTest e n
stands_of_test (diamond_at w t p q) e n = subst NoTest e n
stands_of_test (sum_fluent_at i v d l) e n = subst NoTest e n
stands_of_test (exists_at v t l p) e n = subst NoTest e n

-- what is read behind a part stands where the table says that the part ends
pub behind : {bytes ends : List ℕ} {at : ℕ} {x y : Rule} → Ends bytes ends → Stands bytes at x → Stands bytes (at + length (text x)) y → Stands bytes (get_or ends at 0) y
behind {bytes} {ends} {at} {x} {y} table h k = subst (λ (i : ℕ). Stands bytes i y) (sym (table.each at x h)) k

-- what no other arm of the walk's rewriter takes is a sign of two walks, or begins no walk
left_to_walks : (s : Sign) → (s ≡ Step → ⊥) → (s ≡ NamedStep → ⊥) → (s ≡ OverWalk → ⊥) → (s ≡ OverTest → ⊥) → (s ≡ SumStep → ⊥) → (s ≡ SomeWalk → ⊥) → (s ≡ TwoWalks) ⊎ NoWalk s
left_to_walks Step n _ _ _ _ _ = absurd (n refl)
left_to_walks NamedStep _ n _ _ _ _ = absurd (n refl)
left_to_walks OverWalk _ _ n _ _ _ = absurd (n refl)
left_to_walks OverTest _ _ _ n _ _ = absurd (n refl)
left_to_walks TwoWalks _ _ _ _ _ _ = inl refl
left_to_walks Constant _ _ _ _ _ _ = inr tt
left_to_walks NamedFluent _ _ _ _ _ _ = inr tt
left_to_walks Denial _ _ _ _ _ _ = inr tt
left_to_walks TwoTests _ _ _ _ _ _ = inr tt
left_to_walks WalkThenTest _ _ _ _ _ _ = inr tt
left_to_walks SumStep _ _ _ _ n _ = absurd (n refl)
left_to_walks SomeWalk _ _ _ _ _ n = absurd (n refl)
left_to_walks SumFluent _ _ _ _ _ _ = inr tt
left_to_walks SomeTest _ _ _ _ _ _ = inr tt
left_to_walks Stranger _ _ _ _ _ _ = inr tt

-- what no other arm of the test's rewriter takes is a `<`, or begins no test
left_to_tests : (s : Sign) → (s ≡ Constant → ⊥) → (s ≡ NamedFluent → ⊥) → (s ≡ Denial → ⊥) → (s ≡ TwoTests → ⊥) → (s ≡ SumFluent → ⊥) → (s ≡ SomeTest → ⊥) → (s ≡ WalkThenTest) ⊎ NoTest s
left_to_tests Step _ _ _ _ _ _ = inr tt
left_to_tests NamedStep _ _ _ _ _ _ = inr tt
left_to_tests OverWalk _ _ _ _ _ _ = inr tt
left_to_tests OverTest _ _ _ _ _ _ = inr tt
left_to_tests TwoWalks _ _ _ _ _ _ = inr tt
left_to_tests Constant n _ _ _ _ _ = absurd (n refl)
left_to_tests NamedFluent _ n _ _ _ _ = absurd (n refl)
left_to_tests Denial _ _ n _ _ _ = absurd (n refl)
left_to_tests TwoTests _ _ _ n _ _ = absurd (n refl)
left_to_tests WalkThenTest _ _ _ _ _ _ = inl refl
left_to_tests SumStep _ _ _ _ _ _ = inr tt
left_to_tests SomeWalk _ _ _ _ _ _ = inr tt
left_to_tests SumFluent _ _ _ _ n _ = absurd (n refl)
left_to_tests SomeTest _ _ _ _ _ n = absurd (n refl)
left_to_tests Stranger _ _ _ _ _ _ = inr tt

-- so that sign it is, where a walk stands, and a test
pub two_walks : {bytes : List ℕ} {at : ℕ} {x : Walk} {s : Sign} → Stands bytes at (of_walk x) → s ≡ sign_meant (get_or bytes at 0)
    → (s ≡ Step → ⊥) → (s ≡ NamedStep → ⊥) → (s ≡ OverWalk → ⊥) → (s ≡ OverTest → ⊥) → (s ≡ SumStep → ⊥) → (s ≡ SomeWalk → ⊥) → TwoWalks ≡ sign_meant (get_or bytes at 0)
two_walks {s = s} h e step named over check sum some =
    ⊎_elim (λ f. sym f ∙ e) (λ n. absurd (stands_of_walk (spread h _ refl) e n)) (left_to_walks s step named over check sum some)

pub walk_test : {bytes : List ℕ} {at : ℕ} {t : Test} {s : Sign} → Stands bytes at (of_test t) → s ≡ sign_meant (get_or bytes at 0)
    → (s ≡ Constant → ⊥) → (s ≡ NamedFluent → ⊥) → (s ≡ Denial → ⊥) → (s ≡ TwoTests → ⊥) → (s ≡ SumFluent → ⊥) → (s ≡ SomeTest → ⊥) → WalkThenTest ≡ sign_meant (get_or bytes at 0)
walk_test {s = s} h e constant named denial both sum some =
    ⊎_elim (λ f. sym f ∙ e) (λ n. absurd (stands_of_test (spread h _ refl) e n)) (left_to_tests s constant named denial both sum some)

-- The rewriter's arms for the signs of a test: what the parts' writing makes of the whole sign's. A test's walks are rewritten under no converse. Opens the
-- normal form; knows no code.
use mathlib.Core.Path.{◌≡◌, refl, ap, subst⁻¹, ◌∙◌}
use mathlib.Core.Bool.{false}
use mathlib.Core.List.{List}
use Prim.Native.Nat.{ℕ, ◌+◌}
use lib.ListN.{get_or, set}
use Rattle.meaning.specs.Rule.{Test, of_test, walk_text}
use Rattle.meaning.specs.Normal.{normal, normal_test}
use Rattle.grammar.specs.declared.signs.Sign.TheVariants.{Constant, NamedFluent, Denial, TwoTests, WalkThenTest, SumFluent, SomeTest}
use Rattle.grammar.specs.Signs.{sign_meant}
use Rattle.grammar.specs.Standing.{Stands, Ends}
use Rattle.grammar.proofs.SignTable.{SignIs, sign_is, always_sign, fluent_sign, neg_sign, both_sign, diamond_sign, sum_fluent_sign, exists_sign}
use Rattle.grammar.proofs.Spread.{Spread, spread, always_at, fluent_at, neg_at, both_at, diamond_at, sum_fluent_at, exists_at}
use Rattle.normal.specs.Place.{Written, WalkWritten, TestWritten, NumberWritten, LetterWritten}
use Rattle.normal.proofs.Arms.{SignWritten}
use Rattle.normal.proofs.Standing.{behind}
use Rattle.normal.proofs.Writing.{leaf, named, sum, lettered, one, two}

module _ {bytes : List ℕ} {at to : ℕ} {before mid : List ℕ} (sign : SignWritten bytes false at to before mid) where
  seen : {b : ℕ} → get_or bytes at 0 ≡ b → mid ≡ set before to b
  seen e = sign.put ∙ ap (set before to) e

  abbrev Done : ℕ → List ℕ → Test → Type 0
  Done to₁ after t = Written (of_test (normal_test t)) to before to₁ after

  -- `1`
  pub constant_written : Constant ≡ sign_meant (get_or bytes at 0) → TestWritten bytes at to before (to + 1) mid
  unfolding normal walk_text
  constant_written s = record { each = λ t h. go (sign_is s) refl (spread h _ refl) }
    where
      go : {b : ℕ} {t : Test} → SignIs b Constant → get_or bytes at 0 ≡ b → Spread bytes at b (of_test t) → Done (to + 1) mid t
      go always_sign e always_at = leaf (seen e) refl

  module _ {to₁ : ℕ} {after : List ℕ} where
    -- `fNN`
    pub fluent_written : NamedFluent ≡ sign_meant (get_or bytes at 0) → NumberWritten bytes (at + 1) (to + 1) mid to₁ after → TestWritten bytes at to before to₁ after
    unfolding normal walk_text
    fluent_written s h = record { each = λ t k. go (sign_is s) refl (spread k _ refl) }
      where
        go : {b : ℕ} {t : Test} → SignIs b NamedFluent → get_or bytes at 0 ≡ b → Spread bytes at b (of_test t) → Done to₁ after t
        go fluent_sign e (fluent_at i d) = named (seen e) i d h refl

    -- `!T`
    pub denial_written : Denial ≡ sign_meant (get_or bytes at 0) → TestWritten bytes (at + 1) (to + 1) mid to₁ after → TestWritten bytes at to before to₁ after
    unfolding normal walk_text
    denial_written s h = record { each = λ t k. go (sign_is s) refl (spread k _ refl) }
      where
        go : {b : ℕ} {t : Test} → SignIs b Denial → get_or bytes at 0 ≡ b → Spread bytes at b (of_test t) → Done to₁ after t
        go neg_sign e (neg_at t k) = one (seen e) (h.each t k) refl

    -- `gNNv`
    pub sum_written : {to₂ : ℕ} {last : List ℕ} → SumFluent ≡ sign_meant (get_or bytes at 0) → NumberWritten bytes (at + 1) (to + 1) mid to₁ after → LetterWritten bytes (at + 3) to₁ after to₂ last
        → TestWritten bytes at to before to₂ last
    unfolding normal walk_text
    sum_written {to₂} {last} s h i = record { each = λ t k. go (sign_is s) refl (spread k _ refl) }
      where
        go : {b : ℕ} {t : Test} → SignIs b SumFluent → get_or bytes at 0 ≡ b → Spread bytes at b (of_test t) → Done to₂ last t
        go sum_fluent_sign e (sum_fluent_at a v d l) = sum (seen e) a v d l h i refl

    -- `evT`
    pub exists_written : {to₂ : ℕ} {last : List ℕ} → SomeTest ≡ sign_meant (get_or bytes at 0) → LetterWritten bytes (at + 1) (to + 1) mid to₁ after → TestWritten bytes (at + 2) to₁ after to₂ last
        → TestWritten bytes at to before to₂ last
    unfolding normal walk_text
    exists_written {to₂} {last} s h i = record { each = λ t k. go (sign_is s) refl (spread k _ refl) }
      where
        go : {b : ℕ} {t : Test} → SignIs b SomeTest → get_or bytes at 0 ≡ b → Spread bytes at b (of_test t) → Done to₂ last t
        go exists_sign e (exists_at v t l k) = lettered v (seen e) l h (i.each t k) refl

    module _ {ends : List ℕ} (table : Ends bytes ends) {middle to₂ : ℕ} {last : List ℕ} (m : middle ≡ get_or ends (at + 1) 0) (i : TestWritten bytes middle to₁ after to₂ last) where
      second : (u : Test) → Stands bytes (get_or ends (at + 1) 0) (of_test u) → Written (of_test (normal_test u)) to₁ after to₂ last
      second u s = i.each u (subst⁻¹ (λ (k : ℕ). Stands bytes k (of_test u)) m s)

      -- `&TU`
      pub both-written : TwoTests ≡ sign_meant (get_or bytes at 0) → TestWritten bytes (at + 1) (to + 1) mid to₁ after → TestWritten bytes at to before to₂ last
      unfolding normal walk_text
      both-written s h = record { each = λ t k. go (sign_is s) refl (spread k _ refl) }
        where
          go : {b : ℕ} {t : Test} → SignIs b TwoTests → get_or bytes at 0 ≡ b → Spread bytes at b (of_test t) → Done to₂ last t
          go both_sign e (both_at t u p q) = two (seen e) (h.each t p) (second u (behind table p q)) refl

      -- `<WT`
      pub diamond-written : WalkThenTest ≡ sign_meant (get_or bytes at 0) → WalkWritten bytes false (at + 1) (to + 1) mid to₁ after → TestWritten bytes at to before to₂ last
      unfolding normal walk_text
      diamond-written s h = record { each = λ t k. go (sign_is s) refl (spread k _ refl) }
        where
          go : {b : ℕ} {t : Test} → SignIs b WalkThenTest → get_or bytes at 0 ≡ b → Spread bytes at b (of_test t) → Done to₂ last t
          go diamond_sign e (diamond_at w t p q) = two (seen e) (h.each w p) (second t (behind table p q)) refl

-- The rewriter's arms for the signs of a walk: what the parts' writing makes of the whole sign's, forwards and under a converse. Knows no code.
use mathlib.Core.Path.{◌≡◌, refl, sym, ap, ap₂, subst, ◌∙◌}
use mathlib.Core.Bool.{Bool, true, false, not}
use mathlib.Core.List.{List, ◌∷◌, ◌++◌}
use Prim.Native.Nat.{ℕ, ◌+◌}
use lib.ListN.{length, get_or, set}
use Rattle.meaning.specs.Rule.{Walk, of_walk, walk_text}
use Rattle.grammar.specs.declared.signs.Sign.TheVariants.{Step, NamedStep, OverWalk, OverTest, TwoWalks, SumStep, SomeWalk}
use Rattle.grammar.specs.Signs.{sign_meant}
use Rattle.grammar.specs.Standing.{Stands, Ends}
use Rattle.grammar.proofs.SignTable.{SignIs, sign_is, act_sign, undo_sign, next_sign, prev_sign, seq_sign, alt_sign, star_sign, conv_sign, check_sign, sum_act_sign, sum_undo_sign, pick_sign}
use Rattle.grammar.proofs.Spread.{Spread, spread, act_at, undo_at, next_part_at, prev_at, seq_at, alt_at, star_at, check_at, conv_at, sum_act_at, sum_undo_at, pick_at}
use Rattle.normal.specs.declared.rewrite.Parts.{Parts}
use Rattle.normal.specs.Place.{facing, Written, WalkWritten, TestWritten, NumberWritten, LetterWritten}
use Rattle.normal.specs.Sign.{facing_sign, swaps, signs_in_order}
use Rattle.normal.proofs.Signs.{act_facing, undo_facing, next_facing, prev_facing, seq_ordered, seq_exchanged, alt_facing, star_facing, check_facing, conv_facing, sum_act_facing, sum_undo_facing, pick_facing}
use Rattle.normal.proofs.Standing.{behind}
use Rattle.normal.proofs.Writing.{leaf, named, sum, lettered, one, two, gone}

-- `-W`
pub conv_written : {bytes : List ℕ} {at to to₁ : ℕ} {before after : List ℕ} → get_or bytes at 0 ≡ 45 → (back : Bool)
    → WalkWritten bytes (not back) (at + 1) to before to₁ after → WalkWritten bytes back at to before to₁ after
conv_written {bytes} {at} {to} {to₁} {before} {after} e back h = record { each = λ x s. go (spread s 45 e) }
  where
    go : {x : Walk} → Spread bytes at 45 (of_walk x) → Written (of_walk (facing back x)) to before to₁ after
    go (conv_at w s) = gone (h.each w s) (conv_facing back w)

-- the sign at `at` is written at `to`: mid is the output with it
pub record SignWritten (bytes : List ℕ) (back : Bool) (at to : ℕ) (before mid : List ℕ) : Type 0 where
  pub put : mid ≡ set before to (facing_sign back (get_or bytes at 0))

module _ {bytes : List ℕ} {at to : ℕ} {before mid : List ℕ} (back : Bool) (sign : SignWritten bytes back at to before mid) where
  known : {b : ℕ} → get_or bytes at 0 ≡ b → mid ≡ set before to (facing_sign back b)
  known e = sign.put ∙ ap (λ (k : ℕ). set before to (facing_sign back k)) e

  abbrev Done : ℕ → List ℕ → Walk → Type 0
  Done to₁ after x = Written (of_walk (facing back x)) to before to₁ after

  -- `n`, `u`
  pub step_written : Step ≡ sign_meant (get_or bytes at 0) → WalkWritten bytes back at to before (to + 1) mid
  step_written s = record { each = λ x h. go (sign_is s) refl (spread h _ refl) }
    where
      go : {b : ℕ} {x : Walk} → SignIs b Step → get_or bytes at 0 ≡ b → Spread bytes at b (of_walk x) → Done (to + 1) mid x
      go next_sign e next_part_at = leaf (known e) (next_facing back)
      go prev_sign e prev_at = leaf (known e) (prev_facing back)

  module _ {to₁ : ℕ} {after : List ℕ} where
    -- `aNN`, `rNN`
    pub named_written : NamedStep ≡ sign_meant (get_or bytes at 0) → NumberWritten bytes (at + 1) (to + 1) mid to₁ after → WalkWritten bytes back at to before to₁ after
    named_written s h = record { each = λ x k. go (sign_is s) refl (spread k _ refl) }
      where
        go : {b : ℕ} {x : Walk} → SignIs b NamedStep → get_or bytes at 0 ≡ b → Spread bytes at b (of_walk x) → Done to₁ after x
        go act_sign e (act_at a d) = named (known e) a d h (act_facing back a)
        go undo_sign e (undo_at a d) = named (known e) a d h (undo_facing back a)

    -- `*W`, the one sign over a walk that is written
    pub star_written : OverWalk ≡ sign_meant (get_or bytes at 0) → (get_or bytes at 0 ≡ 45 → ⊥) → WalkWritten bytes back (at + 1) (to + 1) mid to₁ after
        → WalkWritten bytes back at to before to₁ after
    star_written s n h = record { each = λ x k. go (sign_is s) refl (spread k _ refl) }
      where
        go : {b : ℕ} {x : Walk} → SignIs b OverWalk → get_or bytes at 0 ≡ b → Spread bytes at b (of_walk x) → Done to₁ after x
        go star_sign e (star_at w k) = one (known e) (h.each w k) (star_facing back w)
        go conv_sign e (conv_at w k) = absurd (n e)

    -- `?T`
    pub check_written : OverTest ≡ sign_meant (get_or bytes at 0) → TestWritten bytes (at + 1) (to + 1) mid to₁ after → WalkWritten bytes back at to before to₁ after
    check_written s h = record { each = λ x k. go (sign_is s) refl (spread k _ refl) }
      where
        go : {b : ℕ} {x : Walk} → SignIs b OverTest → get_or bytes at 0 ≡ b → Spread bytes at b (of_walk x) → Done to₁ after x
        go check_sign e (check_at t k) = one (known e) (h.each t k) (check_facing back t)

    -- `bNNv`, `sNNv`
    pub sum_written : {to₂ : ℕ} {last : List ℕ} → SumStep ≡ sign_meant (get_or bytes at 0) → NumberWritten bytes (at + 1) (to + 1) mid to₁ after → LetterWritten bytes (at + 3) to₁ after to₂ last
        → WalkWritten bytes back at to before to₂ last
    sum_written {to₂} {last} s h i = record { each = λ x k. go (sign_is s) refl (spread k _ refl) }
      where
        go : {b : ℕ} {x : Walk} → SignIs b SumStep → get_or bytes at 0 ≡ b → Spread bytes at b (of_walk x) → Done to₂ last x
        go sum_act_sign e (sum_act_at a v d l) = sum (known e) a v d l h i (sum_act_facing back a v)
        go sum_undo_sign e (sum_undo_at a v d l) = sum (known e) a v d l h i (sum_undo_facing back a v)

    -- `pvW`
    pub pick_written : {to₂ : ℕ} {last : List ℕ} → SomeWalk ≡ sign_meant (get_or bytes at 0) → LetterWritten bytes (at + 1) (to + 1) mid to₁ after → WalkWritten bytes back (at + 2) to₁ after to₂ last
        → WalkWritten bytes back at to before to₂ last
    pick_written {to₂} {last} s h i = record { each = λ x k. go (sign_is s) refl (spread k _ refl) }
      where
        go : {b : ℕ} {x : Walk} → SignIs b SomeWalk → get_or bytes at 0 ≡ b → Spread bytes at b (of_walk x) → Done to₂ last x
        go pick_sign e (pick_at v w l k) = lettered v (known e) l h (i.each w k) (pick_facing back v w)

  -- `;VW`, `|VW`: the parts in the order that they have under no converse, or under one
  module _ {ends : List ℕ} (table : Ends bytes ends) (p : Parts) (order : p ≡ signs_in_order (swaps back (get_or bytes at 0)) (at + 1) (get_or ends (at + 1) 0)) {to₁ to₂ : ℕ} {after last : List ℕ}
      (h : WalkWritten bytes back p.first (to + 1) mid to₁ after) (i : WalkWritten bytes back p.second to₁ after to₂ last) where
    ordered : {k : Bool} {b : ℕ} → back ≡ k → get_or bytes at 0 ≡ b → p ≡ signs_in_order (swaps k b) (at + 1) (get_or ends (at + 1) 0)
    ordered f e = order ∙ ap (λ (t : Bool). signs_in_order t (at + 1) (get_or ends (at + 1) 0)) (ap₂ swaps f e)

    module _ {b : ℕ} (e : get_or bytes at 0 ≡ b) (x v w : Walk) (s : Stands bytes (at + 1) (of_walk v)) (t : Stands bytes (at + 1 + length (walk_text v)) (of_walk w)) where
      straight : p ≡ signs_in_order false (at + 1) (get_or ends (at + 1) 0) → walk_text (facing back x) ≡ facing_sign back b ∷ (walk_text (facing back v) ++ walk_text (facing back w)) → Done to₂ last x
      straight o f =
          two (known e) (h.each v (subst (λ (q : Parts). Stands bytes q.first (of_walk v)) (sym o) s))
          (i.each w (subst (λ (q : Parts). Stands bytes q.second (of_walk w)) (sym o) (behind table s t))) f

      exchanged : p ≡ signs_in_order true (at + 1) (get_or ends (at + 1) 0) → walk_text (facing back x) ≡ facing_sign back b ∷ (walk_text (facing back w) ++ walk_text (facing back v)) → Done to₂ last x
      exchanged o f =
          two (known e) (h.each w (subst (λ (q : Parts). Stands bytes q.first (of_walk w)) (sym o) (behind table s t)))
          (i.each v (subst (λ (q : Parts). Stands bytes q.second (of_walk v)) (sym o) s)) f

    pub two_written : TwoWalks ≡ sign_meant (get_or bytes at 0) → WalkWritten bytes back at to before to₂ last
    two_written s = record { each = λ x k. go back refl (sign_is s) refl (spread k _ refl) }
      where
        go : {b : ℕ} {x : Walk} (k : Bool) → back ≡ k → SignIs b TwoWalks → get_or bytes at 0 ≡ b → Spread bytes at b (of_walk x) → Done to₂ last x
        go false f seq_sign e (seq_at v w s t) = straight e _ v w s t (ordered f e) (seq_ordered back f v w)
        go true f seq_sign e (seq_at v w s t) = exchanged e _ v w s t (ordered f e) (seq_exchanged back f v w)
        go false f alt_sign e (alt_at v w s t) = straight e _ v w s t (ordered f e) (alt_facing back v w)
        go true f alt_sign e (alt_at v w s t) = straight e _ v w s t (ordered f e) (alt_facing back v w)

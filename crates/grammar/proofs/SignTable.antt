-- Laws of the table of signs: the bytes of each sign, and each sign by the place that the code gives it.
use mathlib.Core.Path.{◌≡◌, refl, sym, ap, subst, subst⁻¹, ◌∙◌}
use mathlib.Core.Logic.{⊎_elim}
use mathlib.Core.Bool.{Bool, true, false, cond}
use mathlib.Core.List.{List, [], ◌∷◌}
use Prim.Native.Nat.{ℕ}
use lib.Dec.{eqb}
use lib.ListN.{get_or}
use types.Run.{OneOf}
use denote.Enum.Declared.{tag_of}
use borrow.Author.Tests.{eqb-true, eqb-false}
use Rattle.grammar.specs.declared.signs.Sign.{Sign}
use Rattle.grammar.specs.declared.signs.Sign.TheVariants.{Step, NamedStep, OverWalk, OverTest, TwoWalks, Constant, NamedFluent, Denial, TwoTests, WalkThenTest, SumStep, SomeWalk, SumFluent, SomeTest, Stranger}
use Rattle.grammar.specs.Signs.{Entry, look_up, sign_table, sign_meant}
use Rattle.grammar.specs.contracts.signs.Sign.{the_type}

-- the byte is none of these rows'
abbrev pub Strange : List Entry → ℕ → Type 0
Strange [] b = Unit {0}
Strange (row ∷ rows) b = (b ≡ row.byte → ⊥) × Strange rows b

-- the table read backwards: which bytes have this sign
pub data SignIs : ℕ → Sign → Type 0 where
  act_sign : SignIs 97 NamedStep
  undo_sign : SignIs 114 NamedStep
  next_sign : SignIs 110 Step
  prev_sign : SignIs 117 Step
  seq_sign : SignIs 59 TwoWalks
  alt_sign : SignIs 124 TwoWalks
  star_sign : SignIs 42 OverWalk
  conv_sign : SignIs 45 OverWalk
  check_sign : SignIs 63 OverTest
  always_sign : SignIs 49 Constant
  fluent_sign : SignIs 102 NamedFluent
  neg_sign : SignIs 33 Denial
  both_sign : SignIs 38 TwoTests
  diamond_sign : SignIs 60 WalkThenTest
  sum_act_sign : SignIs 98 SumStep
  sum_undo_sign : SignIs 115 SumStep
  pick_sign : SignIs 112 SomeWalk
  sum_fluent_sign : SignIs 103 SumFluent
  exists_sign : SignIs 101 SomeTest
  no_sign : (b : ℕ) → Strange sign_table b → SignIs b Stranger

abbrev Each : List Entry → Type 0
Each [] = Unit {0}
Each (row ∷ rows) = SignIs row.byte row.sign × Each rows

looked_up : (rows : List Entry) (b : ℕ) → Each rows → (Strange rows b → SignIs b Stranger) → SignIs b (look_up rows b)
looked_up [] b each none = none tt
looked_up (row ∷ rows) b each none = go (looked_up rows b each.1) (eqb b row.byte) refl
  where
    go : ((Strange rows b → SignIs b Stranger) → SignIs b (look_up rows b)) → (t : Bool) → eqb b row.byte ≡ t → SignIs b (cond t row.sign (look_up rows b))
    go further true e = subst⁻¹ (λ (k : ℕ). SignIs k row.sign) (eqb-true b row.byte e) each.0
    go further false e = further (λ s. none (eqb-false b row.byte e, s))

signs : (b : ℕ) → SignIs b (sign_meant b)
unfolding sign_meant
signs b =
    looked_up sign_table b
    (act_sign, (undo_sign, (next_sign, (prev_sign, (seq_sign, (alt_sign, (star_sign, (conv_sign, (check_sign, (always_sign, (fluent_sign, (neg_sign, (both_sign, (diamond_sign, (sum_act_sign, (sum_undo_sign, (pick_sign, (sum_fluent_sign, (exists_sign, tt)))))))))))))))))))
    (no_sign b)

pub sign_is : {b : ℕ} {s : Sign} → s ≡ sign_meant b → SignIs b s
sign_is {b} e = subst (SignIs b) (sym e) (signs b)

-- An arm of a match that takes several signs is told the place of its sign among all.
abbrev sign_at : ℕ → Sign
sign_at k =
    get_or (Step ∷ (NamedStep ∷ (OverWalk ∷ (OverTest ∷ (TwoWalks ∷ (Constant ∷ (NamedFluent ∷ (Denial ∷ (TwoTests ∷ (WalkThenTest ∷ (SumStep ∷ (SomeWalk ∷ (SumFluent ∷ (SomeTest ∷ (Stranger ∷ []))))))))))))))) k Stranger

at_its_place : (s : Sign) → sign_at (tag_of the_type s) ≡ s
at_its_place Step = refl
at_its_place NamedStep = refl
at_its_place OverWalk = refl
at_its_place OverTest = refl
at_its_place TwoWalks = refl
at_its_place Constant = refl
at_its_place NamedFluent = refl
at_its_place Denial = refl
at_its_place TwoTests = refl
at_its_place WalkThenTest = refl
at_its_place SumStep = refl
at_its_place SomeWalk = refl
at_its_place SumFluent = refl
at_its_place SomeTest = refl
at_its_place Stranger = refl

abbrev AllAt : (Sign → Type 0) → List ℕ → Type 0
AllAt P [] = Unit {0}
AllAt P (k ∷ ks) = P (sign_at k) × AllAt P ks

-- what holds of each sign that an arm takes holds of the one that came
pub among : (P : Sign → Type 0) (ks : List ℕ) → AllAt P ks → (s : Sign) → OneOf ks (tag_of the_type s) → P s
among P [] all s t = absurd t
among P (k ∷ []) all s t = subst P (ap sign_at (sym t) ∙ at_its_place s) all.0
among P (k ∷ (l ∷ ks)) all s t =
    ⊎_elim (λ e. subst P (ap sign_at (sym e) ∙ at_its_place s) all.0) (among P (l ∷ ks) all.1 s) t

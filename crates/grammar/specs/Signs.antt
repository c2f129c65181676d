-- The table of signs, as bytes: which of document 01's two tables each belongs to, or of document 02's Q-2, and what follows it. Everything else asks here.
use Rattle.std.specs.Prelude.{Bool, true, false, cond, List, [], ◌∷◌, ℕ, eqb}
use Rattle.grammar.specs.declared.signs.Sign.{Sign}
use Rattle.grammar.specs.declared.signs.Sign.TheVariants.{Step, NamedStep, OverWalk, OverTest, TwoWalks, Constant, NamedFluent, Denial, TwoTests, WalkThenTest, SumStep, SomeWalk, SumFluent, SomeTest, Stranger}

pub record Entry : Type 0 where
  pub byte : ℕ
  pub sign : Sign

infix 5 ◌is◌
abbrev pub ◌is◌ : ℕ → Sign → Entry
b is s = record { byte = b; sign = s }

-- aNN rNN, n u, ;VW |VW, *W -W, ?T; 1, fNN, !T, &TU, <WT; bNNv sNNv, pvW, gNNv, evT
abbrev pub sign_table : List Entry
sign_table =
    (97 is NamedStep) ∷ ((114 is NamedStep) ∷ ((110 is Step) ∷ ((117 is Step) ∷ ((59 is TwoWalks) ∷ ((124 is TwoWalks) ∷ ((42 is OverWalk) ∷ ((45 is OverWalk) ∷ ((63 is OverTest)
    ∷ ((49 is Constant) ∷ ((102 is NamedFluent) ∷ ((33 is Denial) ∷ ((38 is TwoTests) ∷ ((60 is WalkThenTest)
    ∷ ((98 is SumStep) ∷ ((115 is SumStep) ∷ ((112 is SomeWalk) ∷ ((103 is SumFluent) ∷ ((101 is SomeTest) ∷ []))))))))))))))))))

abbrev pub look_up : List Entry → ℕ → Sign
look_up [] b = Stranger
look_up (row ∷ rows) b = cond (eqb b row.byte) row.sign (look_up rows b)

unfoldable pub sign_meant : ℕ → Sign
sign_meant b = look_up sign_table b

-- one of these bytes
abbrev pub is_of : List ℕ → ℕ → Bool
is_of [] b = false
is_of (x ∷ xs) b = cond (eqb b x) true (is_of xs b)

-- the backward signs `-`, `r`, `u` and `s`
unfoldable pub turns_back : ℕ → Bool
turns_back b = is_of (45 ∷ (114 ∷ (117 ∷ (115 ∷ [])))) b

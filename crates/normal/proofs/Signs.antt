-- The signs: what each sign of a walk is rewritten to. Opens the normal form; knows no code.
use mathlib.Core.Path.{◌≡◌, refl, sym}
use mathlib.Core.Bool.{Bool, true, false, not, false≢true}
use mathlib.Core.List.{[], ◌∷◌, ◌++◌}
use Prim.Native.Nat.{ℕ}
use Rattle.meaning.specs.Rule.{Walk, Test, act, undo, next, prev, seq, alt, star, check, conv, pick, Variable, plain, plus, letter, walk_text, test_text, digits}
use Rattle.meaning.specs.Normal.{normal, normal_test}
use Rattle.normal.specs.Place.{facing}
use Rattle.normal.specs.Sign.{facing_sign}

-- What each sign of a walk is rewritten to, forwards and under a converse.

pub act_facing : (back : Bool) (a : ℕ) → walk_text (facing back (act (plain a))) ≡ facing_sign back 97 ∷ digits a
unfolding normal walk_text
act_facing false a = refl
act_facing true a = refl

pub undo_facing : (back : Bool) (a : ℕ) → walk_text (facing back (undo (plain a))) ≡ facing_sign back 114 ∷ digits a
unfolding normal walk_text
undo_facing false a = refl
undo_facing true a = refl

pub next_facing : (back : Bool) → walk_text (facing back next) ≡ facing_sign back 110 ∷ []
unfolding normal walk_text
next_facing false = refl
next_facing true = refl

pub prev_facing : (back : Bool) → walk_text (facing back prev) ≡ facing_sign back 117 ∷ []
unfolding normal walk_text
prev_facing false = refl
prev_facing true = refl

pub seq_ordered : (back : Bool) → back ≡ false → (v w : Walk) → walk_text (facing back (seq v w)) ≡ facing_sign back 59 ∷ (walk_text (facing back v) ++ walk_text (facing back w))
unfolding normal walk_text
seq_ordered false f v w = refl
seq_ordered true f v w = absurd (false≢true (sym f))

pub seq_exchanged : (back : Bool) → back ≡ true → (v w : Walk) → walk_text (facing back (seq v w)) ≡ facing_sign back 59 ∷ (walk_text (facing back w) ++ walk_text (facing back v))
unfolding normal walk_text
seq_exchanged false f v w = absurd (false≢true f)
seq_exchanged true f v w = refl

pub alt_facing : (back : Bool) (v w : Walk) → walk_text (facing back (alt v w)) ≡ facing_sign back 124 ∷ (walk_text (facing back v) ++ walk_text (facing back w))
unfolding normal walk_text
alt_facing false v w = refl
alt_facing true v w = refl

pub star_facing : (back : Bool) (w : Walk) → walk_text (facing back (star w)) ≡ facing_sign back 42 ∷ walk_text (facing back w)
unfolding normal walk_text
star_facing false w = refl
star_facing true w = refl

pub check_facing : (back : Bool) (t : Test) → walk_text (facing back (check t)) ≡ facing_sign back 63 ∷ test_text (normal_test t)
unfolding normal walk_text
check_facing false t = refl
check_facing true t = refl

pub conv_facing : (back : Bool) (w : Walk) → walk_text (facing back (conv w)) ≡ walk_text (facing (not back) w)
unfolding normal walk_text
conv_facing false w = refl
conv_facing true w = refl

pub sum_act_facing : (back : Bool) (a : ℕ) (v : Variable) → walk_text (facing back (act (plus a v))) ≡ facing_sign back 98 ∷ (digits a ++ (letter v ∷ []))
unfolding normal walk_text
sum_act_facing false a v = refl
sum_act_facing true a v = refl

pub sum_undo_facing : (back : Bool) (a : ℕ) (v : Variable) → walk_text (facing back (undo (plus a v))) ≡ facing_sign back 115 ∷ (digits a ++ (letter v ∷ []))
unfolding normal walk_text
sum_undo_facing false a v = refl
sum_undo_facing true a v = refl

pub pick_facing : (back : Bool) (v : Variable) (w : Walk) → walk_text (facing back (pick v w)) ≡ facing_sign back 112 ∷ (letter v ∷ walk_text (facing back w))
unfolding normal walk_text
pick_facing false v w = refl
pick_facing true v w = refl

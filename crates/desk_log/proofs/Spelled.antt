-- A label's number as its writer leaves it, and the labels that a line was held against. Knows bytes and numbers; no code.
use mathlib.Core.Path.{◌≡◌, refl, sym, ap, ◌∙◌}
use mathlib.Core.Logic.{inl, inr}
use Rattle.std.specs.Prelude.{Option, Some, None}
use mathlib.Core.List.{List}
use Prim.Native.Nat.{ℕ, ◌+◌, ◌≤◌, ◌<◌}
use native.Mathlib.Decide.{ℕ_discrete, dec_lt}
use native.Mathlib.Omega.{arith}
use lib.ListN.{length, take, drop}
use lib.Seq.{take_at}
use Rattle.spelling.specs.Decimal.{decimal}
use Rattle.spelling.specs.Wrote.{Wrote}
use Rattle.desk_log.specs.Entry.{NumberOf, LabelRead, EntryIs}
use Rattle.spelling.proofs.Plain.{length_decimal}
use Rattle.spelling.proofs.Writing.{wrote_length, wrote_front}

-- the front of the room is the number
pub front_decimal : {room after : List ℕ} {n : ℕ} (k : ℕ) → k < 1000 → length room ≡ 3 → Wrote room 0 (decimal k) after n
    → (take n after ≡ decimal k) × (n ≤ length after) × (n ≡ length (take n after))
front_decimal {room} {after} {n} k few fits w =
    let short = length_decimal k few in
    let f = wrote_front (omega arith) w in
    let text : take n after ≡ decimal k = ap (take n) f.0 ∙ take_at (decimal k) (drop (length (decimal k)) room) n (sym f.1) in
    (text, omega (arith, f.1, wrote_length w), f.1 ∙ sym (ap length text))

-- the line is the number of no label below k
abbrev pub Passed : List ℕ → ℕ → Type 0
Passed line k = (lower : ℕ) → 1 ≤ lower → lower < k → line ≡ decimal lower → ⊥

pub passed_more : {line : List ℕ} {k : ℕ} → Passed line k → (line ≡ decimal k → ⊥) → Passed line (k + 1)
passed_more {k = k} old other lower h l e = elim (ℕ_discrete lower k) [
  | yes same ↦ other (e ∙ ap decimal same)
  | no before ↦ old lower h (omega arith) e
]

-- a line is one entry
one_label : {most a b : ℕ} {line : List ℕ} → NumberOf most line a → NumberOf most line b → a ≡ b
one_label {a = a} {b = b} x y = elim (dec_lt a b) [
  | yes low ↦ absurd (y.first a x.above low x.spells)
  | no here ↦ elim (dec_lt b a) [ yes low ↦ absurd (x.first b y.above low y.spells) | no there ↦ omega arith ]
]

pub label_determined : (most : ℕ) (line : List ℕ) (label label' : Option ℕ) → LabelRead most line label → LabelRead most line label' → label ≡ label'
label_determined most line (Some a) (Some b) x y = ap Some (one_label x y)
label_determined most line (Some a) None x y = absurd (y a x.above x.within x.spells)
label_determined most line None (Some b) x y = absurd (x b y.above y.within y.spells)
label_determined most line None None x y = refl

pub entry_determined : (cartons : ℕ) (line : List ℕ) (action action' : Option ℕ) → EntryIs cartons line action → EntryIs cartons line action' → action ≡ action'
entry_determined cartons line (Some a) (Some b) (inl x) (inl y) = ap Some (x.1 ∙ sym y.1)
entry_determined cartons line (Some a) (Some b) (inl x) (inr y) = absurd (y.0 x.0)
entry_determined cartons line (Some a) (Some b) (inr x) (inl y) = absurd (x.0 y.0)
entry_determined cartons line (Some a) (Some b) (inr x) (inr y) = let e = one_label x.1 y.1 in ap Some (omega arith)
entry_determined cartons line (Some a) None (inl x) y = absurd (y.0 x.0)
entry_determined cartons line (Some a) None (inr x) y = absurd (y.1 _ x.1.above x.1.within x.1.spells)
entry_determined cartons line None (Some b) x (inl y) = absurd (x.0 y.0)
entry_determined cartons line None (Some b) x (inr y) = absurd (x.1 _ y.1.above y.1.within y.1.spells)
entry_determined cartons line None None x y = refl

-- The signs with no part, over the text: what the row that a sign names, and one step over it, make of the answer. Knows the rows by `Describes`.
use mathlib.Core.Path.{◌≡◌, refl, sym, ap, subst, ◌∙◌}
use mathlib.Core.Logic.{◌↔◌}
use mathlib.Core.Bool.{Bool, true, not, ◌&&◌}
use mathlib.Core.List.{List}
use Prim.Native.Nat.{ℕ, ◌+◌, ◌≤◌, ◌<◌}
use native.Mathlib.Omega.{arith}
use lib.Dec.{leb, ltb}
use lib.ListN.{get_or}
use borrow.Author.Tests.{le-leb, lt-ltb}
use Rattle.laws.specs.Bit.{on}
use Rattle.laws.proofs.Truth.{and_iff}
use Rattle.meaning.specs.Limits.{fluent_limit, action_limit, places}
use Rattle.meaning.specs.Theory.{World, number_in, state_before}
use Rattle.meaning.specs.Rule.{Variable, plain, plus, Walk, Test, of_walk, of_test}
use Rattle.meaning.specs.Leads.{Holds}
use Rattle.tables.specs.Tables.{action_rows, fluent_rows, possible_row, row_holds, among_holds, action_holds, fluent_holds}
use Rattle.runs.specs.Image.{Set, UpTo, Image, Sifted, Turn, Way, Crossing}
use Rattle.std.specs.declared.option.Option.TheVariants.{Some}
use Rattle.spelling.specs.Scan.{NumberAt}
use Rattle.grammar.specs.Letters.{Lettered}
use Rattle.grammar.specs.Standing.{Leaf}
use Rattle.runs.specs.Values.{value_in, SumHere}
use Rattle.runs.specs.Found.{LeafHere, Numbered, Tabled, LeafFound, TestFound}
use Rattle.runs.proofs.Arms.{Done, AnyDone, act_image, undo_image, next_image, prev_image, fluent_keeps}
use Rattle.grammar.proofs.Spread.{Spread, spread, act_at, undo_at, next_part_at, prev_at, seq_at, alt_at, star_at, check_at, conv_at, fluent_at, sum_act_at, sum_undo_at, pick_at, sum_fluent_at}
use Rattle.runs.proofs.Calls.{NoSign, sum_here}

-- the set is the row that the sign there names, among so many from a first one on
abbrev pub RowOf : List ℕ → ℕ → List ℕ → ℕ → ℕ → Set → Type 0
RowOf bytes at rows first many c = (n q : ℕ) → NumberAt bytes (at + 1) (Some n) → c q ≡ among_holds rows first many n q

-- the set is the row that the number there and the variable behind it name
abbrev pub SumRowOf : List ℕ → ℕ → List ℕ → List ℕ → ℕ → ℕ → Set → Type 0
SumRowOf bytes at rows bound first many c =
    (n q : ℕ) (v : Variable) → NumberAt bytes (at + 1) (Some n) → Lettered bytes (at + 1 + 2) v → c q ≡ among_holds rows first many (n + value_in bound v) q

-- the set is the row of the steps that were possible
abbrev pub PossibleOf : List ℕ → Set → Type 0
PossibleOf rows c = (q : ℕ) → c q ≡ row_holds rows possible_row q

-- all positions up to now
abbrev pub AllTo : ℕ → Set → Type 0
AllTo n c = (q : ℕ) → c q ≡ (leb q n && ltb q places)

-- one step over these positions
abbrev pub Stepped : Bool → ℕ → Set → Set → Set → Type 0
Stepped back n c s r = n < places → UpTo n s → Image (Turn back (Crossing c)) n s r

-- What a row says of the world, up to now.
module _ {w : World} {rows bound : List ℕ} {n : ℕ} (tabled : Tabled w rows bound n) (c : Set) where
  pub room : n < places
  room = omega (arith, tabled.logged, tabled.room)

  action_row : (a : ℕ) → ((q : ℕ) → c q ≡ action_holds rows a q) → Done w a n c
  action_row a e p low = rw (e p) (tabled.described.taken a p)

  fluent_row : (i : ℕ) → ((q : ℕ) → c q ≡ fluent_holds rows i q) → (q : ℕ) → q ≤ n → (c q ≡ true) ↔ (on (state_before w q) i ≡ true)
  fluent_row i e q low =
      let (seen, was) = tabled.described.shown i q in
      rw (e q) (λ h. (seen h).1, λ h. was (omega (arith, tabled.logged), h))

  possible_row_law : ((q : ℕ) → c q ≡ row_holds rows possible_row q) → AnyDone w n c
  possible_row_law e p low = rw (e p) (tabled.described.possible p)

  pub all_to : AllTo n c → (q : ℕ) → q ≤ n → c q ≡ true
  all_to e q low = e q ∙ (and_iff (leb q n) (ltb q places)).1 (le-leb q n low, lt-ltb q places (omega (arith, room)))

-- what a number and a variable behind it stand for
summed : {w : World} {rows bound : List ℕ} {n : ℕ} → Tabled w rows bound n → (a : ℕ) (v : Variable) → a + value_in bound v ≡ number_in w (plus a v)
summed tabled a v = ap (λ (i : ℕ). a + i) (sym (tabled.bears.stand v))

-- The number behind the sign, for `a` and `r`, and for `b` and `s`.
module _ {bytes : List ℕ} {at : ℕ} (h : LeafHere bytes at) where
  pub act_number : get_or bytes at 0 ≡ 97 → Numbered bytes (at + 1)
  act_number e = go (spread h.stands 97 e)
    where
      go : {x : Walk} → Spread bytes at 97 (of_walk x) → Numbered bytes (at + 1)
      go (act_at a d) = record { number = a; digits = d }

  pub undo_number : get_or bytes at 0 ≡ 114 → Numbered bytes (at + 1)
  undo_number e = go (spread h.stands 114 e)
    where
      go : {x : Walk} → Spread bytes at 114 (of_walk x) → Numbered bytes (at + 1)
      go (undo_at a d) = record { number = a; digits = d }

  pub sum_act_here : get_or bytes at 0 ≡ 98 → SumHere bytes (at + 1)
  sum_act_here e = go (spread h.stands 98 e)
    where
      go : {x : Walk} → Spread bytes at 98 (of_walk x) → SumHere bytes (at + 1)
      go (sum_act_at a v d l) = sum_here bytes at a v d l

  pub sum_undo_here : get_or bytes at 0 ≡ 115 → SumHere bytes (at + 1)
  sum_undo_here e = go (spread h.stands 115 e)
    where
      go : {x : Walk} → Spread bytes at 115 (of_walk x) → SumHere bytes (at + 1)
      go (sum_undo_at a v d l) = sum_here bytes at a v d l

-- the row of a sum, as the world has it
moved : (bytes : List ℕ) (at : ℕ) (v : Variable) → Lettered bytes (at + 3) v → Lettered bytes (at + 1 + 2) v
moved bytes at v l = let same : at + 3 ≡ at + 1 + 2 = omega arith in subst (λ (i : ℕ). Lettered bytes i v) same l

sum_row : {w : World} {rows bound : List ℕ} {n : ℕ} (bytes : List ℕ) (at : ℕ) (tabled : Tabled w rows bound n) (c : Set) (a : ℕ) (v : Variable) → NumberAt bytes (at + 1) (Some a)
    → Lettered bytes (at + 3) v → SumRowOf bytes at rows bound action_rows action_limit c → Done w (number_in w (plus a v)) n c
sum_row {w} {rows} bytes at tabled c a v d l row =
    action_row tabled c (number_in w (plus a v)) (λ q. row a q v d (moved bytes at v l) ∙ ap (λ (i : ℕ). action_holds rows i q) (summed tabled a v))

-- The walks with no part.
module _ {bytes : List ℕ} {at : ℕ} {back : Bool} {rows bound : List ℕ} {n : ℕ} {s r : Set} (c : Set) where
  -- `aNN`
  pub act_found : get_or bytes at 0 ≡ 97 → RowOf bytes at rows action_rows action_limit c → Stepped back n c s r → LeafFound bytes at back rows bound n s r
  act_found sign row step = record { found = λ w tabled low x leaf h. go w tabled low (spread h 97 sign) }
    where
      go : (w : World) → Tabled w rows bound n → UpTo n s → {x : Walk} → Spread bytes at 97 (of_walk x) → Image (Way w x back) n s r
      go w tabled low (act_at a d) = act_image w (plain a) back (action_row tabled c a (λ q. row a q d)) (step (room tabled c) low)

  -- `rNN`
  pub undo_found : get_or bytes at 0 ≡ 114 → RowOf bytes at rows action_rows action_limit c → Stepped (not back) n c s r → LeafFound bytes at back rows bound n s r
  undo_found sign row step = record { found = λ w tabled low x leaf h. go w tabled low (spread h 114 sign) }
    where
      go : (w : World) → Tabled w rows bound n → UpTo n s → {x : Walk} → Spread bytes at 114 (of_walk x) → Image (Way w x back) n s r
      go w tabled low (undo_at a d) = undo_image w (plain a) back (action_row tabled c a (λ q. row a q d)) (step (room tabled c) low)

  -- `n`
  pub next_found : get_or bytes at 0 ≡ 110 → PossibleOf rows c → Stepped back n c s r → LeafFound bytes at back rows bound n s r
  next_found sign able step = record { found = λ w tabled low x leaf h. go w tabled low (spread h 110 sign) }
    where
      go : (w : World) → Tabled w rows bound n → UpTo n s → {x : Walk} → Spread bytes at 110 (of_walk x) → Image (Way w x back) n s r
      go w tabled low next_part_at = next_image w back (possible_row_law tabled c able) (step (room tabled c) low)

  -- `bNNv`
  pub sum_act_found : get_or bytes at 0 ≡ 98 → SumRowOf bytes at rows bound action_rows action_limit c → Stepped back n c s r → LeafFound bytes at back rows bound n s r
  sum_act_found sign row step = record { found = λ w tabled low x leaf h. go w tabled low (spread h 98 sign) }
    where
      go : (w : World) → Tabled w rows bound n → UpTo n s → {x : Walk} → Spread bytes at 98 (of_walk x) → Image (Way w x back) n s r
      go w tabled low (sum_act_at a v d l) = act_image w (plus a v) back (sum_row bytes at tabled c a v d l row) (step (room tabled c) low)

  -- `sNNv`
  pub sum_undo_found : get_or bytes at 0 ≡ 115 → SumRowOf bytes at rows bound action_rows action_limit c → Stepped (not back) n c s r → LeafFound bytes at back rows bound n s r
  sum_undo_found sign row step = record { found = λ w tabled low x leaf h. go w tabled low (spread h 115 sign) }
    where
      go : (w : World) → Tabled w rows bound n → UpTo n s → {x : Walk} → Spread bytes at 115 (of_walk x) → Image (Way w x back) n s r
      go w tabled low (sum_undo_at a v d l) = undo_image w (plus a v) back (sum_row bytes at tabled c a v d l row) (step (room tabled c) low)

  -- `u`, which is none of the others
  pub prev_found : NoSign bytes at 97 → NoSign bytes at 114 → NoSign bytes at 110 → NoSign bytes at 98 → NoSign bytes at 115 → PossibleOf rows c → Stepped (not back) n c s r → LeafFound bytes at back rows bound n s r
  prev_found no-act no-undo no-next no-sum no-back able step = record { found = λ w tabled low x leaf h. go w tabled low leaf (spread h (get_or bytes at 0) refl) refl }
    where
      go : (w : World) → Tabled w rows bound n → UpTo n s → {b : ℕ} {x : Walk} → Leaf x → Spread bytes at b (of_walk x) → get_or bytes at 0 ≡ b → Image (Way w x back) n s r
      go w tabled low leaf (act_at a d) e = absurd (no-act e)
      go w tabled low leaf (undo_at a d) e = absurd (no-undo e)
      go w tabled low leaf next_part_at e = absurd (no-next e)
      go w tabled low leaf prev_at e = prev_image w back (possible_row_law tabled c able) (step (room tabled c) low)
      go w tabled low leaf (seq_at v y p q) e = absurd leaf
      go w tabled low leaf (alt_at v y p q) e = absurd leaf
      go w tabled low leaf (star_at y p) e = absurd leaf
      go w tabled low leaf (check_at y p) e = absurd leaf
      go w tabled low leaf (conv_at y p) e = absurd leaf
      go w tabled low leaf (sum_act_at a v d l) e = absurd (no-sum e)
      go w tabled low leaf (sum_undo_at a v d l) e = absurd (no-back e)
      go w tabled low leaf (pick_at v y l p) e = absurd leaf

-- `fNN`
pub fluent_found : {bytes : List ℕ} {at : ℕ} {rows bound : List ℕ} {n : ℕ} {s r : Set} (c : Set) → get_or bytes at 0 ≡ 102 → RowOf bytes at rows fluent_rows fluent_limit c
    → ((q : ℕ) → r q ≡ (s q && c q)) → TestFound bytes at rows bound n s r
fluent_found {bytes} {at} {rows} {bound} {n} {s} {r} c sign row meet = record { found = λ w tabled low x h. go w tabled low (spread h 102 sign) }
  where
    go : (w : World) → Tabled w rows bound n → UpTo n s → {x : Test} → Spread bytes at 102 (of_test x) → Sifted (Holds w x) n s r
    go w tabled low (fluent_at i d) = fluent_keeps w (plain i) low (fluent_row tabled c i (λ q. row i q d)) meet

-- `gNNv`
pub sum_fluent_found : {bytes : List ℕ} {at : ℕ} {rows bound : List ℕ} {n : ℕ} {s r : Set} (c : Set) → get_or bytes at 0 ≡ 103
    → SumRowOf bytes at rows bound fluent_rows fluent_limit c → ((q : ℕ) → r q ≡ (s q && c q)) → TestFound bytes at rows bound n s r
sum_fluent_found {bytes} {at} {rows} {bound} {n} {s} {r} c sign row meet = record { found = λ w tabled low x h. go w tabled low (spread h 103 sign) }
  where
    go : (w : World) → Tabled w rows bound n → UpTo n s → {x : Test} → Spread bytes at 103 (of_test x) → Sifted (Holds w x) n s r
    go w tabled low (sum_fluent_at i v d l) =
        fluent_keeps w (plus i v) low
        (fluent_row tabled c (number_in w (plus i v)) (λ q. row i q v d (moved bytes at v l) ∙ ap (λ (k : ℕ). fluent_holds rows k q) (summed tabled i v))) meet

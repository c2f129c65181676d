-- Any two outcomes that the contracts of this crate allow are equal: what they ask for, a number, a letter or a sign with no part that stands at the place, leaves one.
use mathlib.Core.Path.{◌≡◌, sym, ◌∙◌}
use mathlib.Core.Bool.{Bool}
use mathlib.Core.List.{List}
use Prim.Native.Nat.{ℕ, ◌+◌}
use Rattle.laws.proofs.Truth.{same_truth}
use Rattle.meaning.specs.Theory.{World}
use Rattle.meaning.specs.Rule.{Variable}
use Rattle.positions.specs.declared.PositionSet.{PositionSet}
use Rattle.positions.specs.Positions.{holds, Proper}
use Rattle.positions.proofs.Held.{same_set}
use Rattle.tables.specs.Tables.{among_holds}
use Rattle.std.specs.declared.option.Option.TheVariants.{Some}
use Rattle.spelling.specs.Scan.{NumberAt}
use Rattle.grammar.specs.Letters.{Lettered}
use Rattle.runs.specs.Image.{UpTo}
use Rattle.runs.specs.Values.{value_in, LetterHere, SumHere}
use Rattle.runs.specs.Found.{Numbered, Tabled, LeafHere, LeafFound}

-- `named`: the number that stands there
pub named_determined : {bytes : List ℕ} {at : ℕ} → Numbered bytes at → (r s : ℕ)
    → ((n : ℕ) → NumberAt bytes at (Some n) → r ≡ n) → ((n : ℕ) → NumberAt bytes at (Some n) → s ≡ n) → r ≡ s
named_determined here r s f g = f here.number here.digits ∙ sym (g here.number here.digits)

-- `place_of` with `place` and `value_of` with `value_in`: what the variable whose letter stands there has
pub letter_determined : (of : Variable → ℕ) {bytes : List ℕ} {at : ℕ} → LetterHere bytes at → (r s : ℕ)
    → ((v : Variable) → Lettered bytes at v → r ≡ of v) → ((v : Variable) → Lettered bytes at v → s ≡ of v) → r ≡ s
letter_determined of here r s f g = f here.variable here.stands ∙ sym (g here.variable here.stands)

-- Of a set each position is told.
module _ (r s : PositionSet) (proper : Proper r) (proper' : Proper s) where
  -- `row`
  pub row_determined : {bytes : List ℕ} {at : ℕ} (rows : List ℕ) (first many : ℕ) → Numbered bytes at
      → ((n q : ℕ) → NumberAt bytes at (Some n) → holds r q ≡ among_holds rows first many n q)
      → ((n q : ℕ) → NumberAt bytes at (Some n) → holds s q ≡ among_holds rows first many n q) → r ≡ s
  row_determined rows first many here f g = same_set r s proper proper' (λ q. f here.number q here.digits ∙ sym (g here.number q here.digits))

  -- `sum_row`
  pub sum_row_determined : {bytes : List ℕ} {at : ℕ} (rows bound : List ℕ) (first many : ℕ) → SumHere bytes at
      → ((n q : ℕ) (v : Variable) → NumberAt bytes at (Some n) → Lettered bytes (at + 2) v → holds r q ≡ among_holds rows first many (n + value_in bound v) q)
      → ((n q : ℕ) (v : Variable) → NumberAt bytes at (Some n) → Lettered bytes (at + 2) v → holds s q ≡ among_holds rows first many (n + value_in bound v) q) → r ≡ s
  sum_row_determined rows bound first many here f g =
      let v = here.letter.variable in
      let l = here.letter.stands in
      same_set r s proper proper' (λ q. f here.number q v here.digits l ∙ sym (g here.number q v here.digits l))

  -- `leaf`: the rows are those of a log, and the set lies at or before now
  pub leaf_determined : {bytes rows bound : List ℕ} {at now : ℕ} {back : Bool} {from : ℕ → Bool} → LeafHere bytes at → (w : World) → Tabled w rows bound now → UpTo now from
      → LeafFound bytes at back rows bound now from (holds r) → LeafFound bytes at back rows bound now from (holds s) → r ≡ s
  leaf_determined here w tabled low f g =
      let one = f.found w tabled low here.walk here.leaf here.stands in
      let two = g.found w tabled low here.walk here.leaf here.stands in
      same_set r s proper proper' (λ q. same_truth (holds r q) (holds s q) (λ k. (two.each q).1 ((one.each q).0 k)) (λ k. (one.each q).1 ((two.each q).0 k)))

-- Document 01's four masks of an action as a row of the table: "one unconditional clause and an empty one". Knows the table's layout and no code.
use Rattle.std.specs.Prelude.{List, [], ◌∷◌, ◌++◌, ℕ, zero, suc, ◌+◌, ◌*◌, length, get_or, take, drop}
use Rattle.meaning.specs.Theory.{Masks}
use Rattle.meaning.specs.Four.{plain_stride, plain_masks}

abbrev pub row_of_plain : ℕ → ℕ → ℕ → ℕ → List ℕ
row_of_plain need ban put drop = need ∷ ban ∷ 0 ∷ 0 ∷ put ∷ drop ∷ 0 ∷ 0 ∷ 0 ∷ 0 ∷ []

-- the masks of action a in a table of four masks an action, and its row
abbrev pub masks_of_four : List ℕ → ℕ → Masks
masks_of_four four a =
    plain_masks (get_or four (plain_stride * a) 0) (get_or four (plain_stride * a + 1) 0) (get_or four (plain_stride * a + 2) 0) (get_or four (plain_stride * a + 3) 0)

abbrev pub row_of_four : List ℕ → ℕ → List ℕ
row_of_four four a =
    row_of_plain (get_or four (plain_stride * a) 0) (get_or four (plain_stride * a + 1) 0) (get_or four (plain_stride * a + 2) 0) (get_or four (plain_stride * a + 3) 0)

-- the rows of so many actions, from action a on
unfoldable pub plain_rows : List ℕ → ℕ → ℕ → List ℕ
plain_rows four a zero = []
plain_rows four a (suc more) = row_of_four four a ++ plain_rows four (suc a) more

-- a list with other numbers from this place on
abbrev pub overwritten : List ℕ → ℕ → List ℕ → List ℕ
overwritten old at new = (take at old ++ new) ++ drop (at + length new) old

-- Any two outcomes that the contract of an exported function allows are equal: its result and every lent slot.
use mathlib.Core.Path.{◌≡◌, sym, ap, ◌∙◌}
use mathlib.Core.Logic.{inl, inr}
use mathlib.Core.List.{List}
use Prim.Native.Nat.{ℕ}
use Rattle.std.specs.Prelude.{Ok}
use Rattle.sheet.proofs.Determined.{one_refusal, refused_or_says, read_sheet_determined}
use Rattle.sheet_calls.specs.Exported.{line_numbers, numbers_of, SheetExported}

-- a sheet in numbers
pub wyh_read_sheet_determined :
    (bytes masks log : List ℕ) {number number' : ℕ} {numbers numbers' m m' l l' : List ℕ}
    → SheetExported bytes masks log number numbers m l → SheetExported bytes masks log number' numbers' m' l'
    → (number ≡ number') × (numbers ≡ numbers') × (m ≡ m') × (l ≡ l')
wyh_read_sheet_determined bytes masks log (inl x) (inl y) =
    let e = one_refusal bytes _ _ x.place y.place x.refused.refused y.refused.refused in (
      e.0,
      x.told ∙ ap line_numbers e.1 ∙ sym y.told,
      x.refused.kept ∙ sym y.refused.kept,
      x.refused.kept_log ∙ sym y.refused.kept_log,
    )
wyh_read_sheet_determined bytes masks log (inl x) (inr y) = absurd (refused_or_says bytes _ x.place y.handed.sheet x.refused.refused y.handed.says)
wyh_read_sheet_determined bytes masks log (inr x) (inl y) = absurd (refused_or_says bytes _ y.place x.handed.sheet y.refused.refused x.handed.says)
wyh_read_sheet_determined bytes masks log {m = m} {m' = m'} {l = l} {l' = l'} (inr x) (inr y) =
    let e = read_sheet_determined bytes masks log (Ok x.parsed) (Ok y.parsed) m m' l l' x.handed y.handed in
    let read = e.0 in
    let same : x.parsed ≡ y.parsed = cc in
    (x.none ∙ sym y.none, x.told ∙ ap numbers_of same ∙ sym y.told, e.1, e.2)

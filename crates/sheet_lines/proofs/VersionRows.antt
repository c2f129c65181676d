-- Laws of the versions' rows: what holds of each row holds of the row of every number.
use mathlib.Core.Path.{◌≡◌, refl}
use mathlib.Core.Logic.{inl, inr, ⊎_elim}
use mathlib.Core.List.{List, [], ◌∷◌}
use Prim.Native.Nat.{ℕ, zero, suc, ◌-◌, ◌≤◌}
use native.Mathlib.Omega.{arith}
use lib.ListN.{get_or}
use Rattle.meaning.specs.Limits.{log_limit}
use Rattle.meaning.specs.Theory.{stride}
use Rattle.sheet_lines.specs.Versions.{sheet1, versions, version_meant, Usable}
use Rattle.sheet_lines.specs.declared.Version.{Version}

-- it holds of each of them
abbrev pub Each : (Version → Type 0) → List Version → Type 0
Each P [] = Unit {0}
Each P (v ∷ vs) = P v × Each P vs

row_of : (P : Version → Type 0) (vs : List Version) (d : Version) → P d → Each P vs → (i : ℕ) → P (get_or vs i d)
row_of P [] d other each i = other
row_of P (v ∷ vs) d other each zero = each.0
row_of P (v ∷ vs) d other each (suc i) = row_of P vs d other each.1 i

pub of_each : (P : Version → Type 0) → Each P versions → (number : ℕ) → P (version_meant number)
of_each P each number = row_of P versions sheet1 each.0 each (number - 1)

-- every version's row can be read by
pub usable : (number : ℕ) → Usable (version_meant number)
usable =
    of_each Usable (
      record { rows = inl refl; short = omega arith },
      (
        record { rows = inl refl; short = omega arith },
        (
          record { rows = inr refl; short = omega arith },
          (record { rows = inr refl; short = omega arith }, tt),
        ),
      ),
    )

module _ (v : Version) (u : Usable v) where
  pub few_masks : v.masks ≤ stride
  few_masks = ⊎_elim (λ e. omega arith) (λ e. omega arith) u.rows

-- Its log is as long as a call's may be.
pub callable : (number : ℕ) → (version_meant number).log ≡ log_limit
callable = of_each (λ v. v.log ≡ log_limit) (refl, (refl, (refl, (refl, tt))))

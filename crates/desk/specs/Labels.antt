-- "a theory whose print k needs all lower labels": what the library is asked about. Fluent i is that label i + 1 is out.
use Rattle.std.specs.Prelude.{◌≡◌, cond, not, List, ℕ, ◌+◌, ◌-◌, ◌*◌, ◌^◌, ◌<◌, ltb, length, Option, Some, None}
use Rattle.laws.specs.Bit.{on, first_below}
use Rattle.meaning.specs.Theory.{Masks, stride}
use Rattle.meaning.specs.Four.{plain_masks}
use Rattle.theory.specs.Subject.{Subject, subject_of, setting_of, table_masks}
use Rattle.desk.specs.Log.{carton_limit, label_of, void_of}

-- the fluents of the labels below that of this action, in one mask
abbrev pub lower_of : ℕ → ℕ
lower_of action = 2 ^ action - 1

-- a print needs all lower labels, bans nothing, puts its own and drops nothing
abbrev pub print_masks : ℕ → Masks
print_masks action = plain_masks (lower_of action) 0 (2 ^ action) 0

-- "action C voids all"
abbrev pub void_masks : ℕ → Masks
void_masks cartons = plain_masks 0 0 0 (lower_of (void_of cartons))

pub record LabelTheory (cartons : ℕ) (masks : List ℕ) : Type 0 where
  pub table : length masks ≡ stride * (cartons + 1)
  pub prints : (action : ℕ) → action < cartons → table_masks masks action ≡ print_masks action
  pub voids : table_masks masks (void_of cartons) ≡ void_masks cartons

-- how many masks the table of the most cartons has
abbrev pub table_room : ℕ
table_room = stride * (carton_limit + 1)

-- what the library is asked of: no label is out at the start
abbrev pub desk_subject : ℕ → List ℕ → List ℕ → Subject
desk_subject cartons masks log = subject_of (setting_of cartons (cartons + 1) 0 0 0) masks log

-- the lowest label whose fluent is off, if one is
abbrev pub lowest_off : ℕ → ℕ → Option ℕ
lowest_off cartons state =
    let first = first_below cartons (λ i. not (on state i)) in
    cond (ltb first cartons) (Some (label_of first)) None

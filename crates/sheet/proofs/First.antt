-- Laws of the lines down to the start state: each leads on to the next.
use mathlib.Core.Path.{◌≡◌, sym, subst}
use mathlib.Core.Bool.{Bool, true, false}
use mathlib.Core.List.{List}
use Prim.Native.Nat.{ℕ, ◌+◌, ◌≤◌}
use native.Mathlib.Omega.{arith}
use Rattle.std.specs.Prelude.{Ok}
use Rattle.meaning.specs.Limits.{domain_limit}
use Rattle.sheet_lines.specs.Versions.{version_meant}
use Rattle.sheet_lines.specs.Forms.{version_form, fluents_form, actions_form, domain_form}
use Rattle.sheet_lines.specs.Found.{Accepts}
use Rattle.sheet_lines.specs.declared.Cursor.{Cursor}
use Rattle.sheet_lines.specs.declared.Version.{Version}
use Rattle.sheet.specs.Lines.{Lines, from_fluents, from_actions, from_domain, from_start, lines_of_sheet}
use Rattle.sheet.specs.Onward.{Onward}
use Rattle.sheet.specs.Sections.{ReadIf}
use Rattle.sheet.proofs.Order.{past_cursor, next_line, next_if}

-- how many values a variable has, is in range
pub few_values : (valued : Bool) (bytes : List ℕ) (above c : Cursor) → ReadIf valued domain_form bytes above (λ c. c.number) (Ok c) → c.number ≤ domain_limit
few_values true bytes above c read = read.0.says.in_range.1
few_values false bytes above c read =
    let none : record above { number = 0 } ≡ c = cc in
    subst (λ (k : Cursor). k.number ≤ domain_limit) none (omega arith)

module _ (bytes : List ℕ) (v : Version) (first : Cursor) (meant : v ≡ version_meant first.number) (one : Accepts version_form bytes 0 1 first.number first) where
  -- the sheet is read from the top down to this cursor, and these lines come next
  abbrev Leads : Lines → Cursor → Type 0
  Leads rest c = Onward lines_of_sheet bytes 0 1 rest (c.end + 1) (c.line + 1)

  pub to_fluents : Leads (from_fluents v) first
  to_fluents = subst (λ (v : Version). Leads (from_fluents v) first) (sym meant) (past_cursor version_form bytes 0 1 (λ number at. from_fluents (version_meant number)) first.number first one)

  module _ (fluents : Cursor) (two : Accepts fluents_form bytes (first.end + 1) (first.line + 1) fluents.number fluents) where
    pub to_actions : Leads (from_actions v fluents.number) fluents
    to_actions = next_line fluents_form (λ fluents at. from_actions v fluents) fluents.number fluents to_fluents two

    module _ (actions : Cursor) (three : Accepts actions_form bytes (fluents.end + 1) (fluents.line + 1) actions.number actions) where
      pub to_domain : Leads (from_domain v fluents.number actions.number) actions
      to_domain = next_line actions_form (λ actions at. from_domain v fluents.number actions) actions.number actions to_actions three

      pub to_start :
          (domain : Cursor) → ReadIf v.valued domain_form bytes actions (λ c. c.number) (Ok domain)
          → Leads (from_start v (record { fluents = fluents.number; actions = actions.number; domain = domain.number })) domain
      to_start domain read =
          next_if v.valued domain_form (λ domain. from_start v (record { fluents = fluents.number; actions = actions.number; domain = domain })) (λ c. c.number) actions domain to_domain read

-- Document 01, "The sheet", and document 02: how long the longest sheet of a version is, from the widths of its lines; and the longest of all.
use Rattle.std.specs.Prelude.{cond, List, [], ◌∷◌, ℕ, ◌+◌, ◌*◌, max}
use Rattle.meaning.specs.Limits.{action_limit}
use Rattle.theory.specs.declared.Counts.{Counts}
use Rattle.sheet_lines.specs.Line.{line_width}
use Rattle.sheet_lines.specs.Versions.{versions}
use Rattle.sheet_lines.specs.Forms.{version_form, fluents_form, actions_form, domain_form, start_form, act_form, log_form, now_form, ask_form, run_form, more_form}
use Rattle.sheet_lines.specs.declared.Version.{Version}

-- the width of a line does not depend on what the lines above say
abbrev pub any_counts : Counts
any_counts = record { fluents = 0; actions = 0; domain = 0 }

-- its lines at their widest, from the last up, with as many actions as there may be
abbrev pub more_width : ℕ
more_width = line_width more_form

abbrev pub run_width : ℕ
run_width = line_width (run_form any_counts) + more_width

abbrev pub ask_width : ℕ
ask_width = line_width (ask_form any_counts) + run_width

-- a line that the version may lack
abbrev pub now_width : Version → ℕ
now_width v = cond v.reading (line_width now_form) 0 + ask_width

abbrev pub log_width : Version → ℕ
log_width v = line_width (log_form v 0) + now_width v

abbrev pub acts_width : Version → ℕ
acts_width v = action_limit * line_width (act_form v 0) + log_width v

abbrev pub start_width : Version → ℕ
start_width v = line_width (start_form 0) + acts_width v

-- another
abbrev pub domain_width : Version → ℕ
domain_width v = cond v.valued (line_width domain_form) 0 + start_width v

abbrev pub actions_width : Version → ℕ
actions_width v = line_width actions_form + domain_width v

abbrev pub fluents_width : Version → ℕ
fluents_width v = line_width fluents_form + actions_width v

abbrev pub longest : Version → ℕ
longest v = line_width version_form + fluents_width v

abbrev pub longest_of : List Version → ℕ
longest_of [] = 0
longest_of (v ∷ vs) = max (longest v) (longest_of vs)

-- 1: "the sheet is longer than" this; "refusal 1 uses the largest limit of all versions"
abbrev pub sheet_limit : ℕ
sheet_limit = longest_of versions

-- From the sections to the whole sheet.
use mathlib.Core.Path.{◌≡◌, sym, ap, ◌∙◌}
use mathlib.Core.List.{List, ◌++◌}
use Prim.Native.Nat.{ℕ, ◌+◌, ◌*◌, ◌≤◌}
use lib.ListN.{length, take, drop, take-append-drop}
use lib.Seq.{length-take-le}
use native.Mathlib.Omega.{arith}
use Rattle.std.specs.Prelude.{Result, Ok, Err}
use Rattle.meaning.specs.Limits.{action_limit}
use Rattle.meaning.specs.Theory.{stride}
use Rattle.sheet.specs.Lines.{opened, from_log, lines_of_sheet}
use Rattle.sheet.specs.Answer.{fronted}
use Rattle.sheet_lines.specs.Ranged.{Ranged}
use Rattle.sheet.specs.Sections.{HeadIs, table_in, TableIs, LogFound, LinesFound}
use Rattle.sheet_lines.specs.declared.Cursor.{Cursor}
use Rattle.sheet.specs.declared.Head.{Head}
use Rattle.sheet.specs.declared.Parsed.{Parsed}
use Rattle.sheet_lines.specs.declared.Fault.{Fault}

-- a list whose front was written, the rest kept
pub front_written :
    (entry exit : List ℕ) (n : ℕ) → n ≤ length exit → drop n exit ≡ drop n entry → exit ≡ fronted (take n exit) entry
front_written entry exit n room back =
    sym (take-append-drop n exit)
    ∙ ap (λ (rest : List ℕ). take n exit ++ rest) (back ∙ ap (λ (k : ℕ). drop k entry) (sym (length-take-le n exit room)))

-- the lent table has room for their rows
pub room_for : (h : Head) → Ranged h.setting.counts → table_in h ≤ stride * action_limit
room_for h r = omega (arith, r.few_actions)

pub lines_found :
    (bytes : List ℕ) (h : Head) (masks masks' log log' : List ℕ) (c : Cursor) → HeadIs lines_of_sheet bytes 0 1 h → TableIs bytes h masks masks' c
    → table_in h ≤ length masks' → (answer : Result Parsed Fault)
    → LogFound (from_log h.version (opened h.setting (take (table_in h) masks'))) bytes (c.end + 1) (c.line + 1) (take (table_in h) masks') log log' answer
    → LinesFound bytes masks log answer masks' log'
lines_found bytes h masks masks' log log' c head acts room (Err f) m = head.onward.faults _ _ (acts.onward.faults _ _ m)
lines_found bytes h masks masks' log log' c head acts room (Ok p) m =
    record {
      sheet = m.sheet;
      reads = head.onward.reads _ (acts.onward.reads _ m.reads);
      told = m.told;
      filled =
          front_written masks masks' (table_in h) room acts.back
          ∙ ap (λ (table : List ℕ). fronted table masks) (sym m.about);
      logged = m.logged;
    }

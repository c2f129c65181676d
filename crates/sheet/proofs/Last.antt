-- Laws of the lines below those of the actions: each leads on to the next, and adds what it says to what the lines above say.
use mathlib.Core.Path.{◌≡◌, refl, sym, ap, ◌∙◌}
use mathlib.Core.List.{List}
use Prim.Native.Nat.{ℕ, ◌+◌, ◌≤◌}
use native.Mathlib.Omega.{arith}
use lib.ListN.{length, take, drop}
use lib.Seq.{length-take-le}
use Rattle.std.specs.Prelude.{Ok}
use Rattle.theory.specs.declared.Setting.{Setting}
use Rattle.spelling.specs.Scan.{stretch}
use Rattle.spelling.proofs.Stretch.{length_stretch}
use Rattle.sheet_lines.specs.Forms.{log_form, now_form, ask_form, run_form, more_form}
use Rattle.sheet_lines.specs.Found.{CursorAt, Accepts}
use Rattle.sheet_lines.specs.declared.Cursor.{Cursor}
use Rattle.sheet_lines.specs.declared.Stretch.{Stretch}
use Rattle.sheet_lines.specs.declared.Version.{Version}
use Rattle.sheet.specs.Lines.{Sheet, Lines, none, opened, and_log, and_reading, with_ask, with_run, with_more, from_more, from_run, from_ask, from_now, from_log}
use Rattle.sheet.specs.Answer.{placed, fronted}
use Rattle.sheet.specs.Onward.{Onward}
use Rattle.sheet.specs.Sections.{ReadIf, LogIs}
use Rattle.sheet.proofs.Order.{past_cursor, next_line, next_if, all_read}
use Rattle.sheet.proofs.Whole.{front_written}

-- the stretch of a cursor, and where its value stands
abbrev pub value_of : Cursor → Stretch
value_of c = record { start = c.start; end = c.end }

abbrev pub text_of : List ℕ → Cursor → List ℕ
text_of bytes c = stretch bytes c.start c.end

value_placed : {key bytes : List ℕ} {at line : ℕ} {c : Cursor} → CursorAt key bytes at line c → value_of c ≡ placed c.start (text_of bytes c)
value_placed {bytes = bytes} {c = c} s =
    let long = length_stretch bytes c.start c.end (omega (arith, s.within)) in
    let ends : c.end ≡ c.start + length (text_of bytes c) = omega (arith, s.onward, long) in
    λ i. record { start = c.start; end = ends i }

module _ (bytes : List ℕ) (v : Version) (setting : Setting) (masks : List ℕ) (above : Cursor) (log : List ℕ) (steps : Cursor)
    (logged : Accepts (log_form v setting.counts.actions) bytes (above.end + 1) (above.line + 1) log steps) where
  -- the log and the lines below it are read down to this cursor, and these lines come next
  abbrev Leads : Lines → Cursor → Type 0
  Leads rest c = Onward (from_log v (opened setting masks)) bytes (above.end + 1) (above.line + 1) rest (c.end + 1) (c.line + 1)

  -- what is said so far
  abbrev with_log : Sheet
  with_log = and_log (opened setting masks) log

  pub to_now : Leads (from_now v with_log) steps
  to_now = past_cursor (log_form v setting.counts.actions) bytes (above.end + 1) (above.line + 1) (λ log at. from_now v (and_log (opened setting masks) log)) log steps logged

  module _ (now : Cursor) (reading : ReadIf v.reading now_form bytes steps (λ c. c.number) (Ok now)) where
    abbrev with_reading : Sheet
    with_reading = and_reading with_log now.number

    pub to_ask : Leads (from_ask with_reading) now
    to_ask = next_if v.reading now_form (λ reading. from_ask (and_reading with_log reading)) (λ c. c.number) steps now to_now reading

    module _ (ask : Cursor) (asked : Accepts (ask_form setting.counts) bytes (now.end + 1) (now.line + 1) (text_of bytes ask) ask) where
      abbrev and_ask : Sheet
      and_ask = with_ask with_reading (text_of bytes ask) ask.start

      pub to_run : Leads (from_run and_ask) ask
      to_run = next_line (ask_form setting.counts) (λ ask at. from_run (with_ask with_reading ask at)) (text_of bytes ask) ask to_ask asked

      module _ (run : Cursor) (job : Accepts (run_form setting.counts) bytes (ask.end + 1) (ask.line + 1) (text_of bytes run) run) where
        abbrev and_run : Sheet
        and_run = with_run and_ask (text_of bytes run) run.start

        pub to_more : Leads (from_more and_run) run
        to_more = next_line (run_form setting.counts) (λ run at. from_more (with_run and_ask run at)) (text_of bytes run) run to_run job

        module _ (more : Cursor) (bound : Accepts more_form bytes (run.end + 1) (run.line + 1) more.number more) where
          abbrev said : Sheet
          said = with_more and_run more.number

          pub to_end : Leads (none said) more
          to_end = next_line more_form (λ more at. none (with_more and_run more)) more.number more to_more bound

          -- nothing follows the last line, and the steps stand at the front of the lent log
          pub all_said :
              (entry exit : List ℕ) (count : ℕ) → log ≡ take count exit → count ≤ length exit → drop count exit ≡ drop count entry → length bytes ≤ more.end + 1
              → LogIs (from_log v (opened setting masks)) bytes (above.end + 1) masks entry exit
              (record { setting = record setting { reading = now.number }; steps = count; ask = value_of ask; run = value_of run; more = more.number })
          all_said entry exit count is room back last =
              let steps : count ≡ length log = omega (arith, ap length is, length-take-le count exit room) in
              record {
                sheet = said;
                reads = to_end.reads said (all_read bytes (more.end + 1) said last);
                told = λ i.
                    record {
                      setting = said.subject.setting;
                      steps = steps i;
                      ask = value_placed asked.stands i;
                      run = value_placed job.stands i;
                      more = more.number;
                    };
                about = refl;
                logged = front_written entry exit count room back ∙ ap (λ (log : List ℕ). fronted log entry) (sym is);
              }

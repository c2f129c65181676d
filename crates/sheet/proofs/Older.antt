-- "Older sheets read as one unconditional clause and an empty one, same states": what a sheet of version 1 or 2 says has the states that document 01 gives its lines. And Q-7: "Sheets 1 to 3 mean
-- `step`."
use mathlib.Core.Path.{◌≡◌, refl, ap, ◌∙◌, subst, subst⁻¹}
use mathlib.Core.Bool.{false}
use mathlib.Core.List.{List, [], ◌++◌, append-nil, append_assoc}
use Prim.Native.Nat.{ℕ, zero, suc, ◌*◌, ◌<◌}
use native.Mathlib.Nat.{mul-zero, mul-suc}
use native.Mathlib.Omega.{arith}
use lib.ListN.{length, length-append}
use Rattle.meaning.specs.Four.{plain_stride}
use Rattle.theory.specs.Subject.{setting_of, subject_of, table_masks}
use Rattle.theory.specs.declared.Setting.{Setting}
use Rattle.theory.specs.Plain.{plain_rows}
use Rattle.theory.proofs.Plain.{rows_masks, rows_states}
use Rattle.sheet_lines.specs.Line.{Says}
use Rattle.sheet_lines.specs.Forms.{version_form}
use Rattle.sheet.specs.Lines.{Sheet, Lines, opened, rereading, and_log, and_reading, from_ask, act_lines, below_acts, from_log, from_start, ReadAs, SheetSays}
use Rattle.sheet_lines.specs.Versions.{version_meant, table_of}
use Rattle.sheet.specs.Older.{ActsSay, AsBefore}
use Rattle.sheet_lines.specs.declared.Version.{Version}
use Rattle.sheet.proofs.LineIf.{past_domain, past_now, no_now}
use Rattle.sheet_lines.proofs.Widen.{table_plain}
use Rattle.sheet_lines.proofs.Rows.{one_said}
use Rattle.sheet_lines.proofs.Forms.{number_clear}

-- the masks that the lines of the actions say, and what is read behind them
record Said (v : Version) (fluents actions : ℕ) (table : List ℕ) (next : List ℕ → Lines) (bytes : List ℕ) (at : ℕ) (sheet : Sheet) : Type 0 where
  masks : List ℕ
  said : ActsSay v bytes fluents at actions masks
  long : length masks ≡ v.masks * actions
  behind : ℕ
  reads : ReadAs (next (table ++ masks)) bytes behind sheet

acts_said :
    (v : Version) (fluents actions : ℕ) (table : List ℕ) (next : List ℕ → Lines) (bytes : List ℕ) (at : ℕ) (sheet : Sheet)
    → ReadAs (act_lines v fluents actions table next) bytes at sheet → Said v fluents actions table next bytes at sheet
unfolding ReadAs ActsSay
acts_said v fluents zero table next bytes at sheet r =
    record { masks = []; said = refl; long = simp mul-zero; behind = at; reads = rw append-nil r }
acts_said v fluents (suc actions) table next bytes at sheet r =
    let row = r.0 in
    let more = acts_said v fluents actions (table ++ row) next bytes _ sheet r.3 in
    let long : length row ≡ v.masks = r.1.in_range.long in
    record {
      masks = row ++ more.masks;
      said = (row, more.masks, refl, r.1, more.said);
      long = rw (length-append, long, more.long, mul-suc) (omega arith);
      behind = more.behind;
      reads = rw append_assoc at more.reads;
    }

-- the lines below leave the table as it is
last_masks :
    (v : Version) (setting : Setting) (masks bytes : List ℕ) (at : ℕ) (sheet : Sheet) → ReadAs (from_log v (opened setting masks)) bytes at sheet
    → (log : List ℕ) × (reading : ℕ) × (sheet.subject ≡ subject_of (rereading setting reading) masks log)
unfolding ReadAs
last_masks v setting masks bytes at sheet log =
    let read = past_now v.reading (λ reading. from_ask (and_reading (and_log (opened setting masks) log.0) reading)) bytes _ sheet log.3 in
    let more = read.reads.3.3 in
    (log.0, read.said, ap (λ (s : Sheet). s.subject) more.3.1)

-- a version whose lines have four masks
plain_version : (number : ℕ) → number < 3 → (version_meant number).masks ≡ plain_stride
plain_version zero h = refl
plain_version (suc zero) h = refl
plain_version (suc (suc zero)) h = refl
plain_version (suc (suc (suc n))) h = absurd (omega arith)

plain_as_before :
    (v : Version) (bytes : List ℕ) (setting : Setting) (four log : List ℕ) (at : ℕ) → v.masks ≡ plain_stride → length four ≡ v.masks * setting.counts.actions
    → ActsSay v bytes setting.counts.fluents at setting.counts.actions four → AsBefore v bytes (subject_of setting (table_of v setting.counts.actions four) log)
plain_as_before v bytes setting four log at plain long said =
    let actions = setting.counts.actions in
    let whole : length four ≡ plain_stride * actions = long ∙ ap (λ (n : ℕ). n * actions) plain in
    let table : table_of v actions four ≡ plain_rows four 0 actions = table_plain v actions four plain in
    record {
      four = four;
      at = at;
      said = said;
      masks = λ a. ap (λ (m : List ℕ). table_masks m a) table ∙ rows_masks four actions whole a;
      states = rows_states (subject_of setting (table_of v actions four) log) four actions whole table;
    }

pub as_before :
    (bytes : List ℕ) (sheet : Sheet) (number : ℕ) → number < 3 → Says version_form bytes 0 number → SheetSays bytes sheet → AsBefore (version_meant number) bytes sheet.subject
unfolding ReadAs
as_before bytes sheet number old says s =
    let same = one_said version_form bytes 0 (number_clear [] 1 _ _ (omega arith)) s.1.0 number s.1.1 says in
    let v = version_meant s.1.0 in
    let fluents = s.1.3 in
    let actions = fluents.3 in
    let valued =
    past_domain v.valued (λ domain. from_start v (record { fluents = fluents.0; actions = actions.0; domain = domain })) bytes _ sheet actions.3 in
    let start = valued.reads in
    let setting = setting_of fluents.0 actions.0 valued.said start.0 0 in
    let acts = acts_said v fluents.0 actions.0 [] (below_acts v setting) bytes _ sheet start.3 in
    let last = last_masks v setting (table_of v actions.0 acts.masks) bytes acts.behind sheet acts.reads in
    subst (λ (n : ℕ). AsBefore (version_meant n) bytes sheet.subject) same
    (subst⁻¹ (AsBefore v bytes) last.2 (plain_as_before v bytes (rereading setting last.1) acts.masks last.0 _ (plain_version s.1.0 (rw same old)) acts.long acts.said))

-- a version that has no line for the reading
without_reading : (number : ℕ) → number < 4 → (version_meant number).reading ≡ false
without_reading zero h = refl
without_reading (suc zero) h = refl
without_reading (suc (suc zero)) h = refl
without_reading (suc (suc (suc zero))) h = refl
without_reading (suc (suc (suc (suc n)))) h = absurd (omega arith)

last_step :
    (v : Version) (setting : Setting) (masks bytes : List ℕ) (at : ℕ) (sheet : Sheet) → v.reading ≡ false → ReadAs (from_log v (opened setting masks)) bytes at sheet
    → sheet.subject.setting.reading ≡ 0
unfolding ReadAs
last_step v setting masks bytes at sheet none log =
    let ask = no_now v.reading (λ reading. from_ask (and_reading (and_log (opened setting masks) log.0) reading)) bytes _ sheet none log.3 in
    ap (λ (s : Sheet). s.subject.setting.reading) ask.3.3.3.1

pub means_step : (bytes : List ℕ) (sheet : Sheet) (number : ℕ) → number < 4 → Says version_form bytes 0 number → SheetSays bytes sheet → sheet.subject.setting.reading ≡ 0
unfolding ReadAs
means_step bytes sheet number old says s =
    let same = one_said version_form bytes 0 (number_clear [] 1 _ _ (omega arith)) s.1.0 number s.1.1 says in
    let v = version_meant s.1.0 in
    let fluents = s.1.3 in
    let actions = fluents.3 in
    let valued =
    past_domain v.valued (λ domain. from_start v (record { fluents = fluents.0; actions = actions.0; domain = domain })) bytes _ sheet actions.3 in
    let start = valued.reads in
    let setting = setting_of fluents.0 actions.0 valued.said start.0 0 in
    let acts = acts_said v fluents.0 actions.0 [] (below_acts v setting) bytes _ sheet start.3 in
    last_step v setting (table_of v actions.0 acts.masks) bytes acts.behind sheet (without_reading s.1.0 (rw same old)) acts.reads

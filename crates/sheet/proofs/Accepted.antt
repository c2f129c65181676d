-- An accepted sheet is legal: its counts are in range, its table has ten masks an action, no mask names a fluent that the theory lacks, its log is
-- good, and its rules are rules of their kinds without fault.
use mathlib.Core.Path.{◌≡◌, sym, ap, ◌∙◌, subst}
use mathlib.Core.Logic.{◌⊎◌, inl, inr, ⊎_elim}
use mathlib.Core.Bool.{true}
use mathlib.Core.List.{List, [], ◌∷◌, ◌++◌}
use Prim.Native.Nat.{ℕ, zero, suc, ◌+◌, ◌-◌, ◌*◌, ◌<◌}
use native.Mathlib.Decide.{dec_lt}
use native.Mathlib.Nat.{mul-zero, mul-suc}
use native.Mathlib.Omega.{arith}
use lib.ListN.{length, get_or, length-append, get_or-append}
use lib.Seq.{get_or-append-add}
use Rattle.meaning.specs.Limits.{log_limit}
use Rattle.meaning.specs.Theory.{stride}
use Rattle.meaning.specs.Rule.{Kind}
use Rattle.meaning.specs.Refusal.{Accepted, NamesLacking, OneLacking, BadLog}
use Rattle.meaning.proofs.Refusal.{accepts, passes, not_first, not_rest}
use Rattle.rule.specs.Outcome.{rule_rows}
use Rattle.sheet_lines.specs.Line.{Judge, Form, Says, judge_rows, line_rows}
use Rattle.sheet_lines.specs.Forms.{start_form, act_form, rule_form}
use Rattle.sheet.specs.Lines.{Sheet, Lines, opened, and_log, and_reading, from_ask, act_lines, below_acts, from_log, from_start, ReadAs, SheetSays}
use Rattle.sheet_lines.specs.Versions.{version_meant, table_of}
use Rattle.sheet_lines.specs.declared.Version.{Version}
use Rattle.sheet_lines.specs.Ranged.{Ranged}
use Rattle.theory.specs.Subject.{setting_of}
use Rattle.theory.specs.Rows.{CountsOut}
use Rattle.theory.specs.declared.Counts.{Counts}
use Rattle.theory.specs.declared.Setting.{Setting}
use Rattle.sheet.specs.Legal.{Legal}
use Rattle.sheet_lines.proofs.VersionRows.{usable, callable}
use Rattle.sheet_lines.proofs.Widen.{table_long, table_known}
use Rattle.sheet.proofs.LineIf.{past_domain, past_now}
use Rattle.sheet_lines.proofs.Rows.{Clean}
use Rattle.sheet_lines.proofs.RuleLine.{counts_good}

-- what an accepted line says has none of its form's faults
clean_of :
    (form : Form) (bytes : List ℕ) (at : ℕ) (said : form.Value) → Says form bytes at said → Accepted (line_rows form bytes at)
    → Clean form.judges said
clean_of form bytes at said says acc = go form.judges (not_rest (not_rest acc))
  where
    go : (judges : List {1} (Judge form.Value)) → Accepted (judge_rows form bytes at judges) → Clean judges said
    go [] a = tt
    go (judge ∷ judges) a = (λ bad. not_first a (record { said = said; says = says; fault = bad }), go judges (not_rest a))

-- a mask of two tables put together is one of the first or one of the second
lacking_split : (fluents : ℕ) (a b : List ℕ) → OneLacking fluents (a ++ b) → OneLacking fluents a ⊎ OneLacking fluents b
lacking_split fluents a b h = go (dec_lt h.place (length a))
  where
    there : h.place < length a + length b
    there = subst (λ (n : ℕ). h.place < n) (length-append a b) h.there

    go : Dec (h.place < length a) → OneLacking fluents a ⊎ OneLacking fluents b
    go (yes l) =
        inl (record { place = h.place; there = l; lacks = subst (NamesLacking fluents) (get_or-append a b 0 h.place l) h.lacks })
    go (no l) =
        let k = h.place - length a in
        let at : h.place ≡ length a + k = omega arith in
        inr
        (record {
          place = k;
          there = omega (arith, there);
          lacks = subst (NamesLacking fluents) (ap (λ (n : ℕ). get_or (a ++ b) n 0) at ∙ get_or-append-add a b k 0) h.lacks;
        })

-- the table that the lines of the actions leave
record Table (v : Version) (fluents actions : ℕ) (table : List ℕ) (next : List ℕ → Lines) (bytes : List ℕ) (sheet : Sheet) : Type 0 where
  masks : List ℕ
  long : length masks ≡ length table + v.masks * actions
  known : OneLacking fluents masks → ⊥
  at : ℕ
  reads : ReadAs (next masks) bytes at sheet

acts_table :
    (v : Version) (fluents actions : ℕ) (table : List ℕ) (next : List ℕ → Lines) (bytes : List ℕ) (at : ℕ) (sheet : Sheet)
    → (OneLacking fluents table → ⊥) → ReadAs (act_lines v fluents actions table next) bytes at sheet → Table v fluents actions table next bytes sheet
unfolding ReadAs
acts_table v fluents zero table next bytes at sheet known r =
    record { masks = table; long = simp mul-zero (omega arith); known = known; at = at; reads = r }
acts_table v fluents (suc actions) table next bytes at sheet known r =
    let row = r.0 in
    let more =
    acts_table v fluents actions (table ++ row) next bytes _ sheet
    (λ h. ⊎_elim known (clean_of (act_form v fluents) bytes at row r.1 r.2).0 (lacking_split fluents table row h))
    r.3 in
    let long : length row ≡ v.masks = r.1.in_range.long in
    record {
      masks = more.masks;
      long = more.long ∙ rw (length-append, long, mul-suc) (omega arith);
      known = more.known;
      at = more.at;
      reads = more.reads;
    }

-- a rule line's text has no refusal as a rule either
rule_of :
    (key : List ℕ) (kind : Kind) (counts : Counts) (bytes : List ℕ) (at : ℕ) (text : List ℕ) → (CountsOut counts → ⊥)
    → Says (rule_form key kind counts) bytes at text → Accepted (line_rows (rule_form key kind counts) bytes at)
    → Accepted (rule_rows true kind text counts)
rule_of key kind counts bytes at text good says acc =
    let clean = clean_of (rule_form key kind counts) bytes at text says acc in
    passes good (passes says.in_range (passes clean.0 (passes clean.1.0 (passes clean.1.1.0 (passes clean.1.1.1.0 accepts)))))

-- what the head and the table say, and the lines below, make a legal sheet
last_legal :
    (v : Version) (setting : Setting) (masks bytes : List ℕ) (at : ℕ) (sheet : Sheet) → v.log ≡ log_limit → Ranged setting.counts
    → (NamesLacking setting.counts.fluents setting.start → ⊥) → length masks ≡ stride * setting.counts.actions
    → (OneLacking setting.counts.fluents masks → ⊥) → ReadAs (from_log v (opened setting masks)) bytes at sheet → Legal sheet
unfolding ReadAs
last_legal v setting masks bytes at sheet call ranged known long none-lacks log =
    let read = past_now v.reading (λ reading. from_ask (and_reading (and_log (opened setting masks) log.0) reading)) bytes _ sheet log.3 in
    let ask = read.reads in
    let run = ask.3 in
    let more = run.3 in
    let good = counts_good setting.counts ranged in
    let actions = setting.counts.actions in
    let short = subst (λ (n : ℕ). BadLog n actions log.0 → ⊥) call log.1.in_range in
    subst Legal (sym more.3.1)
    (record {
      world =
          passes (⊎_elim (⊎_elim good (λ bad. omega (arith, bad, read.good))) (λ bad. bad long)) (passes (⊎_elim known none-lacks) (passes short accepts));
      ask = rule_of _ _ setting.counts bytes _ ask.0 good ask.1 ask.2;
      run = rule_of _ _ setting.counts bytes _ run.0 good run.1 run.2;
      more = λ bad. omega (arith, bad, more.1.in_range.1);
    })

pub legal : (bytes : List ℕ) (sheet : Sheet) → SheetSays bytes sheet → Legal sheet
unfolding ReadAs
legal bytes sheet s =
    let number = s.1.0 in
    let v = version_meant number in
    let fluents = s.1.3 in
    let actions = fluents.3 in
    let valued =
    past_domain v.valued (λ domain. from_start v (record { fluents = fluents.0; actions = actions.0; domain = domain })) bytes _ sheet actions.3 in
    let start = valued.reads in
    let setting = setting_of fluents.0 actions.0 valued.said start.0 0 in
    let t =
    acts_table v fluents.0 actions.0 [] (below_acts v setting) bytes _ sheet (λ h. absurd (omega (arith, h.there)))
    start.3 in
    last_legal v setting (table_of v actions.0 t.masks) bytes t.at sheet (callable number)
    (record {
      few_fluents = fluents.1.in_range.1;
      some_actions = actions.1.in_range.0;
      few_actions = actions.1.in_range.1;
      few_values = valued.good;
    })
    (clean_of (start_form fluents.0) bytes _ start.0 start.1 start.2).0
    (table_long v (usable number) actions.0 t.masks (omega (arith, t.long)))
    (table_known v (usable number) actions.0 t.masks fluents.0 t.known)
    t.reads

-- The desk's answers through the library's own calls: asked about the theory of the labels, `possible` gives the verdict on a print, and `state` the labels that are
-- out. Rests on what the calls' statements say, and on no proof behind them.
use mathlib.Core.Path.{◌≡◌, refl, sym, ap, subst}
use mathlib.Core.Logic.{◌↔◌, ◌⊎◌, inl, inr, ⊎_elim}
use mathlib.Core.Bool.{Bool, true, not}
use mathlib.Core.List.{List, [], ◌∷◌, ◌++◌}
use mathlib.Core.Option.{Option}
use Prim.Native.Nat.{ℕ, ◌+◌, ◌-◌, ◌≤◌, ◌<◌}
use native.Mathlib.Decide.{dec_lt}
use native.Mathlib.Omega.{arith}
use borrow.Author.Tests.{lt-ltb, le-ltb, not-true, not-false}
use lib.ListN.{length, get_or}
use Rattle.laws.specs.Bit.{on, first_below}
use Rattle.laws.proofs.On.{on_none}
use Rattle.laws.proofs.First.{first_le, first_found, first_least}
use Rattle.laws.proofs.Truth.{off_on}
use Rattle.std.specs.Prelude.{None}
use Rattle.meaning.specs.Theory.{state_before}
use Rattle.meaning.specs.Refusal.{Row, ◌when◌, Accepted, Refused}
use Rattle.meaning.proofs.Refusal.{here, past, passes, accepts, accepted_parts, refused_behind, not_first}
use Rattle.theory.specs.Subject.{setting_of, world_of}
use Rattle.theory.specs.Rows.{theory_rows, log_rows, position_rows}
use Rattle.theory.specs.Answer.{StateAnswered}
use Rattle.theory.specs.Possible.{asked_rows, PossibleAnswered}
use Rattle.exported.specs.Exported.{slot_of}
use Rattle.desk.specs.Log.{carton_limit, step_limit, label_of, Out}
use Rattle.desk.specs.Answer.{BadCartons, BadLabel, BadSteps, PrintAnswered, NextIs, NextAnswered}
use Rattle.desk.specs.Labels.{LabelTheory, desk_subject, lowest_off}
use Rattle.desk.proofs.Outs.{on_out, possible_print}
use Rattle.desk.proofs.Table.{all_low}

-- so many cartons there are, at most
pub few_cartons : (cartons : ℕ) → (BadCartons cartons → ⊥) → cartons ≤ carton_limit
few_cartons cartons right = let many : ¬ (carton_limit < cartons) = λ h. right (inr h) in omega arith

-- and a label of theirs is one of theirs
pub some_label : (cartons label : ℕ) → (BadLabel cartons label → ⊥) → 1 ≤ label
some_label cartons label listed = let none : ¬ (label < 1) = λ h. listed (inl h) in omega arith

module _ (cartons : ℕ) (masks log : List ℕ) (right : BadCartons cartons → ⊥) (labels : LabelTheory cartons masks) where
  few : cartons ≤ carton_limit
  few = few_cartons cartons right

  -- the library's rows, of the theory and of the log
  abbrev theory : List {1} Row
  theory = theory_rows (setting_of cartons (cartons + 1) 0 0 0) masks

  abbrev logged : List {1} Row
  logged = log_rows (desk_subject cartons masks log)

  -- the library has nothing against the theory
  sound : Accepted theory
  sound =
      let most = few in
      passes
      (⊎_elim
      (⊎_elim (⊎_elim (⊎_elim (λ h. omega arith) (⊎_elim (λ h. omega arith) (λ h. omega arith))) (λ h. omega arith)) (λ h. omega arith))
      (λ other. other labels.table))
      (passes
      (⊎_elim
      (λ lacks. off_on (on_none lacks.fluent) lacks.named)
      (λ one. omega (arith, one.lacks.lacking, all_low cartons masks labels one.place one.there one.lacks.fluent one.lacks.named)))
      accepts)

  -- Of a log that is short enough it has a step against, if anything; what is asked of the log's end is never refused.
  module _ (short : length log ≤ step_limit) where
    log_refused : (behind : List {1} Row) {number : ℕ} → (Refused behind number → ⊥)
        → Refused (logged ++ behind) number → (number ≡ 5) × BadSteps cartons log
    log_refused behind never refused =
        ⊎_elim
        (λ h. (h.0, ⊎_elim (λ long. absurd (omega arith)) inr h.1))
        (λ h. absurd (never (record { first = h.1 })))
        refused.first

    known : Accepted logged → (k : ℕ) → k < length log → get_or log k 0 ≤ cartons
    known accepted k h =
        let unknown : ¬ (cartons + 1 ≤ get_or log k 0) = λ l. not_first accepted (inr (record { place = k; there = h; lacking = l })) in
        omega arith

    fine : Accepted logged → BadSteps cartons log → ⊥
    fine accepted = ⊎_elim (λ long. omega arith) (λ strange. not_first accepted (inr strange))

    -- the number of a refusal, and the rows that it passes over
    refuses : {given : Type 0} {number : ℕ} → (given → ⊥) → (number ≡ 5) × BadSteps cartons log
        → Refused ((3 when given) ∷ ((5 when BadSteps cartons log) ∷ [])) number
    refuses passed (e, bad) = rw e (past passed (here bad))

    -- the state as labels: the lowest that is off is the lowest that is not out
    lowest_off_law : ((k : ℕ) → k < length log → get_or log k 0 ≤ cartons)
        → let state = state_before (world_of (desk_subject cartons masks log)) (length log) in NextIs cartons log (lowest_off cartons state)
    lowest_off_law steps = elim (dec_lt first cartons) [
      | yes there ↦
          rw (lt-ltb first cartons there)
          (record {
            above = omega arith;
            within = omega arith;
            missing = λ out. off_on (not-true (on state first) (first_found cartons off there)) ((is-out first there).1 out);
            lowest = λ lower h l. out lower h (omega arith) (omega arith);
          })
      | no all ↦ rw (le-ltb first cartons (omega arith)) (λ label h l. out label h l (omega (arith, first_le cartons off)))
    ]
      where
        state : ℕ
        state = state_before (world_of (desk_subject cartons masks log)) (length log)

        off : ℕ → Bool
        off i = not (on state i)

        first : ℕ
        first = first_below cartons off

        is-out : (i : ℕ) → i < cartons → (on state i ≡ true) ↔ Out cartons log (label_of i)
        is-out i l = on_out cartons masks log few labels steps (length log) i (omega arith) l

        out : (label : ℕ) → 1 ≤ label → label ≤ cartons → label ≤ first → Out cartons log label
        out label h l f =
            let same : label_of (label - 1) ≡ label = omega arith in
            subst (Out cartons log) same ((is-out (label - 1) (omega arith)).0 (not-false (on state (label - 1)) (first_least cartons off (label - 1) (omega arith))))

    -- the verdict is the possibility of printing the label
    module _ (label : ℕ) (listed : BadLabel cartons label → ⊥) where
      abbrev asked : List {1} Row
      asked = asked_rows (desk_subject cartons masks log) (label - 1) (length log)

      index_in_range : BadCartons cartons ⊎ BadLabel cartons label → ⊥
      index_in_range = ⊎_elim right listed

      few-labels : label ≤ cartons
      few-labels = let many : ¬ (cartons < label) = λ h. listed (inr h) in omega arith

      never : {number : ℕ} → Refused asked number → ⊥
      never refused =
          let few = few-labels in
          ⊎_elim (λ h. omega (arith, h.1)) (λ h. ⊎_elim (λ late. omega (arith, late.1)) (λ more. more.1) h.1) refused.first

      pub print-told : {number : ℕ} {verdict : Option Bool}
          → PossibleAnswered (desk_subject cartons masks log) (label - 1) (length log) number verdict → PrintAnswered cartons log label number (slot_of verdict)
      print-told (inl r) =
          inl (record { refused = refuses index_in_range (log_refused asked never (refused_behind theory (logged ++ asked) sound r.refused)); blank = ap slot_of r.blank })
      print-told (inr a) =
          let sound-log = (accepted_parts logged asked (accepted_parts theory (logged ++ asked) a.accepted).1).0 in
          let same = possible_print cartons masks log few labels (known sound-log) label (some_label cartons label listed) few-labels in
          inr (record {
            none = a.none;
            accepted = passes index_in_range (passes (fine sound-log) accepts);
            right =
                ⊎_elim
                (λ able. inl (ap slot_of able.0, same.0 able.1))
                (λ unable. inr (ap slot_of unable.0, λ may. unable.1 (same.1 may)))
                a.right;
          })

    -- the state at the log's end has the labels that are out
    abbrev end : List {1} Row
    end = position_rows (desk_subject cartons masks log) (length log)

    within : {number : ℕ} → Refused end number → ⊥
    within refused = ⊎_elim (λ late. omega (arith, late.1)) (λ more. more.1) refused.first

    pub lowest_refused : {number state : ℕ} → StateAnswered (desk_subject cartons masks log) (length log) number state → (number ≡ 0 → ⊥)
        → NextAnswered cartons log number None
    lowest_refused (inl r) given = inl (record { refused = refuses right (log_refused end within (refused_behind theory (logged ++ end) sound r.refused)); blank = refl })
    lowest_refused (inr a) given = absurd (given a.none)

    pub lowest_told : {state : ℕ} → StateAnswered (desk_subject cartons masks log) (length log) 0 state → NextAnswered cartons log 0 (lowest_off cartons state)
    lowest_told (inl r) = absurd (omega (arith, (log_refused end within (refused_behind theory (logged ++ end) sound r.refused)).0))
    lowest_told {state} (inr a) =
        let sound-log = (accepted_parts logged end (accepted_parts theory (logged ++ end) a.accepted).1).0 in
        inr (record {
          none = refl;
          accepted = passes right (passes (fine sound-log) accepts);
          right = subst (λ (s : ℕ). NextIs cartons log (lowest_off cartons s)) (sym a.right) (lowest_off_law (known sound-log));
        })

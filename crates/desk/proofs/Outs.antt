-- What the theory of the labels says of a log: a label's fluent is on exactly if the label is out, and a print is possible exactly if the packers' sentence has it
-- so. Knows the meaning of a theory and the desk's specs; no call and no code.
use mathlib.Core.Path.{◌≡◌, sym, ap, subst, ◌∙◌}
use mathlib.Core.Logic.{◌↔◌, ◌⊎◌, inl, inr, ⊎_elim}
use mathlib.Core.Bool.{true, false, ◌||◌, and-true, and-false}
use mathlib.Core.List.{List}
use Prim.Native.Nat.{ℕ, zero, suc, ◌-◌, ◌^◌, ◌≤◌, ◌<◌}
use native.Mathlib.Decide.{ℕ_discrete}
use native.Mathlib.Numerals.{add-one}
use native.Mathlib.Omega.{arith}
use borrow.Author.Tests.{ltb-true, lt-ltb, eqb-true, eq-eqb}
use lib.Dec.{eqb}
use lib.ListN.{length, get_or}
use Rattle.laws.specs.Bit.{on}
use Rattle.laws.proofs.On.{on_none}
use Rattle.laws.proofs.Shift.{on_pow, on_ones}
use Rattle.laws.proofs.Truth.{off_on, or_iff}
use Rattle.meaning.specs.Limits.{fluent_limit}
use Rattle.meaning.specs.Theory.{Possible, World, after, state_before}
use Rattle.meaning.proofs.Theory.{state_start, state_step}
use Rattle.meaning.proofs.Effects.{plain_bit}
use Rattle.theory.specs.Subject.{table_masks, world_of}
use Rattle.desk.specs.Log.{carton_limit, label_of, OutAt, MayPrint}
use Rattle.desk.specs.Labels.{lower_of, print_masks, void_masks, LabelTheory, desk_subject}

-- a fluent after a print, and after the void
on_printed : (a state i : ℕ) → i < fluent_limit → on (after (print_masks a) state) i ≡ (eqb i a || on state i)
on_printed a state i h = plain_bit (lower_of a) 0 (2 ^ a) 0 state i h ∙ rw (on_pow, on_none, and-true)

on_voided : (cartons state i : ℕ) → i < fluent_limit → i < cartons → on (after (void_masks cartons) state) i ≡ false
on_voided cartons state i h l = plain_bit 0 0 0 (lower_of cartons) state i h ∙ rw (on_none, on_ones, lt-ltb i cartons l, and-false)

module _ (cartons : ℕ) (log : List ℕ) where
  -- one step more: a print of the label, a print of any, a void
  printed_now : (p i : ℕ) → get_or log p 0 ≡ i → OutAt cartons log (suc p) (label_of i)
  printed_now p i e = record { step = p; there = omega arith; printed = ap label_of e; since = λ later a b. absurd (omega arith) }

  still_out : {p label : ℕ} → ¬ (get_or log p 0 ≡ cartons) → OutAt cartons log p label → OutAt cartons log (suc p) label
  still_out {p} print o =
      let there = o.there in
      record {
        step = o.step;
        there = omega arith;
        printed = o.printed;
        since = λ later a b e. elim (ℕ_discrete later p) [
          | yes same ↦ print (sym (ap (λ (k : ℕ). get_or log k 0) same) ∙ e)
          | no other ↦ o.since later a (omega arith) e
        ];
      }

  -- and back: the print was at the last step, or the label was out before it and the step is no void
  out_before : (p i : ℕ) → OutAt cartons log (suc p) (label_of i) → (get_or log p 0 ≡ i) ⊎ (¬ (get_or log p 0 ≡ cartons) × OutAt cartons log p (label_of i))
  out_before p i o = elim (ℕ_discrete o.step p) [
    | yes last ↦
        let printed : label_of (get_or log p 0) ≡ label_of i = sym (ap (λ (k : ℕ). label_of (get_or log k 0)) last) ∙ o.printed in
        inl (omega arith)
    | no earlier ↦
        let there = o.there in
        inr (
          o.since p (omega arith) (omega arith),
          record { step = o.step; there = omega arith; printed = o.printed; since = λ later a b. o.since later a (omega arith) },
        )
  ]

-- A log whose steps are prints and voids, under a theory of so many labels.
module _ (cartons : ℕ) (masks log : List ℕ) (few : cartons ≤ carton_limit) (labels : LabelTheory cartons masks)
    (known : (k : ℕ) → k < length log → get_or log k 0 ≤ cartons) where
  abbrev world : World
  world = world_of (desk_subject cartons masks log)

  -- one step: what it does to a label's fluent is what it does to the label
  on_step : (p i : ℕ) → p < length log → i < cartons → (on (state_before world p) i ≡ true) ↔ OutAt cartons log p (label_of i)
      → (on (after (table_masks masks (get_or log p 0)) (state_before world p)) i ≡ true) ↔ OutAt cartons log (suc p) (label_of i)
  on_step p i h l before = elim (ℕ_discrete (get_or log p 0) cartons) [
    | yes e ↦ (
      λ b. absurd (off_on (void e) b),
      λ o. absurd (⊎_elim (λ now. omega arith) (λ old. old.0 e) (out_before cartons log p i o)),
    )
    | no other ↦ (
      λ b.
          ⊎_elim
          (λ t. printed_now cartons log p i (sym (eqb-true i (get_or log p 0) t)))
          (λ t. still_out cartons log other (before.0 t))
          ((or_iff (eqb i (get_or log p 0)) (on (state_before world p) i)).0 (sym (print other) ∙ b)),
      λ o.
          print other
          ∙ (or_iff (eqb i (get_or log p 0)) (on (state_before world p) i)).1
          (⊎_elim (λ now. inl (eq-eqb i (get_or log p 0) (sym now))) (λ old. inr (before.1 old.1)) (out_before cartons log p i o)),
    )
  ]
    where
      print : ¬ (get_or log p 0 ≡ cartons) → on (after (table_masks masks (get_or log p 0)) (state_before world p)) i ≡ (eqb i (get_or log p 0) || on (state_before world p) i)
      print other =
          rw (labels.prints (get_or log p 0) (omega (arith, known p h)))
          (on_printed (get_or log p 0) (state_before world p) i (omega arith))

      void : get_or log p 0 ≡ cartons → on (after (table_masks masks (get_or log p 0)) (state_before world p)) i ≡ false
      void e = rw (e, labels.voids) (on_voided cartons (state_before world p) i (omega arith) l)

  -- a label's fluent is on exactly if the label is out
  pub on_out : (p i : ℕ) → p ≤ length log → i < cartons → (on (state_before world p) i ≡ true) ↔ OutAt cartons log p (label_of i)
  on_out zero i h l = (
    λ b. absurd (off_on (on_none i) (sym (ap (λ (s : ℕ). on s i) (state_start world)) ∙ b)),
    λ o. absurd (omega (arith, o.there)),
  )
  on_out (suc p) i h l =
      let stepped : state_before world (suc p) ≡ after (table_masks masks (get_or log p 0)) (state_before world p) = subst (λ (n : ℕ). state_before world n ≡ after (table_masks masks (get_or log p 0)) (state_before world p)) (add-one p) (state_step world p (omega arith)) in
      subst (λ (s : ℕ). (on s i ≡ true) ↔ OutAt cartons log (suc p) (label_of i)) (sym stepped) (on_step p i (omega arith) l (on_out p i (omega arith) l))

  -- a label above 0 is that of the action one below it
  labelled : (label : ℕ) → 1 ≤ label → label_of (label - 1) ≡ label
  labelled label h = omega arith

  pub out_on : (label : ℕ) → 1 ≤ label → label ≤ cartons
      → (on (state_before world (length log)) (label - 1) ≡ true) ↔ OutAt cartons log (length log) label
  out_on label h l = rw (labelled label h) at (on_out (length log) (label - 1) (omega arith) (omega arith))

  -- printing k is possible exactly if each lower label is out
  pub possible_print : (label : ℕ) → 1 ≤ label → label ≤ cartons
      → Possible (table_masks masks (label - 1)) (state_before world (length log)) ↔ MayPrint cartons log label
  possible_print label h l = rw (labels.prints (label - 1) (omega arith)) (
    λ able lower low below. (out_on lower low (omega arith)).0 (able.needed (lower - 1) (on_ones (label - 1) (lower - 1) ∙ lt-ltb (lower - 1) (label - 1) (omega arith))),
    λ may. record {
      needed = λ i b.
          let below : i < label - 1 = ltb-true i (label - 1) (sym (on_ones (label - 1) i) ∙ b) in
          (on_out (length log) i (omega arith) (omega arith)).1 (may (label_of i) (omega arith) (omega arith));
      banned = λ i b. absurd (off_on (on_none i) b);
    },
  )

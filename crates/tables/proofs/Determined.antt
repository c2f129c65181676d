-- Any two tables that a contract allows are equal.
use mathlib.Core.Path.{◌≡◌, sym, subst, ◌∙◌}
use mathlib.Core.Logic.Iff
use mathlib.Core.Logic.{◌↔◌, inl, inr}
use mathlib.Core.Bool.{Bool, true}
use mathlib.Core.List.{List}
use Prim.Native.Nat.{ℕ, ◌+◌, ◌-◌, ◌<◌}
use native.Mathlib.Decide.{dec_lt}
use native.Mathlib.Omega.{arith}
use lib.ListN.{length, get_or}
use lib.Seq.{ext_get_or}
use Rattle.laws.specs.Bit.{on}
use Rattle.laws.proofs.On.{same_bits}
use Rattle.laws.proofs.Truth.{same_truth}
use Rattle.meaning.specs.Limits.{fluent_limit, action_limit}
use Rattle.meaning.specs.Theory.{World}
use Rattle.tables.specs.Tables.{action_rows, fluent_rows, possible_row, row_count, row_holds, among_holds, action_holds, fluent_holds, Describes, Noted, Reversed, Toggled}
use Rattle.tables.proofs.Marks.{among}

-- two tables whose rows hold the same are equal
same_table : (l k : List ℕ) → length l ≡ length k → ((r q : ℕ) → r < length l → (row_holds l r q ≡ true) ↔ (row_holds k r q ≡ true)) → l ≡ k
unfolding row_holds
same_table l k room bits =
    ext_get_or 0 l k room
    (λ r h. same_bits (get_or l r 0) (get_or k r 0) (λ q. same_truth (on (get_or l r 0) q) (on (get_or k r 0) q) (bits r q h).0 (bits r q h).1))

-- it is enough to say so of the actions' rows, of the fluents' and of the last
same_rows : (l k : List ℕ) → length l ≡ row_count → length k ≡ row_count → ((a q : ℕ) → (action_holds l a q ≡ true) ↔ (action_holds k a q ≡ true))
    → ((i q : ℕ) → (fluent_holds l i q ≡ true) ↔ (fluent_holds k i q ≡ true)) → ((q : ℕ) → (row_holds l possible_row q ≡ true) ↔ (row_holds k possible_row q ≡ true)) → l ≡ k
same_rows l k room room' actions fluents possible = same_table l k (room ∙ sym room') each
  where
    both : (first many n q : ℕ) → n < many → (among_holds l first many n q ≡ true) ↔ (among_holds k first many n q ≡ true)
        → (row_holds l (first + n) q ≡ true) ↔ (row_holds k (first + n) q ≡ true)
    both first many n q low f = (
      λ h. ((among k first many n q).0 (f.0 ((among l first many n q).1 (low, h)))).1,
      λ h. ((among l first many n q).0 (f.1 ((among k first many n q).1 (low, h)))).1,
    )

    each : (r q : ℕ) → r < length l → (row_holds l r q ≡ true) ↔ (row_holds k r q ≡ true)
    each r q h = elim (dec_lt r fluent_rows) [
      | yes low ↦
          let e : action_rows + r ≡ r = omega arith in
          subst (λ (s : ℕ). (row_holds l s q ≡ true) ↔ (row_holds k s q ≡ true)) e (both action_rows action_limit r q low (actions r q))
      | no high ↦ elim (dec_lt r possible_row) [
        | yes mid ↦
            let e : fluent_rows + (r - fluent_rows) ≡ r = omega arith in
            subst (λ (s : ℕ). (row_holds l s q ≡ true) ↔ (row_holds k s q ≡ true)) e (both fluent_rows fluent_limit (r - fluent_rows) q (omega arith) (fluents (r - fluent_rows) q))
        | no last ↦ let e : possible_row ≡ r = omega arith in subst (λ (s : ℕ). (row_holds l s q ≡ true) ↔ (row_holds k s q ≡ true)) e (possible q)
      ]
    ]

-- a world has one table
pub tables_determined : (w : World) (rows rows' : List ℕ) → Describes w rows → Describes w rows' → rows ≡ rows'
tables_determined w rows rows' d d' =
    same_rows rows rows' d.room d'.room (λ a q. Iff.trans (d.taken a q) (Iff.symm (d'.taken a q))) (λ i q. Iff.trans (d.shown i q) (Iff.symm (d'.shown i q)))
    (λ q. Iff.trans (d.possible q) (Iff.symm (d'.possible q)))

-- and each mark in it
pub note_determined : (old new new' : List ℕ) (a p : ℕ) (able : Bool) → Noted old new a p able → Noted old new' a p able → new ≡ new'
note_determined old new new' a p able x y =
    same_table new new' (x.room ∙ sym y.room) (λ r q h. Iff.trans (x.bits r q) (Iff.symm (y.bits r q)))

equal : {a b : Bool} → a ≡ b → (a ≡ true) ↔ (b ≡ true)
equal e = (λ h. sym e ∙ h, λ h. e ∙ h)

pub turn_determined : (old new new' : List ℕ) (changed places : ℕ) → length old ≡ row_count → Reversed old new changed places → Reversed old new' changed places → new ≡ new'
turn_determined old new new' changed places room x y =
    same_rows new new' (x.room ∙ room) (y.room ∙ room)
    (λ a q. both a q (λ low. x.others (action_rows + a) q (inl (omega arith)) ∙ sym (y.others (action_rows + a) q (inl (omega arith)))))
    (λ i q. equal (x.shown i q ∙ sym (y.shown i q)))
    (λ q. equal (x.others possible_row q (inr (omega arith)) ∙ sym (y.others possible_row q (inr (omega arith)))))
  where
    both : (a q : ℕ) → (a < fluent_rows → row_holds new (action_rows + a) q ≡ row_holds new' (action_rows + a) q) → (action_holds new a q ≡ true) ↔ (action_holds new' a q ≡ true)
    both a q same = (
      λ h. let u = (among new action_rows action_limit a q).0 h in (among new' action_rows action_limit a q).1 (u.0, sym (same u.0) ∙ u.1),
      λ h. let u = (among new' action_rows action_limit a q).0 h in (among new action_rows action_limit a q).1 (u.0, same u.0 ∙ u.1),
    )

pub toggle_determined : (old new new' : List ℕ) (a p behind : ℕ) → length old ≡ row_count → Toggled old new a p behind → Toggled old new' a p behind → new ≡ new'
toggle_determined old new new' a p behind room x y =
    same_rows new new' (x.room ∙ room) (y.room ∙ room)
    (λ b q. equal (x.taken b q ∙ sym (y.taken b q)))
    (λ i q. equal (x.shown i q ∙ sym (y.shown i q)))
    (λ q. equal (x.possible q ∙ sym (y.possible q)))

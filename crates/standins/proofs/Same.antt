-- When two clauses, and two actions, are alike: the law of the word operations, and that one that is like another is like all that are like it. Knows words and masks.
use mathlib.Core.Path.{◌≡◌, refl, sym, ap, ◌∙◌}
use mathlib.Core.Bool.{Bool, true, false, not, ◌&&◌, ◌||◌, xor}
use Prim.Native.Nat.{ℕ, ◌-◌, ◌^◌, ◌<◌}
use native.Mathlib.Decide.{dec_lt}
use native.Mathlib.Omega.{arith}
use lib.Bits.{bit_and, bit_or, bit_xor}
use borrow.Author.Tests.{lt-ltb, le-ltb}
use Rattle.laws.specs.Bit.{on}
use Rattle.laws.proofs.Truth.{off_on, and_iff, neither, no_truth}
use Rattle.laws.proofs.On.{on_none, on_high, same_bits}
use Rattle.laws.proofs.Bitwise.{on_and, on_or, on_xor}
use Rattle.laws.proofs.Shift.{on_not}
use Rattle.meaning.specs.Limits.{action_limit, fluent_limit}
use Rattle.meaning.specs.Theory.{Clause, Masks, clause_of}
use Rattle.meaning.specs.StandIn.{SameClause, Alike, StandsIn}
use Rattle.standins.specs.Worth.{others}
use Rattle.standins.proofs.Words.{others_lack, word_holds}

-- two truths that do not differ are one
one_truth : (a b : Bool) → xor a b ≡ false → a ≡ b
unfolding xor
one_truth true true h = refl
one_truth true false h = h
one_truth false true h = sym h
one_truth false false h = refl

no_difference : (a b : Bool) → a ≡ b → xor a b ≡ false
unfolding xor
no_difference true true e = refl
no_difference true false e = e
no_difference false true e = sym e
no_difference false false e = refl

and_off : (a : Bool) → (a && false) ≡ false
and_off true = refl
and_off false = refl

and_on : (a : Bool) → (a && true) ≡ a
and_on true = refl
and_on false = refl

-- nothing that matters is put by one alone, or dropped by one alone
module _ (put drop put' drop' matter : ℕ) (fits : put < 2 ^ fluent_limit) (fits' : put' < 2 ^ fluent_limit) (small : matter < 2 ^ action_limit) where
  abbrev Dropped : ℕ → ℕ → ℕ
  Dropped d p = bit_and d (2 ^ fluent_limit - 1 - p)

  abbrev Differ : ℕ
  Differ = bit_or (bit_xor put put') (bit_xor (Dropped drop put) (Dropped drop' put'))

  -- what is put is not dropped; a state has no further fluents
  gone : (d p i : ℕ) → p < 2 ^ fluent_limit → i < fluent_limit → on (Dropped d p) i ≡ (on d i && not (on p i))
  gone d p i l low = rw (on_and, on_not fluent_limit l i, lt-ltb i fluent_limit low)

  none_there : (d p i : ℕ) → p < 2 ^ fluent_limit → (i < fluent_limit → ⊥) → on (Dropped d p) i ≡ false
  none_there d p i l high = rw (on_and, on_not fluent_limit l i, le-ltb i fluent_limit (omega (arith, high))) (and_off (on d i))

  -- of a fluent that matters
  parts : (i : ℕ) → bit_and Differ matter ≡ 0 → on matter i ≡ true → (on put i ≡ on put' i) × (on (Dropped drop put) i ≡ on (Dropped drop' put') i)
  parts i none held =
      let off : on Differ i ≡ false = no_truth (on Differ i) (λ e. off_on (on_none i) (sym (ap (λ (n : ℕ). on n i) none) ∙ on_and Differ matter i ∙ (and_iff (on Differ i) (on matter i)).1 (e, held))) in
      let two = neither (on (bit_xor put put') i) (on (bit_xor (Dropped drop put) (Dropped drop' put')) i) (sym (on_or (bit_xor put put') (bit_xor (Dropped drop put) (Dropped drop' put')) i) ∙ off) in (
        one_truth (on put i) (on put' i) (sym (on_xor put put' i) ∙ two.0),
        one_truth (on (Dropped drop put) i) (on (Dropped drop' put') i) (sym (on_xor (Dropped drop put) (Dropped drop' put') i) ∙ two.1),
      )

  pub effects_alike : bit_and Differ matter ≡ 0 → (when unless : ℕ) → SameClause (others matter) (clause_of when unless put drop) (clause_of when unless put' drop')
  effects_alike none when unless = record {
    when = refl;
    unless = refl;
    put = λ i l e. (parts i none (word_holds matter i small (omega arith) e)).0;
    drop = λ i l e p.
        let both = parts i none (word_holds matter i small (omega arith) e) in
        sym (kept drop put i fits l p) ∙ both.1 ∙ kept drop' put' i fits' l (sym both.0 ∙ p);
  }
    where
      -- what is not put is dropped as drop says
      kept : (d p i : ℕ) → p < 2 ^ fluent_limit → i < fluent_limit → on p i ≡ false → on (Dropped d p) i ≡ on d i
      kept d p i l low h = gone d p i l low ∙ rw h (and_on (on d i))

  -- and the other way
  pub alike_effects : (when unless : ℕ) → SameClause (others matter) (clause_of when unless put drop) (clause_of when unless put' drop') → bit_and Differ matter ≡ 0
  alike_effects when unless same = same_bits (bit_and Differ matter) 0 (λ i. no_truth (on (bit_and Differ matter) i) (λ e.
      let both = (and_iff (on Differ i) (on matter i)).0 (sym (on_and Differ matter i) ∙ e) in
      off_on (quiet i both.1) both.0) ∙ sym (on_none i))
    where
      either-off : (a b : Bool) → a ≡ false → b ≡ false → (a || b) ≡ false
      either-off a b e f = rw (e, f)

      one-drop : (d d' p p' : Bool) → p ≡ p' → (p ≡ false → d ≡ d') → (d && not p) ≡ (d' && not p')
      one-drop d d' true p' e f = and_off d ∙ sym (rw (← e) (and_off d'))
      one-drop d d' false p' e f = and_on d ∙ f refl ∙ sym (rw (← e) (and_on d'))

      differ-off : (i : ℕ) → on put i ≡ on put' i → on (Dropped drop put) i ≡ on (Dropped drop' put') i → on Differ i ≡ false
      differ-off i e f =
          on_or (bit_xor put put') (bit_xor (Dropped drop put) (Dropped drop' put')) i
          ∙ either-off (on (bit_xor put put') i) (on (bit_xor (Dropped drop put) (Dropped drop' put')) i)
          (on_xor put put' i ∙ no_difference (on put i) (on put' i) e)
          (on_xor (Dropped drop put) (Dropped drop' put') i ∙ no_difference (on (Dropped drop put) i) (on (Dropped drop' put') i) f)

      quiet : (i : ℕ) → on matter i ≡ true → on Differ i ≡ false
      quiet i held = elim (dec_lt i fluent_limit) [
        | yes l ↦
            let idle = others_lack matter i held in
            let e : on put i ≡ on put' i = same.put i l idle in
            differ-off i e (gone drop put i fits l ∙ one-drop (on drop i) (on drop' i) (on put i) (on put' i) e (same.drop i l idle) ∙ sym (gone drop' put' i fits' l))
        | no l ↦ differ-off i (on_high fluent_limit fits (omega arith) ∙ sym (on_high fluent_limit fits' (omega arith))) (none_there drop put i fits l ∙ sym (none_there drop' put' i fits' l))
      ]

-- one that is like another, which is like a third
clause_onward : (idle : ℕ) (a b c : Clause) → SameClause idle a b → SameClause idle b c → SameClause idle a c
clause_onward idle a b c x y = record {
  when = x.when ∙ y.when;
  unless = x.unless ∙ y.unless;
  put = λ i l e. x.put i l e ∙ y.put i l e;
  drop = λ i l e off. x.drop i l e off ∙ y.drop i l e (sym (x.put i l e) ∙ off);
}

alike_onward : (idle : ℕ) (a b c : Masks) → Alike idle a b → Alike idle b c → Alike idle a c
alike_onward idle a b c x y = record {
  need = x.need ∙ y.need;
  ban = x.ban ∙ y.ban;
  one = clause_onward idle a.one b.one c.one x.one y.one;
  two = clause_onward idle a.two b.two c.two x.two y.two;
}

-- so with a stand-in's stand-in
pub stands_onward : (masks : ℕ → Masks) (unnamed idle a b c : ℕ) → StandsIn masks unnamed idle a b → StandsIn masks unnamed idle b c → StandsIn masks unnamed idle a c
stands_onward masks unnamed idle a b c x y =
    record { smaller = omega (arith, x.smaller, y.smaller); apart = x.apart; spared = y.spared; alike = alike_onward idle (masks a) (masks b) (masks c) x.alike y.alike }

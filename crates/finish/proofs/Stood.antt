-- The actions that a smaller one stands in for: what the search has of the word that tells them. Knows words and masks.
use mathlib.Core.Path.{◌≡◌, ◌∙◌}
use mathlib.Core.Logic.{inl, ⊎_elim}
use mathlib.Core.Bool.{true}
use mathlib.Core.List.{List, ◌∷◌, ◌++◌}
use Prim.Native.Nat.{ℕ, ◌+◌, ◌*◌, ◌≤◌, ◌<◌}
use native.Mathlib.Decide.{dec_lt}
use native.Mathlib.Omega.{arith}
use lib.Bits.{bit_or}
use lib.ListN.{length, length-append, get_or, get_or-eq_default}
use Rattle.laws.specs.Bit.{on}
use Rattle.laws.proofs.Truth.{off_on, or_iff}
use Rattle.laws.proofs.On.{on_none, on_high}
use Rattle.laws.proofs.Bitwise.{on_or}
use Rattle.meaning.specs.Limits.{action_limit}
use Rattle.meaning.specs.Theory.{as_job, stride}
use Rattle.meaning.specs.Rule.{Walk, plain}
use Rattle.meaning.specs.StandIn.{among, NamesNone, Decides, Idle, StandsIn}
use Rattle.meaning.proofs.StandIn.{stand_in_leads, stand_in_able}
use Rattle.meaning.proofs.Measured.{or_right}
use Rattle.theory.specs.Subject.{subject_of, table_masks, world_of}
use Rattle.theory.specs.declared.Setting.{Setting}
use Rattle.standins.specs.Worth.{Table, others, Behind, Decisive, LeftOut, Worth}
use Rattle.standins.proofs.Words.{others_lack}
use Rattle.finish.specs.Spared.{StoodIn, Spared}
use Rattle.finish.specs.Sound.{JobIs}
use Rattle.finish.proofs.Names.{names_none}

-- with a stand-in in its place, what completes the job does so still
pub stand_in_completes : (s : Setting) (masks : List ℕ) (x : Walk) (unnamed idle a b : ℕ) → Idle (table_masks masks) idle → NamesNone unnamed idle x
    → StandsIn (table_masks masks) unnamed idle a b → StoodIn s masks x b
stand_in_completes s masks x unnamed idle a b quiet none h = record {
  by = a;
  smaller = h.smaller;
  completes = λ log rest c.
      let w = world_of (subject_of s masks log) in
      let long : length (log ++ b ∷ rest) ≡ length (log ++ a ∷ rest) = simp length-append in
      record {
        able = stand_in_able w unnamed idle quiet w.actions a b h _ rest c.able;
        done = rw (← long) (stand_in_leads (as_job w) unnamed idle quiet x none a b h log rest _ _ _ c.done);
      };
}

-- a fluent of no condition of the table
pub idle_others : (masks : List ℕ) (actions fluents decide : ℕ) → Table actions masks → Decisive masks actions decide → Idle (table_masks masks) (others (bit_or fluents decide))
idle_others masks actions fluents decide table d a i h = others_lack (bit_or fluents decide) i (or_right fluents decide i (elim (dec_lt a actions) [
  | yes l ↦ (d.each i).1 (a, l, h)
  | no l ↦ absurd (beyond (omega arith) h)
]))
  where
    blank : (k : ℕ) → stride * actions ≤ k → on (get_or masks k 0) i ≡ true → ⊥
    blank k high = off_on (rw (get_or-eq_default masks 0 {n = k} (omega arith)) (on_none i))

    beyond : actions ≤ a → Decides (table_masks masks a) i → ⊥
    beyond high =
        ⊎_elim (⊎_elim (blank (stride * a) (omega arith)) (blank (stride * a + 1) (omega arith)))
        (⊎_elim (⊎_elim (blank (stride * a + 2) (omega arith)) (blank (stride * a + 2 + 1) (omega arith)))
        (⊎_elim (blank (stride * a + 6) (omega arith)) (blank (stride * a + 6 + 1) (omega arith))))

-- so is every action that is left out
left_out_stood : (s : Setting) (masks job : List ℕ) (b : ℕ) → Table s.counts.actions masks → LeftOut s.counts.actions masks job b → (x : Walk) → JobIs job x → StoodIn s masks x b
left_out_stood s masks job b table out x j =
    stand_in_completes s masks x (others out.labels) (others matter) out.stood.0 b
    (idle_others masks s.counts.actions out.fluents out.decide table out.known.decides)
    (names_none job (among (others out.labels)) (among (others matter)) act_none fluent_none out.unsummed.each 0 x j.there) out.stood.1
  where
    matter : ℕ
    matter = bit_or out.fluents out.decide

    unheld : (word n : ℕ) → on word n ≡ true → among (others word) (plain n) ≡ 0
    unheld word n h = rw (others_lack word n h)

    beyond : (word n : ℕ) → action_limit ≤ n → among (others word) (plain n) ≡ 0
    beyond word n high = rw (on_high action_limit {n = others word} (omega arith) high)

    act_none : (at n : ℕ) → at < length job → Behind job 97 114 at n → among (others out.labels) (plain n) ≡ 0
    act_none at n low h = elim (dec_lt n action_limit) [
      | yes l ↦ unheld out.labels n ((out.known.acts.each n).1 (l, (at, low, h)))
      | no l ↦ beyond out.labels n (omega arith)
    ]

    fluent_none : (at n : ℕ) → at < length job → Behind job 102 102 at n → among (others matter) (plain n) ≡ 0
    fluent_none at n low h = elim (dec_lt n action_limit) [
      | yes l ↦ unheld matter n (on_or out.fluents out.decide n ∙ (or_iff (on out.fluents n) (on out.decide n)).1 (inl ((out.known.shows.each n).1 (l, (at, low, h)))))
      | no l ↦ beyond matter n (omega arith)
    ]

pub worth_spared : (s : Setting) (masks job : List ℕ) (worth : ℕ) → Table s.counts.actions masks → Worth s.counts.actions masks job worth → Spared s masks job worth
worth_spared s masks job worth table w =
    record { each = λ x j b low off. left_out_stood s masks job b table ((w.each b (omega (arith, table.few))).0 off) x j }

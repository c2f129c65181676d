-- The search on its trail, an arm of the code at a time: the log and what is tried stand in the trail's first n places, and what is found behind them.
-- All the mathematics of the search's recursion; knows no code.
use mathlib.Core.Path.{◌≡◌, refl, sym, ap, subst, subst⁻¹, ◌∙◌}
use mathlib.Core.Logic.{◌⊎◌, inl, inr, ◌↔◌}
use mathlib.Core.Bool.{Bool, true, false, ◌&&◌, false≢true}
use mathlib.Core.List.{List, [], ◌∷◌, ◌++◌}
use Prim.Native.Nat.{ℕ, suc, ◌+◌, ◌/◌, ◌%◌, ◌^◌, ◌≤◌, ◌<◌}
use native.Mathlib.Decide.{ℕ_discrete}
use native.Mathlib.Numerals.{add-one}
use native.Mathlib.Omega.{arith}
use lib.Bits.{bit_and}
use lib.ListN.{length, get_or, take, drop, set, length-set}
use lib.Seq.{drop-cons, get_or-set_same, get_or-take, length-take-le, take-suc-set, take-set-le, take-take}
use Rattle.laws.specs.Bit.{on}
use Rattle.laws.proofs.Truth.{and_iff}
use Rattle.laws.proofs.Bitwise.{on_and}
use Rattle.meaning.specs.Limits.{log_limit}
use Rattle.meaning.specs.Theory.{now_step, World, Possible, Masks, after, as_job, run, state_before}
use Rattle.meaning.specs.Rule.{Walk}
use Rattle.meaning.specs.Leads.{Leads}
use Rattle.meaning.proofs.Theory.{run_append, state_end}
use Rattle.meaning.specs.Lengths.{allows}
use Rattle.theory.specs.Subject.{subject_of, table_masks, world_of}
use Rattle.tables.specs.Tables.{Describes, Toggled}
use Rattle.tables.proofs.Transposed.{described_owning}
use Rattle.tables.proofs.Toggled.{toggled_on, toggled_off}
use Rattle.theory.specs.declared.Setting.{Setting}
use Rattle.finish.specs.Search.{stands, Ended, FirstOf, NoneOf, Allows, Tries}
use Rattle.finish.specs.Sound.{JobIs, Logged, Ready, Shown}
use Rattle.standins.proofs.Words.{bit_on}
use Rattle.runs.specs.Values.{unbound}
use Rattle.ask.specs.Asked.{EndTold}
use Rattle.runs.specs.Found.{Tabled}
use Rattle.runs.proofs.Bound.{bears_none}
use Rattle.finish.specs.Lengths.{Guided}
use Rattle.finish.specs.Found.{NextTold, OneLength, LengthTold}
use Rattle.finish.specs.Spared.{Spared}
use Rattle.finish.proofs.Sound.{logged_more}
use Rattle.finish.proofs.LeftOut.{allows_grown, next_tries}
use Rattle.finish.proofs.Lengths.{first_empty, none_empty, NoneAfter, none_after, first_more, none_more}

-- an action that is asked for and worth trying, or not both
pub asked_on : (asked worthy a : ℕ) → bit_and asked worthy / 2 ^ a % 2 ≡ 1 → on asked a ≡ true
asked_on asked worthy a h = ((and_iff (on asked a) (on worthy a)).0 (sym (on_and asked worthy a) ∙ bit_on _ a h)).0

neither_on : (asked worthy a : ℕ) → on (bit_and asked worthy) a ≡ false → (on asked a ≡ false) ⊎ (on worthy a ≡ false)
neither_on asked worthy a h = go (on asked a) (on worthy a) (sym (on_and asked worthy a) ∙ h)
  where
    go : (p q : Bool) → (p && q) ≡ false → (p ≡ false) ⊎ (q ≡ false)
    go true q e = inr e
    go false q e = inl refl

-- one place more of the trail
grown_trail : (trail now : List ℕ) (n a : ℕ) → n < length now → take n now ≡ take n trail → take (n + 1) (set now n a) ≡ take n trail ++ a ∷ []
grown_trail trail now n a room same = rw (add-one, take-suc-set, same)

-- the state behind one step more
run_snoc : (masks : ℕ → Masks) (start : ℕ) (l : List ℕ) (a : ℕ) → run masks start (l ++ a ∷ []) ≡ after (masks a) (run masks start l)
unfolding run
run_snoc masks start l a = run_append masks start l (a ∷ [])

module _ (s : Setting) (masks job : List ℕ) where
  abbrev At : List ℕ → World
  At log = world_of (subject_of s masks log)

  -- no action below a has a rest of k actions that completes the job
  abbrev pub Passed : List ℕ → ℕ → ℕ → Type 0
  Passed log k a = (x : Walk) → JobIs job x → (b : ℕ) → b < a → NoneAfter k (At log) x b

  passed_more : (log : List ℕ) (k a : ℕ) (x : Walk) → ((b : ℕ) → b < a → NoneAfter k (At log) x b) → NoneAfter k (At log) x a
      → (b : ℕ) → b < a + 1 → NoneAfter k (At log) x b
  passed_more log k a x less one b h = elim (ℕ_discrete b a) [
    | yes e ↦ subst (λ (i : ℕ). NoneAfter k (At log) x i) (sym e) one
    | no e ↦ less b (omega arith)
  ]

  -- a sequence of no action
  pub leaf_told : (trail rows : List ℕ) (n : ℕ) (answer : Bool) → length (take n trail) ≡ n → length (take n trail) ≤ log_limit → Describes (At (take n trail)) rows
      → EndTold job s.counts.domain s.reading rows n answer → LengthTold s masks job trail n 0 trail answer
  leaf_told trail rows n answer full short described told = record { kept = refl; each = λ x j. go x answer (whole x (told.each (as_job (At (take n trail))) tabled x j.there)) }
    where
      tabled : Tabled (as_job (At (take n trail))) rows (unbound s.counts.domain 0 s.reading) n
      tabled = record {
        described = described_owning (At (take n trail)) now_step described;
        logged = omega (arith, full);
        room = short;
        bears = bears_none (as_job (At (take n trail))) refl 0 s.reading refl refl;
      }

      whole : (x : Walk) → (answer ≡ true) ↔ Leads (as_job (At (take n trail))) x 0 n n → (answer ≡ true) ↔ Ended (At (take n trail)) x (take n trail)
      whole x = subst (λ (e : ℕ). (answer ≡ true) ↔ Leads (as_job (At (take n trail))) x 0 e e) (sym full)

      go : (x : Walk) (b : Bool) → (b ≡ true) ↔ Ended (At (take n trail)) x (take n trail) → OneLength b 0 (At (take n trail)) x []
      go x true e = first_empty (At (take n trail)) x (e.0 refl)
      go x false e = none_empty (At (take n trail)) x (λ h. false≢true (e.1 h))

  -- what is tried with k actions to follow
  abbrev pub Tried : List ℕ → ℕ → ℕ → Type 0
  Tried log k asked = (x : Walk) → JobIs job x → Tries (At log) x k asked

  pub tried : {log follow : List ℕ} {left k asked : ℕ} → left ≡ suc k → Guided (subject_of s masks log) job follow left
      → NextTold (allows follow k) (subject_of s masks log) job asked → Tried log k asked
  tried {log} {follow} {k = k} {asked = asked} one guided told x j = next_tries (At log) x follow k asked (omega (arith, guided.few)) (guided.told.each x j) (told.each x j)

  -- an action that is left out: nothing finishes behind it, or a smaller one, gone over already, stands in for it
  pub passed_out : (log : List ℕ) (k a asked worthy : ℕ) → Tried log k asked → Spared s masks job worthy → a < s.counts.actions
      → on (bit_and asked worthy) a ≡ false → Passed log k a → Passed log k (a + 1)
  passed_out log k a asked worthy told worth known off passed x j =
      passed_more log k a x (passed x j) (λ rest e c. elim (neither_on asked worthy a off) [
        | inl f ↦ (told x j).leaves a f rest e c
        | inr f ↦ let h = worth.each x j a known f in passed x j h.by h.smaller rest e (h.completes log rest c)
      ])

  -- the table serves with one action more
  pub guided_more : (trail now follow : List ℕ) (n left k a asked : ℕ) → left ≡ suc k → n < length now → take n now ≡ take n trail
      → Guided (subject_of s masks (take n trail)) job follow left → Tried (take n trail) k asked → on asked a ≡ true
      → Guided (subject_of s masks (take (n + 1) (set now n a))) job follow k
  guided_more trail now follow n left k a asked one room same guided told here = record {
    few = omega (arith, guided.few);
    told = record {
      each = λ x j.
          let able = (told x j).possible a here in
          subst (λ (l : List ℕ). Allows (At l) x follow) (sym (grown_trail trail now n a room same))
          (allows_grown (At (take n trail)) x follow a able.0 able.1 (guided.told.each x j));
    };
  }

  -- an action that is tried, and nothing is found behind it
  pub passed_tried : (trail now last : List ℕ) (n k a : ℕ) → n < length now → take n now ≡ take n trail
      → LengthTold s masks job (set now n a) (n + 1) k last false → Passed (take n trail) k a → Passed (take n trail) k (a + 1)
  passed_tried trail now last n k a room same told passed x j =
      passed_more (take n trail) k a x (passed x j)
      (none_after k (At (take n trail)) x a
      (subst (λ (l : List ℕ). NoneOf k (At l) x) (grown_trail trail now n a room same) (told.each x j)))

  -- what stands in the trail after an action that is tried
  pub kept_tried : (trail now last : List ℕ) (n a : ℕ) → n < length now → take n now ≡ take n trail → take (n + 1) last ≡ take (n + 1) (set now n a)
      → take n last ≡ take n trail
  kept_tried trail now last n a room same kept =
      sym (take-take n (n + 1) last (omega arith)) ∙ ap (take n) kept ∙ take-take n (n + 1) (set now n a) (omega arith) ∙ take-set-le n now n a (omega arith) ∙ same

  -- the action itself, and what is found behind it
  behind_tried : (now last : List ℕ) (n k a : ℕ) → n < length now → length last ≡ length now → take (n + 1) last ≡ take (n + 1) (set now n a)
      → take (suc k) (drop n last) ≡ a ∷ take k (drop (n + 1) last)
  behind_tried now last n k a room long kept =
      let here : get_or last n 0 ≡ a = sym (get_or-take (n + 1) last n 0 (omega arith)) ∙ ap (λ (l : List ℕ). get_or l n 0) kept
      ∙ get_or-take (n + 1) (set now n a) n 0 (omega arith) ∙ get_or-set_same now n a 0 room in
      rw (drop-cons last n 0 (omega arith), here, add-one)

  pub tried_told : (trail now last : List ℕ) (n left k a asked : ℕ) → left ≡ suc k → n < length now → length last ≡ length now → take n now ≡ take n trail
      → Tried (take n trail) k asked → on asked a ≡ true → Passed (take n trail) k a
      → LengthTold s masks job (set now n a) (n + 1) k last true → LengthTold s masks job trail n left last true
  tried_told trail now last n left k a asked one room long same next here passed told = record {
    kept = kept_tried trail now last n a room same told.kept;
    each = λ x j.
        let able = (next x j).possible a here in
        rw (one, behind_tried now last n k a room long told.kept)
        (first_more k (At (take n trail)) x a (take k (drop (n + 1) last)) able.0 able.1 (passed x j)
        (subst (λ (l : List ℕ). FirstOf k (At l) x (take k (drop (n + 1) last))) (grown_trail trail now n a room same) (told.each x j)));
  }

  -- every action is gone over
  pub none_told : (trail now : List ℕ) (n left k : ℕ) → left ≡ suc k → take n now ≡ take n trail → Passed (take n trail) k s.counts.actions
      → LengthTold s masks job trail n left now false
  none_told trail now n left k one same passed =
      record { kept = same; each = λ x j. rw one (none_more k (At (take n trail)) x (passed x j)) }

module _ (s : Setting) (masks trail now : List ℕ) (n a behind state : ℕ) (room : n < length now) (same : take n now ≡ take n trail) (full : length (take n trail) ≡ n)
    (able : Possible (table_masks masks a) (stands (world_of (subject_of s masks (take n trail))))) (here : state ≡ stands (world_of (subject_of s masks (take n trail))))
    (next : behind ≡ after (table_masks masks a) state) where
  abbrev old_world : World
  old_world = world_of (subject_of s masks (take n trail))

  stood : state_before old_world n ≡ stands old_world
  stood = ap (state_before old_world) (sym full) ∙ state_end old_world

  can : Possible (table_masks masks a) (state_before old_world n)
  can = subst⁻¹ (Possible (table_masks masks a)) stood able

  then_state : behind ≡ after (table_masks masks a) (state_before old_world n)
  then_state = next ∙ ap (after (table_masks masks a)) (here ∙ sym stood)

  -- a step put on the rows, and the state behind it
  pub shown_more : {rows more : List ℕ} → Describes old_world rows → Toggled rows more a n behind
      → Shown (world_of (subject_of s masks (take (n + 1) (set now n a)))) more behind
  shown_more {rows} {more} d t =
      subst (λ (l : List ℕ). Shown (world_of (subject_of s masks l)) more behind) (sym (grown_trail trail now n a room same))
      (record {
        described = toggled_on old_world a n behind (sym full) can then_state d t;
        here = next ∙ ap (after (table_masks masks a)) here ∙ sym (run_snoc (table_masks masks) s.start (take n trail) a);
      })

  -- and taken off again
  pub shown_less : {rows fewer : List ℕ} → Describes (world_of (subject_of s masks (take (n + 1) (set now n a)))) rows → Toggled rows fewer a n behind → Describes old_world fewer
  shown_less {rows} {fewer} d t =
      toggled_off old_world a n behind (sym full) can then_state
      (subst (λ (l : List ℕ). Describes (world_of (subject_of s masks l)) rows) (grown_trail trail now n a room same) d) t

-- the trail has all of its first n places, and one behind them
pub whole : {actions n left : ℕ} {masks job ends trail : List ℕ} → Ready actions masks job ends trail n left → length (take n trail) ≡ n
whole {n = n} {trail = trail} r = length-take-le n trail (omega (arith, r.room, r.fits))

pub place : {actions n left : ℕ} {masks job ends trail : List ℕ} (now : List ℕ) → Ready actions masks job ends trail n left → length now ≡ length trail → n < length now
place now r long = omega (arith, r.room, r.fits)

-- what the search asks, of the trail with one action more
pub ready_more : (actions : ℕ) (masks job ends trail now : List ℕ) (n left k a : ℕ) → left ≡ suc k → Ready actions masks job ends trail n left
    → length now ≡ length trail → take n now ≡ take n trail → a < actions → Ready actions masks job ends (set now n a) (n + 1) k
ready_more actions masks job ends trail now n left k a one r long same known =
    let room : n < length now = omega arith in
    let full : length (take n trail) ≡ n = length-take-le n trail (omega arith) in
    record {
      node = record {
        logged = subst (Logged actions masks) (sym (grown_trail trail now n a room same))
            (logged_more actions masks (take n trail) a r.node.logged (omega arith) known);
        stands = r.node.stands;
      };
      room = length-set now n a ∙ long ∙ r.room;
      fits = omega arith;
    }

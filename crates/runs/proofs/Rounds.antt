-- The evaluator's two loops over the text: what a star holds between two rounds, and a `?` between two turns, with what is kept; and what is kept of them
-- at their end.
use mathlib.Core.Path.{◌≡◌, refl, sym, subst, ◌∙◌}
use mathlib.Core.Logic.{◌⊎◌, inl, inr, ⊎_elim}
use mathlib.Core.Bool.{Bool, true, false, not, ◌&&◌, ◌||◌}
use mathlib.Core.List.{List}
use Prim.Native.Nat.{ℕ, ◌+◌}
use native.Mathlib.Omega.{arith}
use lib.ListN.{length, get_or}
use Rattle.laws.proofs.Truth.{off_on, true_or_false, and_iff, or_iff, implies_iff}
use Rattle.meaning.specs.Theory.{World}
use Rattle.meaning.specs.Rule.{Walk, Test, star, of_walk, of_test, walk_text, test_text}
use Rattle.meaning.specs.Leads.{Holds, Here, Chain, own_now, stay, link}
use Rattle.grammar.specs.Standing.{Stands, Ends}
use Rattle.grammar.proofs.Spread.{Spread, spread, star_at, check_at, some_text}
use Rattle.runs.specs.Image.{Set, UpTo, Image, Way}
use Rattle.runs.specs.Values.{inside_of}
use Rattle.runs.specs.Readings.{Together, Renewed}
use Rattle.runs.specs.Found.{Tabled}
use Rattle.runs.specs.Slots.{slot, Outside, Stored}
use Rattle.runs.specs.Run.{Ground, led, Lies, Seen, Told, Covers, Begun, Walked, WalkKept, TestKept, HereKept}
use Rattle.runs.proofs.Image.{rest_iff, Gone, gone_more, here_image}
use Rattle.runs.proofs.Arms.{star_way, star_more, check_way}
use Rattle.runs.proofs.Calls.{end_there}
use Rattle.runs.proofs.Together.{turned}
use Rattle.runs.proofs.Keeping.{outside_more, outside_none, outside_then, stored_outside}
use Rattle.runs.proofs.Seen.{star_long, check_long, star_parts, seen_same, told_same, told_more, lies_low}

-- a star between two rounds: of what it has seen, the next step is seen or new; all of that lies on its ground, and has what it began with
pub record Round (w : World) (bytes : List ℕ) (scope : Set) (n at : ℕ) (x : Walk) (back : Bool) (g : Ground) (before slots : List ℕ) (first seen new : Set) : Type 0 where
  pub own : (q : ℕ) → (slot before at q ≡ true) ⊎ (first q ≡ true) → (seen q ≡ true) ⊎ (new q ≡ true)
  pub sound : (q : ℕ) → (seen q ≡ true) ⊎ (new q ≡ true) → Lies w n (led g (star x) back) q
  pub closed : (p q : ℕ) → seen p ≡ true → Way w x back p q n → (seen q ≡ true) ⊎ (new q ≡ true)
  pub told : Told w n bytes scope slots
  pub below : Seen w n slots (at + 1) x back (led g (star x) back)
  pub outside : Outside (at + 1) (at + 1 + length (walk_text x)) before slots

-- so it is for every world, walk and ground, where `first` is what was new at the start; and nothing that is new is seen
pub record Rounds (bytes : List ℕ) (at : ℕ) (back : Bool) (rows bound : List ℕ) (n : ℕ) (before slots : List ℕ) (first seen new : Set) : Type 0 where
  pub apart : (q : ℕ) → new q ≡ true → seen q ≡ false
  pub found : (w : World) (scope : Set) (x : Walk) (g : Ground) → Begun w bytes scope rows bound n at (star x) back g before first → Round w bytes scope n at x back g before slots first seen new

module _ {bytes : List ℕ} {at : ℕ} {back : Bool} {rows bound : List ℕ} {n : ℕ} {before : List ℕ} where
  pub rounds_start : (from : Set) {seen new : Set} → ((q : ℕ) → seen q ≡ slot before at q) → ((q : ℕ) → new q ≡ (from q && not (seen q)))
      → Rounds bytes at back rows bound n before before new seen new
  unfolding Seen
  rounds_start from {seen} {new} kept rest = record { apart = λ q h. ((rest_iff (from q) (seen q)).0 (sym (rest q) ∙ h)).1; found = go }
    where
      go : (w : World) (scope : Set) (x : Walk) (g : Ground) → Begun w bytes scope rows bound n at (star x) back g before new → Round w bytes scope n at x back g before before new seen new
      go w scope x g b = record {
        own = λ q. ⊎_elim (λ h. inl (kept q ∙ h)) inr;
        sound = λ q. ⊎_elim
            (λ h. b.seen.0.sound q (sym (kept q) ∙ h))
            (λ h. (q, b.ground q h, (star_way w x back q q n).1 (stay refl (b.low q h))));
        closed = λ p q h step. inl (kept q ∙ b.seen.0.closed p q (sym (kept p) ∙ h) step);
        told = b.told;
        below = b.seen.1;
        outside = outside_none;
      }

  pub round_begun : {w : World} {scope : Set} {x : Walk} {g : Ground} {first seen new : Set} {slots : List ℕ} → Begun w bytes scope rows bound n at (star x) back g before first
      → Round w bytes scope n at x back g before slots first seen new → Begun w bytes scope rows bound n (at + 1) x back (led g (star x) back) slots new
  round_begun {w} {scope} {x} {g} {new = new} b u =
      let ground : (q : ℕ) → new q ≡ true → Lies w n (led g (star x) back) q = λ q h. u.sound q (inr h) in
      record {
        tabled = b.tabled;
        low = λ q h. lies_low w n g (star x) back q (ground q h);
        stands = (star_parts b.stands).1;
        ground = ground;
        covers = λ i low high. b.covers i (omega arith) (omega (arith, star_long x));
        told = u.told;
        seen = u.below;
      }

  -- a round: what was new is walked from, and what that adds is new
  pub rounds_more : {first : Set} {slots after : List ℕ} {seen new all more left : Set} → Rounds bytes at back rows bound n before slots first seen new
      → ((q : ℕ) → all q ≡ (seen q || new q)) → WalkKept bytes (at + 1) back rows bound n slots after new more → ((q : ℕ) → left q ≡ (more q && not (all q)))
      → Rounds bytes at back rows bound n before after first all left
  rounds_more {first} {slots} {after} {seen} {new} {all} {more} {left} r join f rest = record { apart = λ q h. ((rest_iff (more q) (all q)).0 (sym (rest q) ∙ h)).1; found = go }
    where
      joined : (q : ℕ) → (seen q ≡ true) ⊎ (new q ≡ true) → all q ≡ true
      joined q h = join q ∙ (or_iff (seen q) (new q)).1 h

      parted : (q : ℕ) → all q ≡ true → (seen q ≡ true) ⊎ (new q ≡ true)
      parted q h = (or_iff (seen q) (new q)).0 (sym (join q) ∙ h)

      added : (q : ℕ) → more q ≡ true → (all q ≡ true) ⊎ (left q ≡ true)
      added q h = ⊎_elim inl (λ k. inr (rest q ∙ (rest_iff (more q) (all q)).1 (h, k))) (true_or_false (all q))

      go : (w : World) (scope : Set) (x : Walk) (g : Ground) → Begun w bytes scope rows bound n at (star x) back g before first → Round w bytes scope n at x back g before after first all left
      go w scope x g b =
          let u = r.found w scope x g b in
          let t = f.found w scope x (led g (star x) back) (round_begun b u) in
          record {
            own = λ q h. inl (joined q (u.own q h));
            sound = λ q. ⊎_elim
                (λ h. u.sound q (parted q h))
                (λ h. let (m, (p, on, chain), step) = t.most q ((rest_iff (more q) (all q)).0 (sym (rest q) ∙ h)).0 in
                (p, on, star_more w x back p m q n chain step));
            closed = λ p q h step. ⊎_elim (λ k. inl (joined q (u.closed p q k step))) (λ k. added q (t.least p q k step)) (parted p h);
            told = t.told;
            below = t.seen;
            outside = outside_then u.outside t.outside;
          }

  -- nothing new: what is seen is kept, and answered
  pub rounds_done : {from had first : Set} {slots after : List ℕ} {seen new : Set} → get_or bytes at 0 ≡ 42 → ((q : ℕ) → had q ≡ slot before at q)
      → ((q : ℕ) → first q ≡ (from q && not (had q))) → ((q : ℕ) → new q ≡ false) → Rounds bytes at back rows bound n before slots first seen new
      → Stored slots at seen after → WalkKept bytes at back rows bound n before after from seen
  unfolding Seen
  rounds_done {from} {had} {first} {slots} {after} {seen} {new} sign kept rest none r k = record { found = λ w scope x g b. go w scope g (spread b.stands 42 sign) b }
    where
      only : {q : ℕ} → (seen q ≡ true) ⊎ (new q ≡ true) → seen q ≡ true
      only {q} h = ⊎_elim (λ e. e) (λ e. absurd (off_on (none q) e)) h

      taken : (q : ℕ) → first q ≡ true → from q ≡ true
      taken q h = ((rest_iff (from q) (had q)).0 (sym (rest q) ∙ h)).0

      given : (q : ℕ) → from q ≡ true → (slot before at q ≡ true) ⊎ (first q ≡ true)
      given q h = ⊎_elim (λ e. inl (sym (kept q) ∙ e)) (λ e. inr (rest q ∙ (rest_iff (from q) (had q)).1 (h, e))) (true_or_false (had q))

      closing : (w : World) (scope : Set) (x : Walk) (g : Ground) → Round w bytes scope n at x back g before slots first seen new → {p q : ℕ} → Chain (Way w x back) n p q
          → seen p ≡ true → seen q ≡ true
      closing w scope x g u (stay e low) h = subst (λ (v : ℕ). seen v ≡ true) (sym e) h
      closing w scope x g u (link {p = p} {m = v} step more) h = closing w scope x g u more (only (u.closed p v h step))

      go : (w : World) (scope : Set) (g : Ground) {x : Walk} → Spread bytes at 42 (of_walk x) → Begun w bytes scope rows bound n at x back g before from
          → Walked w bytes scope n at x back g before after from seen
      go w scope g (star_at x p) b =
          let begun : Begun w bytes scope rows bound n at (star x) back g before first = record {
            tabled = b.tabled;
            low = λ q h. b.low q (taken q h);
            stands = b.stands;
            ground = λ q h. b.ground q (taken q h);
            covers = b.covers;
            told = b.told;
            seen = b.seen;
          } in
          let u = r.found w scope x g begun in
          record {
            least = λ p q h chain. closing w scope x g u ((star_way w x back p q n).0 chain) (only (u.own p (given p h)));
            most = λ q h. u.sound q (inl h);
            told = told_same after (λ j not-star. k.other j (λ e. not-star (subst (λ (i : ℕ). get_or bytes i 0 ≡ 42) (sym e) sign))) u.told;
            seen = (
              record {
                sound = λ q h. u.sound q (inl ((k.own q).0 h).1);
                closed = λ p q h step. let (lent, there) = (k.own p).0 h in (k.own q).1 (lent, only (u.closed p q there step));
              },
              seen_same w n slots after x back (led g (star x) back) (at + 1) (λ j low high. k.other j (λ e. omega (arith, e))) u.below,
            );
            outside = outside_then (outside_more (omega arith) (omega (arith, star_long x)) u.outside) (stored_outside k (omega arith) (omega (arith, star_long x)));
          }

-- a `?` between two turns: of those asked in all, it holds the ones gone over where the test is true
pub record Sift (w : World) (n : ℕ) (bytes : List ℕ) (scope : Set) (at : ℕ) (x : Test) (before slots : List ℕ) (all left held : Set) : Type 0 where
  pub gone : Gone (λ q. Holds w x q (own_now w q n)) all left held
  pub told : Told w n bytes scope slots
  pub outside : Outside (at + 1) (at + 1 + length (test_text x)) before slots

pub record Sifting (bytes : List ℕ) (at : ℕ) (rows bound : List ℕ) (n : ℕ) (before slots : List ℕ) (among asked left held : Set) : Type 0 where
  pub within : (q : ℕ) → left q ≡ true → among q ≡ true
  pub found : (w : World) (scope : Set) → Tabled w rows bound n → UpTo n among → (x : Test) → Stands bytes (at + 1) (of_test x)
      → Covers scope at (at + 1 + length (test_text x)) → Told w n bytes scope before → Sift w n bytes scope at x before slots (λ q. asked q || among q) left held

module _ {bytes : List ℕ} {at : ℕ} {rows bound : List ℕ} {n : ℕ} {before : List ℕ} {among asked : Set} where
  pub sifting_start : {held denied left : Set} → get_or bytes at 0 ≡ 63 → ((q : ℕ) → held q ≡ slot before at q) → ((q : ℕ) → denied q ≡ slot before (at + 1) q)
      → ((q : ℕ) → asked q ≡ (held q || denied q)) → ((q : ℕ) → left q ≡ (among q && not (asked q))) → Sifting bytes at rows bound n before before among asked left held
  sifting_start {held} {denied} {left} sign own behind join rest = record { within = λ q h. ((rest_iff (among q) (asked q)).0 (sym (rest q) ∙ h)).0; found = go }
    where
      go : (w : World) (scope : Set) → Tabled w rows bound n → UpTo n among → (x : Test) → Stands bytes (at + 1) (of_test x)
          → Covers scope at (at + 1 + length (test_text x)) → Told w n bytes scope before → Sift w n bytes scope at x before before (λ q. asked q || among q) left held
      go w scope tabled low x stands covers kept = record {
        gone = record {
          within = λ q h. (or_iff (asked q) (among q)).1 (inr ((rest_iff (among q) (asked q)).0 (sym (rest q) ∙ h)).0);
          each = λ q.
              let there = kept.each at (covers at (omega arith) (omega (arith, some_text (of_test x)))) sign x stands q in (
                λ h.
                    let j : asked q ≡ true = join q ∙ (or_iff (held q) (denied q)).1 (inl h) in
                    ((or_iff (asked q) (among q)).1 (inl j), rest q ∙ (implies_iff (among q) (asked q)).1 (λ k. j), there.0 (sym (own q) ∙ h)),
                λ h.
                    let (any, past, true-there) = h in
                    let j : asked q ≡ true = ⊎_elim (λ k. k) (λ k. (implies_iff (among q) (asked q)).0 (sym (rest q) ∙ past) k) ((or_iff (asked q) (among q)).0 any) in
                    ⊎_elim (λ k. k) (λ k. absurd (there.1 (sym (behind q) ∙ k) true-there)) ((or_iff (held q) (denied q)).0 (sym (join q) ∙ j)),
              );
        };
        told = kept;
        outside = outside_none;
      }

  -- some positions more are asked, with their own now
  pub sifting_more : {ends : List ℕ} (marked : Ends bytes ends) {end : ℕ} (ending : end ≡ get_or ends (at + 1) 0) {slots clean tested after inner : List ℕ}
      {left held these there left' held' : Set} {own : ℕ} → Together left n bound own these → inner ≡ inside_of bound → Renewed bound slots (at + 1) end clean
      → TestKept bytes (at + 1) rows inner own clean tested these there → Renewed bound tested (at + 1) end after
      → ((q : ℕ) → held' q ≡ (held q || there q)) → ((q : ℕ) → left' q ≡ (left q && not (these q)))
      → Sifting bytes at rows bound n before slots among asked left held → Sifting bytes at rows bound n before after among asked left' held'
  sifting_more marked {end} ending {slots} {clean} {tested} {after} {inner} {left} {held} {these} {there} {left'} {held'} turn same fresh f again join rest a = record {
    within = λ q h. a.within q ((rest_iff (left q) (these q)).0 (sym (rest q) ∙ h)).0;
    found = go;
  }
    where
      go : (w : World) (scope : Set) → Tabled w rows bound n → UpTo n among → (x : Test) → Stands bytes (at + 1) (of_test x)
          → Covers scope at (at + 1 + length (test_text x)) → Told w n bytes scope before → Sift w n bytes scope at x before after (λ q. asked q || among q) left' held'
      go w scope tabled low x stands covers kept =
          let u = a.found w scope tabled low x stands covers kept in
          let t = turned at turn same fresh f again w scope tabled (λ q h. low q (a.within q h)) x stands (end_there marked stands end ending) covers u.told in
          record { gone = gone_more turn.within t.sift join rest u.gone; told = t.told; outside = outside_then u.outside t.outside }

  -- all asked: where it is true is kept, and where it is not, and of the set what is true is answered
  pub sifting_done : {slots middle after : List ℕ} {left held all denied answer : Set} → get_or bytes at 0 ≡ 63 → ((q : ℕ) → left q ≡ false)
      → Sifting bytes at rows bound n before slots among asked left held → ((q : ℕ) → all q ≡ (asked q || among q)) → ((q : ℕ) → denied q ≡ (all q && not (held q)))
      → Stored slots at held middle → Stored middle (at + 1) denied after → ((q : ℕ) → answer q ≡ (among q && held q)) → HereKept bytes at rows bound n before after among answer
  unfolding Seen
  sifting_done {slots} {middle} {after} {left} {held} {all} {denied} {answer} sign none a join rest one two meet =
      record { found = λ back. record { found = λ w scope x g b. go back w scope g (spread b.stands 63 sign) b } }
    where
      image : (w : World) (x : Test) → UpTo n among → Gone (λ q. Holds w x q (own_now w q n)) (λ q. asked q || among q) left held → Image (Here w (Holds w x)) n among answer
      image w x low gone = here_image w (Holds w x) {left = left} low none (record {
        within = λ q h. absurd (off_on (none q) h);
        each = λ q. (
          λ h. let (i, j) = (and_iff (among q) (held q)).0 (sym (meet q) ∙ h) in (i, none q, ((gone.each q).0 j).2),
          λ h. meet q ∙ (and_iff (among q) (held q)).1 (h.0, (gone.each q).1 ((or_iff (asked q) (among q)).1 (inr h.0), none q, h.2)),
        );
      })

      go : (back : Bool) (w : World) (scope : Set) (g : Ground) {x : Walk} → Spread bytes at 63 (of_walk x) → Begun w bytes scope rows bound n at x back g before among
          → Walked w bytes scope n at x back g before after among answer
      go back w scope g (check_at t p) b =
          let u = a.found w scope b.tabled b.low t p (λ i low high. b.covers i low (omega (arith, check_long t))) b.told in
          let i = image w t b.low u.gone in
          let not-true : (q : ℕ) → denied q ≡ true → ¬ Holds w t q (own_now w q n)
          = λ q h k. let (in_all, out) = (rest_iff (all q) (held q)).0 (sym (rest q) ∙ h) in
          off_on out ((u.gone.each q).1 (sym (join q) ∙ in_all, none q, k)) in
          record {
            least = λ p q h step. (i.each q).1 (p, h, (check_way w t back p q n).0 step);
            most = λ q h. let (p, on, step) = (i.each q).0 h in (p, b.ground p on, (check_way w t back p q n).1 step);
            told = told_more sign p (λ q h. ((u.gone.each q).0 h).2) not-true one two u.told;
            seen = tt;
            outside = outside_then (outside_more (omega arith) (omega (arith, check_long t)) u.outside)
                (outside_then (stored_outside one (omega arith) (omega (arith, check_long t))) (stored_outside two (omega arith) (omega (arith, check_long t, some_text (of_test t)))));
          }

-- One pass over a walk, where it leads and what it asks for, sign by sign: what the stars have told stays where their slots do, and what the parts ask for makes what the
-- whole does. Knows no code.
use mathlib.Core.Path.{◌≡◌, refl, sym, ap, subst, ◌∙◌}
use mathlib.Core.Logic.{◌⊎◌, inl, inr, ⊎_elim}
use mathlib.Core.Bool.{Bool, true, false, not, ◌&&◌, ◌||◌}
use mathlib.Core.List.{List}
use Prim.Native.Nat.{ℕ, zero, suc, ◌+◌, ◌-◌, ◌≤◌, ◌<◌}
use native.Mathlib.Omega.{arith}
use lib.Bits.{bit_or}
use lib.ListN.{length, get_or}
use Rattle.laws.specs.Bit.{on}
use Rattle.laws.proofs.Truth.{off_on, or_iff}
use Rattle.laws.proofs.On.{on_none}
use Rattle.laws.proofs.Bitwise.{on_or}
use Rattle.meaning.specs.Limits.{action_limit}
use Rattle.meaning.specs.Theory.{World}
use Rattle.meaning.specs.Rule.{Walk, act, undo, next, prev, seq, alt, star, check, conv, pick, of_walk, walk_text}
use Rattle.meaning.specs.Leads.{Leads, stay}
use Rattle.meaning.specs.Asks.{AsksAt}
use Rattle.meaning.proofs.Chain.{chain_append}
use Rattle.grammar.specs.Standing.{Stands, Ends}
use Rattle.grammar.proofs.Spread.{Spread, spread, seq_at, alt_at, star_at}
use Rattle.runs.specs.Image.{Set}
use Rattle.runs.specs.Slots.{slot, Outside, Stored, StarsTo}
use Rattle.runs.specs.Found.{AskedBy}
use Rattle.runs.specs.Run.{Ground, start, led, Lies, Seen, Begun, WalkKept, Heard, Asking, AskKept}
use Rattle.runs.proofs.Arms.{star_way, stars_flat}
use Rattle.runs.proofs.Calls.{end_there}
use Rattle.runs.proofs.Image.{rest_iff}
use Rattle.runs.proofs.Keeping.{empty_slot}
use Rattle.runs.proofs.Seen.{Alike, Clear, seq_long, alt_long, star_long, seq_parts, alt_parts, star_parts}
use Rattle.runs.proofs.Found.{walked_low, seen_beside, seq_either, alt_kept, stars_kept}
use Rattle.runs.proofs.Rounds.{Rounds, rounds_start, rounds_more, rounds_done, round_begun}

-- what the stars of a walk have told stands in the walk's own slots
pub heard_same : (may : ℕ → Bool) (w : World) (n : ℕ) (l m : List ℕ) (x : Walk) (at : ℕ) (these : Set) → Alike at (at + length (walk_text x)) l m
    → Heard may w n l at x these → Heard may w n m at x these
unfolding Heard
heard_same may w n l m (act a) at these e h = tt
heard_same may w n l m (undo a) at these e h = tt
heard_same may w n l m next at these e h = tt
heard_same may w n l m prev at these e h = tt
heard_same may w n l m (seq v x) at these e h = (
  heard_same may w n l m v (at + 1) these (λ j low high. e j (omega arith) (omega (arith, seq_long v x))) h.0,
  heard_same may w n l m x (at + 1 + length (walk_text v)) these (λ j low high. e j (omega arith) (omega (arith, seq_long v x))) h.1,
)
heard_same may w n l m (alt v x) at these e h = (
  heard_same may w n l m v (at + 1) these (λ j low high. e j (omega arith) (omega (arith, alt_long v x))) h.0,
  heard_same may w n l m x (at + 1 + length (walk_text v)) these (λ j low high. e j (omega arith) (omega (arith, alt_long v x))) h.1,
)
heard_same may w n l m (star x) at these e h = (
  λ p a room there. h.0 p a room (sym (ap (λ (word : ℕ). on word p) (e at (omega arith) (omega (arith, star_long x)))) ∙ there),
  heard_same may w n l m x (at + 1) these (λ j low high. e j (omega arith) (omega (arith, star_long x))) h.1,
)
heard_same may w n l m (check t) at these e h = tt
heard_same may w n l m (conv x) at these e h = tt
heard_same may w n l m (pick v x) at these e h = tt

-- and is among more
pub heard_more : (may : ℕ → Bool) (w : World) (n : ℕ) (l : List ℕ) (x : Walk) (at : ℕ) (these those : Set) → ((a : ℕ) → these a ≡ true → those a ≡ true)
    → Heard may w n l at x these → Heard may w n l at x those
unfolding Heard
heard_more may w n l (act a) at these those e h = tt
heard_more may w n l (undo a) at these those e h = tt
heard_more may w n l next at these those e h = tt
heard_more may w n l prev at these those e h = tt
heard_more may w n l (seq v x) at these those e h = (heard_more may w n l v (at + 1) these those e h.0, heard_more may w n l x (at + 1 + length (walk_text v)) these those e h.1)
heard_more may w n l (alt v x) at these those e h = (heard_more may w n l v (at + 1) these those e h.0, heard_more may w n l x (at + 1 + length (walk_text v)) these those e h.1)
heard_more may w n l (star x) at these those e h = (λ p a room there asks. e a (h.0 p a room there asks), heard_more may w n l x (at + 1) these those e h.1)
heard_more may w n l (check t) at these those e h = tt
heard_more may w n l (conv x) at these those e h = tt
heard_more may w n l (pick v x) at these those e h = tt

-- stars with empty slots have told nothing
pub heard_none : (may : ℕ → Bool) (w : World) (n : ℕ) (bytes l : List ℕ) (x : Walk) (at : ℕ) (these : Set) → Stands bytes at (of_walk x)
    → Clear bytes at (at + length (walk_text x)) l → Heard may w n l at x these
unfolding Heard
heard_none may w n bytes l (act a) at these s e = tt
heard_none may w n bytes l (undo a) at these s e = tt
heard_none may w n bytes l next at these s e = tt
heard_none may w n bytes l prev at these s e = tt
heard_none may w n bytes l (seq v x) at these s e = (
  heard_none may w n bytes l v (at + 1) these (seq_parts s).0 (λ j low high. e j (omega arith) (omega (arith, seq_long v x))),
  heard_none may w n bytes l x (at + 1 + length (walk_text v)) these (seq_parts s).1 (λ j low high. e j (omega arith) (omega (arith, seq_long v x))),
)
heard_none may w n bytes l (alt v x) at these s e = (
  heard_none may w n bytes l v (at + 1) these (alt_parts s).0 (λ j low high. e j (omega arith) (omega (arith, alt_long v x))),
  heard_none may w n bytes l x (at + 1 + length (walk_text v)) these (alt_parts s).1 (λ j low high. e j (omega arith) (omega (arith, alt_long v x))),
)
heard_none may w n bytes l (star x) at these s e = (
  λ p a room there. absurd (off_on (empty_slot l at (e at (omega arith) (omega (arith, star_long x)) (star_parts s).0) p) there),
  heard_none may w n bytes l x (at + 1) these (star_parts s).1 (λ j low high. e j (omega arith) (omega (arith, star_long x))),
)
heard_none may w n bytes l (check t) at these s e = tt
heard_none may w n bytes l (conv x) at these s e = tt
heard_none may w n bytes l (pick v x) at these s e = tt

-- one word of actions, or two
some_told : (these : Set) (one a : ℕ) → these a ≡ true → (these a || on one a) ≡ true
some_told these one a h = (or_iff (these a) (on one a)).1 (inl h)

first_told : (these : Set) (one two a : ℕ) → (these a || on one a) ≡ true → (these a || on (bit_or one two) a) ≡ true
first_told these one two a h =
    (or_iff (these a) (on (bit_or one two) a)).1
    (⊎_elim inl (λ k. inr (on_or one two a ∙ (or_iff (on one a) (on two a)).1 (inl k))) ((or_iff (these a) (on one a)).0 h))

second_told : (these : Set) (one two a : ℕ) → (these a || on two a) ≡ true → (these a || on (bit_or one two) a) ≡ true
second_told these one two a h =
    (or_iff (these a) (on (bit_or one two) a)).1
    (⊎_elim inl (λ k. inr (on_or one two a ∙ (or_iff (on one a) (on two a)).1 (inr k))) ((or_iff (these a) (on two a)).0 h))

both_told : (these : Set) (one two a : ℕ) → ((these a || on one a) || on two a) ≡ true → (these a || on (bit_or one two) a) ≡ true
both_told these one two a h =
    ⊎_elim
    (first_told these one two a)
    (λ k. second_told these one two a ((or_iff (these a) (on two a)).1 (inr k)))
    ((or_iff (these a || on one a) (on two a)).0 h)

-- what a part beside it has told, where a part was walked
heard_beside : (may : ℕ → Bool) (w : World) (n : ℕ) {l m : List ℕ} {a b : ℕ} (x : Walk) (at : ℕ) (these : Set) → Outside a b l m
    → (at + length (walk_text x) ≤ a) ⊎ (b ≤ at) → Heard may w n l at x these → Heard may w n m at x these
heard_beside may w n {l} {m} x at these o apart h =
    heard_same may w n l m x at these (λ j low high. o.same j (⊎_elim (λ k. inl (omega arith)) (λ k. inr (omega arith)) apart)) h

abbrev behind : ℕ → Walk → ℕ
behind at v = at + 1 + length (walk_text v)

module _ {may : ℕ → Bool} {bytes rows bound : List ℕ} {n at : ℕ} (w : World) (scope : Set) (v x : Walk) (g : Ground) {one two three : List ℕ} {s a c : Set} {first second : ℕ} (these : Set) where
  -- `;VW`: what V asks for, and from where V ends what W does
  seq_asking : Begun w bytes scope rows bound n at (seq v x) false g one s → Stands bytes (at + 1) (of_walk v) → Stands bytes (behind at v) (of_walk x)
      → AskKept may bytes (at + 1) rows bound n one two s a first → AskKept may bytes (behind at v) rows bound n two three a c second
      → Heard may w n one at (seq v x) these → Asking may w n at (seq v x) g these three s (bit_or first second)
  unfolding Seen Heard AsksAt
  seq_asking b p q f k h =
      let begun : Begun w bytes scope rows bound n (at + 1) v false g one s = record { tabled = b.tabled; low = b.low; stands = p; ground = b.ground; covers = λ i low high. b.covers i (omega arith) (omega (arith, seq_long v x)); told = b.told; seen = b.seen.0 } in
      let i = f.walked.found w scope v g begun in
      let u = f.asked w scope v g begun these h.0 in
      let next = seen_beside w n x false (led g v false) (behind at v) i.outside (inr (omega arith)) b.seen.1 in
      let begun' : Begun w bytes scope rows bound n (behind at v) x false (led g v false) two a
      = record { tabled = b.tabled; low = walked_low i; stands = q; ground = i.most; covers = λ i low high. b.covers i (omega arith) (omega (arith, seq_long v x)); told = i.told; seen = next } in
      let j = k.walked.found w scope x (led g v false) begun' in
      let t = k.asked w scope x (led g v false) begun' these (heard_beside may w n x (behind at v) these i.outside (inr (omega arith)) h.1) in
      record {
        least = λ p a room here. ⊎_elim
            (λ e. first_told these first second a (u.least p a room here e))
            (λ e. second_told these first second a (t.least e.0 a room (i.least p e.0 here e.1) e.2));
        most = λ a room e. ⊎_elim
            (λ o. let (p, on, asks) = u.most a room o in (p, on, inl asks))
            (λ o. let (m, (p, on, step), asks) = t.most a room o in (p, on, inr (m, step, asks)))
            ((or_iff (on first a) (on second a)).0 (sym (on_or first second a) ∙ e));
        heard = (
          heard_more may w n three v (at + 1) _ _ (first_told these first second) (heard_beside may w n v (at + 1) _ j.outside (inl (omega arith)) u.heard),
          heard_more may w n three x (behind at v) _ _ (second_told these first second) t.heard,
        );
      }

  -- `|VW`: what either asks for
  alt_asking : Begun w bytes scope rows bound n at (alt v x) false g one s → Stands bytes (at + 1) (of_walk v) → Stands bytes (behind at v) (of_walk x)
      → AskKept may bytes (at + 1) rows bound n one two s a first → AskKept may bytes (behind at v) rows bound n two three s c second
      → Heard may w n one at (alt v x) these → Asking may w n at (alt v x) g these three s (bit_or first second)
  unfolding Seen Heard AsksAt
  alt_asking b p q f k h =
      let begun : Begun w bytes scope rows bound n (at + 1) v false g one s = record { tabled = b.tabled; low = b.low; stands = p; ground = b.ground; covers = λ i low high. b.covers i (omega arith) (omega (arith, alt_long v x)); told = b.told; seen = b.seen.0 } in
      let i = f.walked.found w scope v g begun in
      let u = f.asked w scope v g begun these h.0 in
      let next = seen_beside w n x false g (behind at v) i.outside (inr (omega arith)) b.seen.1 in
      let begun' : Begun w bytes scope rows bound n (behind at v) x false g two s = record { tabled = b.tabled; low = b.low; stands = q; ground = b.ground; covers = λ i low high. b.covers i (omega arith) (omega (arith, alt_long v x)); told = i.told; seen = next } in
      let j = k.walked.found w scope x g begun' in
      let t = k.asked w scope x g begun' these (heard_beside may w n x (behind at v) these i.outside (inr (omega arith)) h.1) in
      record {
        least = λ p a room here. ⊎_elim
            (λ e. first_told these first second a (u.least p a room here e))
            (λ e. second_told these first second a (t.least p a room here e));
        most = λ a room e. ⊎_elim
            (λ o. let (p, on, asks) = u.most a room o in (p, on, inl asks))
            (λ o. let (p, on, asks) = t.most a room o in (p, on, inr asks))
            ((or_iff (on first a) (on second a)).0 (sym (on_or first second a) ∙ e));
        heard = (
          heard_more may w n three v (at + 1) _ _ (first_told these first second) (heard_beside may w n v (at + 1) _ j.outside (inl (omega arith)) u.heard),
          heard_more may w n three x (behind at v) _ _ (second_told these first second) t.heard,
        );
      }

-- the second part's place
ask_at_law : {may : ℕ → Bool} {bytes ends : List ℕ} → Ends bytes ends → (at other : ℕ) → other ≡ get_or ends (at + 1) 0 → {rows bound : List ℕ} {n : ℕ} {v : Walk} {one two : List ℕ}
    {s r : Set} {word : ℕ} → Stands bytes (at + 1) (of_walk v) → AskKept may bytes other rows bound n one two s r word → AskKept may bytes (behind at v) rows bound n one two s r word
ask_at_law {may} {bytes} marked at other there {rows} {bound} {n} {one = one} {two = two} {s = s} {r = r} {word = word} p f =
    subst (λ (i : ℕ). AskKept may bytes i rows bound n one two s r word) (sym (end_there marked p other there)) f

module _ {may : ℕ → Bool} {bytes ends : List ℕ} (marked : Ends bytes ends) {at other : ℕ} (there : other ≡ get_or ends (at + 1) 0) {rows bound : List ℕ} {n : ℕ} where
  -- `;VW`, over the text
  pub seq_asked : {one two three : List ℕ} {s a r : Set} {first second : ℕ} → get_or bytes at 0 ≡ 59 → AskKept may bytes (at + 1) rows bound n one two s a first
      → AskKept may bytes other rows bound n two three a r second → AskKept may bytes at rows bound n one three s r (bit_or first second)
  seq_asked {one} {two} {three} {s} {a} {r} {first} {second} sign f k = record {
    walked = seq_either marked there sign refl refl f.walked k.walked;
    asked = λ w scope x g b these. go w scope g (spread b.stands 59 sign) b these;
  }
    where
      go : (w : World) (scope : Set) (g : Ground) {x : Walk} → Spread bytes at 59 (of_walk x) → Begun w bytes scope rows bound n at x false g one s → (these : Set) → Heard may w n one at x these
          → Asking may w n at x g these three s (bit_or first second)
      go w scope g (seq_at v x p q) b these h = seq_asking w scope v x g these b p q f (ask_at_law marked at other there p k) h

  -- `|VW`, over the text
  pub alt_asked : {one two three : List ℕ} {s a c r : Set} {first second : ℕ} → get_or bytes at 0 ≡ 124 → AskKept may bytes (at + 1) rows bound n one two s a first
      → AskKept may bytes other rows bound n two three s c second → ((q : ℕ) → r q ≡ (a q || c q)) → AskKept may bytes at rows bound n one three s r (bit_or first second)
  alt_asked {one} {two} {three} {s} {a} {c} {r} {first} {second} sign f k join = record {
    walked = alt_kept marked there sign f.walked k.walked join;
    asked = λ w scope x g b these. go w scope g (spread b.stands 124 sign) b these;
  }
    where
      go : (w : World) (scope : Set) (g : Ground) {x : Walk} → Spread bytes at 124 (of_walk x) → Begun w bytes scope rows bound n at x false g one s → (these : Set) → Heard may w n one at x these
          → Asking may w n at x g these three s (bit_or first second)
      go w scope g (alt_at v x p q) b these h = alt_asking w scope v x g these b p q f (ask_at_law marked at other there p k) h

-- `**W` is `*W`: the first star has told nothing of its own
pub stars_asked : {may : ℕ → Bool} {bytes : List ℕ} {at : ℕ} {rows bound : List ℕ} {n : ℕ} {one two : List ℕ} {s r : Set} {word : ℕ} → get_or bytes at 0 ≡ 42 → get_or bytes (at + 1) 0 ≡ 42
    → AskKept may bytes (at + 1) rows bound n one two s r word → AskKept may bytes at rows bound n one two s r word
unfolding Seen Heard AsksAt Leads
stars_asked {may} {bytes} {at} {rows} {bound} {n} {one} {two} {s} {r} {word} sign second f = record {
  walked = stars_kept sign second f.walked;
  asked = λ w scope x g b these. go w scope g (spread b.stands 42 sign) b these;
}
  where
    inner : (w : World) (scope : Set) (g : Ground) (x : Walk) → Stands bytes (at + 1) (of_walk (star x)) → Begun w bytes scope rows bound n at (star (star x)) false g one s → (these : Set)
        → Heard may w n one at (star (star x)) these → Asking may w n at (star (star x)) g these two s word
    inner w scope g x p b these h =
        let given : Begun w bytes scope rows bound n (at + 1) (star x) false (led g (star (star x)) false) one s = record {
          tabled = b.tabled;
          low = b.low;
          stands = p;
          ground = λ q i. (q, b.ground q i, (star_way w (star x) false q q n).1 (stay refl (b.low q i)));
          covers = λ i low high. b.covers i (omega arith) (omega (arith, star_long (star x)));
          told = b.told;
          seen = b.seen.1;
        } in
        let i = f.walked.found w scope (star x) (led g (star (star x)) false) given in
        let u = f.asked w scope (star x) (led g (star (star x)) false) given these h.1 in
        record {
          least = λ p a room here e.
              let (m, far, (q, near, asks)) = e in
              let flat = (star_way w x false p m n).0 (stars_flat w x false p m n ((star_way w (star x) false p m n).1 far)) in
              u.least p a room here (q, chain_append flat near, asks);
          most = λ a room e. let (q, (p, on, chain), asks) = u.most a room e in (p, on, (q, (star_way w (star x) false p q n).0 chain, asks));
          heard = (
            λ p a room kept asks. some_told these word a (h.0 p a room (sym (ap (λ (k : ℕ). on k p) (i.outside.same at (inl (omega arith)))) ∙ kept) asks),
            u.heard,
          );
        }

    run : (w : World) (scope : Set) (g : Ground) {x : Walk} → Stands bytes (at + 1) (of_walk x) → Spread bytes (at + 1) 42 (of_walk x) → Begun w bytes scope rows bound n at (star x) false g one s
        → (these : Set) → Heard may w n one at (star x) these → Asking may w n at (star x) g these two s word
    run w scope g p (star_at x q) b these h = inner w scope g x p b these h

    go : (w : World) (scope : Set) (g : Ground) {x : Walk} → Spread bytes at 42 (of_walk x) → Begun w bytes scope rows bound n at x false g one s → (these : Set) → Heard may w n one at x these
        → Asking may w n at x g these two s word
    go w scope g (star_at x p) b these h = run w scope g p (spread p 42 second) b these h

-- a run of stars, from its last one back
pub run_asked : {may : ℕ → Bool} {bytes : List ℕ} {at last : ℕ} {rows bound : List ℕ} {n : ℕ} {one two : List ℕ} {s r : Set} {word : ℕ} → get_or bytes at 0 ≡ 42 → StarsTo bytes at last
    → AskKept may bytes last rows bound n one two s r word → AskKept may bytes at rows bound n one two s r word
run_asked {may} {bytes} {at} {last} {rows} {bound} {n} {one} {two} {s} {r} {word} sign run f = go (last - at) at (omega (arith, run.onward)) sign run.stars
  where
    go : (k at : ℕ) → at + k ≡ last → get_or bytes at 0 ≡ 42 → ((j : ℕ) → at < j → j ≤ last → get_or bytes j 0 ≡ 42) → AskKept may bytes at rows bound n one two s r word
    go zero at e sign stars = let here : last ≡ at = omega arith in subst (λ (i : ℕ). AskKept may bytes i rows bound n one two s r word) here f
    go (suc k) at e sign stars =
        let next = stars (at + 1) (omega arith) (omega arith) in
        stars_asked sign next (go k (at + 1) (omega arith) next (λ j low high. stars j (omega arith) high))

-- A star between two rounds: what its walk asks for from where the star has been is told, before this run of it or in its rounds.
pub record Spoken (may : ℕ → Bool) (w : World) (n at : ℕ) (x : Walk) (g : Ground) (these : Set) (slots : List ℕ) (seen : Set) (word : ℕ) : Type 0 where
  pub least : (p a : ℕ) → a < action_limit → seen p ≡ true → AsksAt may w (at + 1) x p n a → (these a || on word a) ≡ true
  pub most : (a : ℕ) → a < action_limit → on word a ≡ true → (p : ℕ) × Lies w n (led g (star x) false) p × AsksAt may w (at + 1) x p n a
  pub below : Heard may w n slots (at + 1) x (λ a. these a || on word a)

pub record Speaking (may : ℕ → Bool) (bytes : List ℕ) (at : ℕ) (rows bound : List ℕ) (n : ℕ) (before slots : List ℕ) (first seen new : Set) (word : ℕ) : Type 0 where
  pub rounds : Rounds bytes at false rows bound n before slots first seen new
  pub spoken : (w : World) (scope : Set) (x : Walk) (g : Ground) → Begun w bytes scope rows bound n at (star x) false g before first → (these : Set) → Heard may w n before at (star x) these
      → Spoken may w n at x g these slots seen word

module _ {may : ℕ → Bool} {bytes : List ℕ} {at : ℕ} {rows bound : List ℕ} {n : ℕ} {before : List ℕ} where
  pub speaking_start : (from : Set) {seen new : Set} → ((q : ℕ) → seen q ≡ slot before at q) → ((q : ℕ) → new q ≡ (from q && not (seen q)))
      → Speaking may bytes at rows bound n before before new seen new 0
  unfolding Heard
  speaking_start from {seen} {new} kept rest = record {
    rounds = rounds_start from kept rest;
    spoken = λ w scope x g b these h. record {
      least = λ p a room there asks. some_told these 0 a (h.0 p a room (sym (kept p) ∙ there) asks);
      most = λ a room e. absurd (off_on (on_none a) e);
      below = heard_more may w n before x (at + 1) these _ (some_told these 0) h.1;
    };
  }

  -- a round: what was new is asked, and what that tells is told
  pub speaking_more : {first : Set} {slots after : List ℕ} {seen new all more left : Set} {word said : ℕ} → Speaking may bytes at rows bound n before slots first seen new word
      → ((q : ℕ) → all q ≡ (seen q || new q)) → AskKept may bytes (at + 1) rows bound n slots after new more said → ((q : ℕ) → left q ≡ (more q && not (all q)))
      → Speaking may bytes at rows bound n before after first all left (bit_or word said)
  speaking_more {first} {slots} {after} {seen} {new} {all} {more} {left} {word} {said} r join f rest = record {
    rounds = rounds_more r.rounds join f.walked rest;
    spoken = go;
  }
    where
      go : (w : World) (scope : Set) (x : Walk) (g : Ground) → Begun w bytes scope rows bound n at (star x) false g before first → (these : Set) → Heard may w n before at (star x) these
          → Spoken may w n at x g these after all (bit_or word said)
      go w scope x g b these h =
          let u = r.spoken w scope x g b these h in
          let t = f.asked w scope x (led g (star x) false) (round_begun b (r.rounds.found w scope x g b)) (λ a. these a || on word a) u.below in
          record {
            least = λ p a room there asks. ⊎_elim
                (λ k. first_told these word said a (u.least p a room k asks))
                (λ k. both_told these word said a (t.least p a room k asks))
                ((or_iff (seen p) (new p)).0 (sym (join p) ∙ there));
            most = λ a room e. ⊎_elim
                (λ k. u.most a room k)
                (λ k. t.most a room k)
                ((or_iff (on word a) (on said a)).0 (sym (on_or word said a) ∙ e));
            below = heard_more may w n after x (at + 1) _ _ (both_told these word said) t.heard;
          }

  -- nothing new: what is seen is kept, and all that was told in these rounds is answered
  pub speaking_done : {from had first : Set} {slots after : List ℕ} {seen new : Set} {word : ℕ} → get_or bytes at 0 ≡ 42 → ((q : ℕ) → had q ≡ slot before at q)
      → ((q : ℕ) → first q ≡ (from q && not (had q))) → ((q : ℕ) → new q ≡ false) → Speaking may bytes at rows bound n before slots first seen new word
      → Stored slots at seen after → AskKept may bytes at rows bound n before after from seen word
  unfolding Heard AsksAt Leads
  speaking_done {from} {had} {first} {slots} {after} {seen} {new} {word} sign kept rest none r k = record {
    walked = whole;
    asked = λ w scope x g b these. go w scope g (spread b.stands 42 sign) b these;
  }
    where
      whole : WalkKept bytes at false rows bound n before after from seen
      whole = rounds_done sign kept rest none r.rounds k

      taken : (q : ℕ) → first q ≡ true → from q ≡ true
      taken q h = ((rest_iff (from q) (had q)).0 (sym (rest q) ∙ h)).0

      go : (w : World) (scope : Set) (g : Ground) {x : Walk} → Spread bytes at 42 (of_walk x) → Begun w bytes scope rows bound n at x false g before from → (these : Set)
          → Heard may w n before at x these → Asking may w n at x g these after from word
      go w scope g (star_at x p) b these h =
          let i = whole.found w scope (star x) g b in
          let u = r.spoken w scope x g (record { tabled = b.tabled; low = λ q e. b.low q (taken q e); stands = b.stands; ground = λ q e. b.ground q (taken q e); covers = b.covers; told = b.told; seen = b.seen }) these h in
          record {
            least = λ p a room here e. let (m, chain, asks) = e in u.least m a room (i.least p m here ((star_way w x false p m n).1 chain)) asks;
            most = λ a room e. let (q, (p, on, chain), asks) = u.most a room e in (p, on, (q, (star_way w x false p q n).0 chain, asks));
            heard = (
              λ p a room there asks. u.least p a room ((k.own p).0 there).1 asks,
              heard_same may w n slots after x (at + 1) _ (λ j low high. k.other j (λ e. omega (arith, e))) u.below,
            );
          }

-- with a table that has nothing yet, and from the set for its ground, the word is exact
pub asked_exact : {may : ℕ → Bool} {bytes : List ℕ} {at : ℕ} {rows bound : List ℕ} {n : ℕ} {slots after : List ℕ} {from reached : Set} {word : ℕ}
    → AskKept may bytes at rows bound n slots after from reached word → (w : World) (scope : Set) (x : Walk) → Begun w bytes scope rows bound n at x false (start from) slots from
    → Clear bytes at (at + length (walk_text x)) slots → AskedBy may w at x n from word
asked_exact {may} {bytes} {at} {rows} {bound} {n} {slots} {from = from} k w scope x b clear a room =
    let u = k.asked w scope x (start from) b (λ a. false) (heard_none may w n bytes slots x at (λ a. false) b.stands clear) in
    (u.most a room, λ e. u.least e.0 a room e.1 e.2)

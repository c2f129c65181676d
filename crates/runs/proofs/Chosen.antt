-- The binders' loops over the text: what is found with the values gone over so far, each in a run of its own, and what that is at their end. Knows the laws of
-- values, and no code.
use mathlib.Core.Path.{◌≡◌, refl, sym, subst, subst⁻¹, ◌∙◌}
use mathlib.Core.Logic.{◌↔◌, ◌⊎◌, inl, inr, ⊎_elim}
use mathlib.Core.Bool.{Bool, true, false, not, ◌&&◌, ◌||◌}
use mathlib.Core.List.{List}
use Prim.Native.Nat.{ℕ, ◌+◌, ◌≤◌, ◌<◌}
use native.Mathlib.Omega.{arith}
use native.Mathlib.Decide.{dec_lt}
use lib.Bits.{bit_or}
use lib.ListN.{length, get_or, set}
use Rattle.laws.specs.Bit.{on}
use Rattle.laws.proofs.Truth.{off_on, true_or_false, or_iff}
use Rattle.laws.proofs.On.{on_none}
use Rattle.laws.proofs.Bitwise.{on_or}
use Rattle.meaning.specs.Limits.{action_limit}
use Rattle.meaning.specs.Theory.{World, bind}
use Rattle.meaning.specs.Rule.{Variable, Walk, Test, of_walk, of_test, walk_text, test_text, walk_free, test_free}
use Rattle.meaning.specs.Leads.{Leads, Holds, Pick, Exists}
use Rattle.meaning.specs.Asks.{AsksAt}
use Rattle.meaning.proofs.Normal.{at_times}
use Rattle.meaning.proofs.Written.{holds_idle}
use Rattle.grammar.specs.Letters.{place, Lettered}
use Rattle.grammar.specs.Standing.{Stands}
use Rattle.grammar.proofs.Spread.{Spread, spread, pick_at, exists_at}
use Rattle.runs.specs.Image.{Set, UpTo, Image, Sifted, Way}
use Rattle.runs.specs.Values.{domain_in, Bears, BinderHere, Turns}
use Rattle.runs.specs.Found.{Tabled}
use Rattle.runs.specs.Slots.{Outside, Forgotten}
use Rattle.runs.specs.Run.{Ground, start, Seen, Told, Begun, Walked, Tested, WalkKept, TestKept, Heard, Asking, AskKept}
use Rattle.runs.proofs.Arms.{pick_way, way_idle}
use Rattle.runs.proofs.Image.{rest_iff}
use Rattle.runs.proofs.Keeping.{outside_more, outside_none, outside_then}
use Rattle.runs.proofs.Seen.{pick_long, exists_long, seen_none, Within, within_covers, Bare, within_told, bare_told}
use Rattle.runs.proofs.Bound.{tabled_bound, asks_idle}
use Rattle.runs.proofs.Heard.{asked_exact}

-- `pvW`, with so many values gone over: the letter of v and the walk W stand behind the sign
pub record Choice (w : World) (v : Variable) (x : Walk) (back : Bool) (n part end : ℕ) (before slots : List ℕ) (from found : Set) (value : ℕ) : Type 0 where
  pub image : Image (Pick value (λ k. Way (bind w v k) x back)) n from found
  pub outside : Outside part end before slots

pub record Choosing (bytes : List ℕ) (at end : ℕ) (back : Bool) (rows bound : List ℕ) (n : ℕ) (before slots : List ℕ) (from found : Set) (value : ℕ) : Type 0 where
  pub bare : Bare slots (at + 2) end
  pub each : (w : World) → Tabled w rows bound n → UpTo n from → (v : Variable) (x : Walk) → Lettered bytes (at + 1) v → Stands bytes (at + 2) (of_walk x)
      → end ≡ at + 2 + length (walk_text x) → Choice w v x back n (at + 2) end before slots from found value

-- the run of a value begins with slots that have nothing
value_begun : {w : World} {bytes rows bound slots inner : List ℕ} {n end : ℕ} {from : Set} (part : ℕ) (back : Bool) (v : Variable) (x : Walk) (k : ℕ) → Bare slots part end
    → inner ≡ set bound (place v) k → Tabled w rows bound n → UpTo n from → Stands bytes part (of_walk x)
    → end ≡ part + length (walk_text x) → Begun (bind w v k) bytes (Within part end) rows inner n part x back (start from) slots from
value_begun {w} {bytes} {rows} {bound} {slots} {inner} {n} {end} {from} part back v x k bare same tabled low s e = record {
  tabled = subst⁻¹ (λ (l : List ℕ). Tabled (bind w v k) rows l n) same (tabled_bound v k tabled);
  low = low;
  stands = s;
  ground = λ q i. i;
  covers = λ i above below. within_covers part end i above (omega (arith, e));
  told = within_told part end bare;
  seen = seen_none (bind w v k) n bytes slots x back (start from) part s (λ j above below star. bare j above (omega (arith, e)));
}

-- one value alone is enough, where the variable does not stand free
enough_walk : {bound : List ℕ} {many : ℕ} (w : World) (v : Variable) (x : Walk) (back : Bool) (n : ℕ) → Bears w bound → many ≤ domain_in bound
    → (many ≡ domain_in bound) ⊎ ((many ≡ 1) × (walk_free v x ≡ false)) → (p q : ℕ)
    → Pick many (λ k. Way (bind w v k) x back) p q n ↔ Pick w.domain (λ k. Way (bind w v k) x back) p q n
enough_walk w v x back n b low (inl same) p q = (λ h. (h.0, omega (arith, h.1, b.many), h.2), λ h. (h.0, omega (arith, h.1, b.many), h.2))
enough_walk w v x back n b low (inr (one, idle)) p q = (
  λ h. (h.0, omega (arith, h.1, b.many), h.2),
  λ h. (0, omega arith, (way_idle w v 0 x back idle p q n).1 ((way_idle w v h.0 x back idle p q n).0 h.2)),
)

module _ {bytes : List ℕ} {at end : ℕ} {back : Bool} {rows bound : List ℕ} {n : ℕ} {before : List ℕ} {from : Set} where
  pub choosing_start : {found : Set} → ((q : ℕ) → found q ≡ false) → Bare before (at + 2) end → Choosing bytes at end back rows bound n before before from found 0
  choosing_start empty bare = record {
    bare = bare;
    each = λ w tabled low v x l s e. record {
      image = record { each = λ q. (λ h. absurd (off_on (empty q) h), λ h. let few : h.2.0 < 0 = h.2.1 in absurd (omega arith)) };
      outside = outside_none;
    };
  }

  pub choosing_more : {slots middle after inner : List ℕ} {found there all : Set} {value here : ℕ}
      → ((v : Variable) → Lettered bytes (at + 1) v → here ≡ place v) → inner ≡ set bound here value → WalkKept bytes (at + 2) back rows inner n slots middle from there
      → Forgotten middle (at + 2) end after → ((q : ℕ) → all q ≡ (found q || there q)) → Choosing bytes at end back rows bound n before slots from found value
      → Choosing bytes at end back rows bound n before after from all (value + 1)
  choosing_more {slots} {middle} {after} {inner} {found} {there} {all} {value} {here} letter same f clean join r = record { bare = clean.none; each = go }
    where
      go : (w : World) → Tabled w rows bound n → UpTo n from → (v : Variable) (x : Walk) → Lettered bytes (at + 1) v → Stands bytes (at + 2) (of_walk x)
          → end ≡ at + 2 + length (walk_text x) → Choice w v x back n (at + 2) end before after from all (value + 1)
      go w tabled low v x l s e =
          let u = r.each w tabled low v x l s e in
          let own : inner ≡ set bound (place v) value = subst (λ (i : ℕ). inner ≡ set bound i value) (letter v l) same in
          let t = f.found (bind w v value) (Within (at + 2) end) x (start from) (value_begun (at + 2) back v x value r.bare own tabled low s e) in
          record {
            image = record {
              each = λ q. (
                λ h. ⊎_elim
                    (λ k. let (p, i, (j, few, way)) = (u.image.each q).0 k in let less : j < value = few in (p, i, (j, omega arith, way)))
                    (λ k. let (p, i, way) = t.most q k in (p, i, (value, omega arith, way)))
                    ((or_iff (found q) (there q)).0 (sym (join q) ∙ h)),
                λ h. let (p, i, (j, few, way)) = h in join q ∙ (or_iff (found q) (there q)).1 (last p q i j few way (dec_lt j value)),
              );
            };
            outside = outside_then u.outside (outside_then (outside_more (omega arith) (omega (arith, e)) t.outside) clean.outside);
          }
        where
          last : (p q : ℕ) → from p ≡ true → (j : ℕ) → j < value + 1 → Way (bind w v j) x back p q n → Dec (j < value) → (found q ≡ true) ⊎ (there q ≡ true)
          last p q i j few way (yes less) = inl (((r.each w tabled low v x l s e).image.each q).1 (p, i, (j, less, way)))
          last p q i j few way (no more) =
              let this : j ≡ value = omega arith in
              let own : inner ≡ set bound (place v) value = subst (λ (i : ℕ). inner ≡ set bound i value) (letter v l) same in
              inr ((f.found (bind w v value) (Within (at + 2) end) x (start from) (value_begun (at + 2) back v x value r.bare own tabled low s e)).least p q i
              (subst (λ (k : ℕ). Way (bind w v k) x back p q n) this way))

  -- all values gone over
  pub choosing_done : {first slots : List ℕ} {found : Set} {value many : ℕ} → get_or bytes at 0 ≡ 112 → BinderHere bytes at end → Turns bytes at (domain_in bound) many
      → Forgotten first (at + 2) end before → value ≡ many → Choosing bytes at end back rows bound n before slots from found value
      → WalkKept bytes at back rows bound n first slots from found
  unfolding Seen
  choosing_done {first} {slots} {found} {value} {many} sign here turns clean whole r = record { found = λ w scope x g b. go w scope g (spread b.stands 112 sign) b }
    where
      go : (w : World) (scope : Set) (g : Ground) {x : Walk} → Spread bytes at 112 (of_walk x) → Begun w bytes scope rows bound n at x back g first from
          → Walked w bytes scope n at x back g first slots from found
      go w scope g (pick_at v x l s) b =
          let e = here.ends (of_walk x) s in
          let u = r.each w b.tabled b.low v x l s e in
          let enough = subst⁻¹ (λ (k : ℕ). (k ≤ domain_in bound) × ((k ≡ domain_in bound) ⊎ ((k ≡ 1) × (walk_free v x ≡ false)))) whole (turns.low, turns.enough v (of_walk x) l s) in
          let all = enough_walk w v x back n b.tabled.bears enough.0 enough.1 in
          let changed = outside_then clean.outside u.outside in
          record {
            least = λ p q i h. (u.image.each q).1 (p, i, (all p q).1 ((pick_way w v x back p q n).0 h));
            most = λ q h. let (p, i, way) = (u.image.each q).0 h in (p, b.ground p i, (pick_way w v x back p q n).1 ((all p q).0 way));
            told = bare_told (at + 2) end r.bare changed b.told;
            seen = tt;
            outside = outside_more (omega arith) (omega (arith, e, pick_long v x)) changed;
          }

-- from nowhere a walk leads nowhere
pub nowhere_walked : {bytes : List ℕ} {at : ℕ} {back : Bool} {rows bound : List ℕ} {n : ℕ} {slots : List ℕ} {from found : Set} → ((q : ℕ) → from q ≡ false) → ((q : ℕ) → found q ≡ false)
    → WalkKept bytes at back rows bound n slots slots from found
nowhere_walked none empty = record {
  found = λ w scope x g b. record {
    least = λ p q i h. absurd (off_on (none p) i);
    most = λ q h. absurd (off_on (empty q) h);
    told = b.told;
    seen = b.seen;
    outside = outside_none;
  };
}

-- `evT`, with so many values gone over: what is left is where none of them makes the test true
pub record Sorted (w : World) (v : Variable) (x : Test) (n part end : ℕ) (before slots : List ℕ) (among found : Set) (value : ℕ) : Type 0 where
  pub sifted : Sifted (Exists value (λ k. Holds (bind w v k) x)) n among found
  pub outside : Outside part end before slots

pub record Sorting (bytes : List ℕ) (at end : ℕ) (rows bound : List ℕ) (n : ℕ) (before slots : List ℕ) (among found left : Set) (value : ℕ) : Type 0 where
  pub bare : Bare slots (at + 2) end
  pub rest : (q : ℕ) → left q ≡ (among q && not (found q))
  pub each : (w : World) → w.own ≡ w.inner → Tabled w rows bound n → UpTo n among → (v : Variable) (x : Test) → Lettered bytes (at + 1) v → Stands bytes (at + 2) (of_test x)
      → end ≡ at + 2 + length (test_text x) → Sorted w v x n (at + 2) end before slots among found value

module _ {bytes : List ℕ} {at end : ℕ} {rows bound : List ℕ} {n : ℕ} {before : List ℕ} {among : Set} where
  pub sorting_start : {found : Set} → ((q : ℕ) → found q ≡ false) → Bare before (at + 2) end → Sorting bytes at end rows bound n before before among found among 0
  sorting_start {found} empty bare = record {
    bare = bare;
    rest = λ q. all_left (among q) (found q) (empty q);
    each = λ w one tabled low v x l s e. record {
      sifted = record { each = λ q. (λ h. absurd (off_on (empty q) h), λ h. let few : h.1.0 < 0 = h.1.1 in absurd (omega arith)) };
      outside = outside_none;
    };
  }
    where
      all_left : (a b : Bool) → b ≡ false → a ≡ (a && not b)
      all_left true b e = rw e
      all_left false b e = refl

  pub sorting_more : {slots middle after inner : List ℕ} {found left there all still : Set} {value here : ℕ}
      → ((v : Variable) → Lettered bytes (at + 1) v → here ≡ place v) → inner ≡ set bound here value → TestKept bytes (at + 2) rows inner n slots middle left there
      → Forgotten middle (at + 2) end after → ((q : ℕ) → all q ≡ (found q || there q)) → ((q : ℕ) → still q ≡ (left q && not (there q)))
      → Sorting bytes at end rows bound n before slots among found left value → Sorting bytes at end rows bound n before after among all still (value + 1)
  sorting_more {slots} {middle} {after} {inner} {found} {left} {there} {all} {still} {value} {here} letter same f clean join without r = record {
    bare = clean.none;
    rest = λ q. without q ∙ rw (r.rest q, join q) (two-off (among q) (found q) (there q));
    each = go;
  }
    where
      two-off : (a b c : Bool) → ((a && not b) && not c) ≡ (a && not (b || c))
      two-off true true c = refl
      two-off true false c = refl
      two-off false b c = refl

      mine : (q : ℕ) → left q ≡ true → (among q ≡ true) × (found q ≡ false)
      mine q h = (rest_iff (among q) (found q)).0 (sym (r.rest q) ∙ h)

      asked : (w : World) → w.own ≡ w.inner → Tabled w rows bound n → UpTo n among → (v : Variable) (x : Test) → Lettered bytes (at + 1) v → Stands bytes (at + 2) (of_test x)
          → end ≡ at + 2 + length (test_text x) → Tested (bind w v value) bytes (Within (at + 2) end) n (at + 2) x slots middle left there
      asked w one tabled low v x l s e =
          let own : inner ≡ set bound (place v) value = subst (λ (i : ℕ). inner ≡ set bound i value) (letter v l) same in
          f.found (bind w v value) (Within (at + 2) end) one (subst⁻¹ (λ (k : List ℕ). Tabled (bind w v value) rows k n) own (tabled_bound v value tabled))
          (λ q h. low q (mine q h).0) x s (λ i above below. within_covers (at + 2) end i above (omega (arith, e))) (within_told (at + 2) end r.bare)

      go : (w : World) → w.own ≡ w.inner → Tabled w rows bound n → UpTo n among → (v : Variable) (x : Test) → Lettered bytes (at + 1) v → Stands bytes (at + 2) (of_test x)
          → end ≡ at + 2 + length (test_text x) → Sorted w v x n (at + 2) end before after among all (value + 1)
      go w one tabled low v x l s e =
          let u = r.each w one tabled low v x l s e in
          let t = asked w one tabled low v x l s e in
          record {
            sifted = record {
              each = λ q. (
                λ h. ⊎_elim
                    (λ k. let (i, (j, few, true-there)) = (u.sifted.each q).0 k in let less : j < value = few in (i, (j, omega arith, true-there)))
                    (λ k. let (i, true-there) = (t.sifted.each q).0 k in ((mine q i).0, (value, omega arith, true-there)))
                    ((or_iff (found q) (there q)).0 (sym (join q) ∙ h)),
                λ h. let (i, (j, few, true-there)) = h in join q ∙ (or_iff (found q) (there q)).1 (last q i j few true-there (dec_lt j value) (true_or_false (found q))),
              );
            };
            outside = outside_then u.outside (outside_then (outside_more (omega arith) (omega (arith, e)) t.outside) clean.outside);
          }
        where
          last : (q : ℕ) → among q ≡ true → (j : ℕ) → j < value + 1 → Holds (bind w v j) x q n → Dec (j < value) → (found q ≡ true) ⊎ (found q ≡ false)
              → (found q ≡ true) ⊎ (there q ≡ true)
          last q i j few true-there dec (inl in-found) = inl in-found
          last q i j few true-there (yes less) (inr out) = inl (((r.each w one tabled low v x l s e).sifted.each q).1 (i, (j, less, true-there)))
          last q i j few true-there (no more) (inr out) =
              let this : j ≡ value = omega arith in
              let own : left q ≡ true = r.rest q ∙ (rest_iff (among q) (found q)).1 (i, out) in
              inr (((asked w one tabled low v x l s e).sifted.each q).1 (own, subst (λ (k : ℕ). Holds (bind w v k) x q n) this true-there))

  -- all values gone over, or nothing left
  pub sorting_done : {first slots : List ℕ} {found left : Set} {value many : ℕ} → get_or bytes at 0 ≡ 101 → BinderHere bytes at end → Turns bytes at (domain_in bound) many
      → Forgotten first (at + 2) end before → value ≤ many → (many ≤ value) ⊎ ((q : ℕ) → left q ≡ false) → Sorting bytes at end rows bound n before slots among found left value
      → TestKept bytes at rows bound n first slots among found
  unfolding Leads
  sorting_done {first} {slots} {found} {left} {value} {many} sign here turns clean part whole r = record { found = λ w scope one tabled low x h covers. go w scope one tabled low (spread h 101 sign) }
    where
      go : (w : World) (scope : Set) → w.own ≡ w.inner → Tabled w rows bound n → UpTo n among → {x : Test} → Spread bytes at 101 (of_test x) → Told w n bytes scope first
          → Tested w bytes scope n at x first slots among found
      go w scope one tabled low (exists_at v x l s) told =
          let e = here.ends (of_test x) s in
          let u = r.each w one tabled low v x l s e in
          record {
            sifted = record {
              each = λ q. (
                λ h. let (i, (j, few, true-there)) = (u.sifted.each q).0 h in let less : j < value = few in (i, (j, omega (arith, turns.low, tabled.bears.many), true-there)),
                λ h. let (i, (j, few, true-there)) = h in last q i j few true-there whole (turns.enough v (of_test x) l s),
              );
            };
            told = bare_told (at + 2) end r.bare (outside_then clean.outside u.outside) told;
            outside = outside_more (omega arith) (omega (arith, e, exists_long v x)) (outside_then clean.outside u.outside);
          }
        where
          last : (q : ℕ) → among q ≡ true → (j : ℕ) → j < w.domain → Holds (bind w v j) x q n → (many ≤ value) ⊎ ((q : ℕ) → left q ≡ false)
              → (many ≡ domain_in bound) ⊎ ((many ≡ 1) × (test_free v x ≡ false)) → found q ≡ true
          last q i j few true-there (inr none) any = ⊎_elim
              (λ k. k)
              (λ out. absurd (off_on (none q) (r.rest q ∙ (rest_iff (among q) (found q)).1 (i, out))))
              (true_or_false (found q))
          last q i j few true-there (inl done) (inl all) =
              ((r.each w one tabled low v x l s (here.ends (of_test x) s)).sifted.each q).1 (i, (j, omega (arith, tabled.bears.many), true-there))
          last q i j few true-there (inl done) (inr (single, idle)) =
              ((r.each w one tabled low v x l s (here.ends (of_test x) s)).sifted.each q).1
              (i, (0, omega arith, (at_times (holds_idle w v 0 x idle) q n).1 ((at_times (holds_idle w v j x idle) q n).0 true-there)))

-- One pass over `pvW`: what is asked for with the values gone over so far, too.
pub record Posing (may : ℕ → Bool) (bytes : List ℕ) (at end : ℕ) (rows bound : List ℕ) (n : ℕ) (before slots : List ℕ) (from reached : Set) (word value : ℕ) : Type 0 where
  pub choosing : Choosing bytes at end false rows bound n before slots from reached value
  pub posed : (w : World) → Tabled w rows bound n → UpTo n from → (v : Variable) (x : Walk) → Lettered bytes (at + 1) v → Stands bytes (at + 2) (of_walk x)
      → end ≡ at + 2 + length (walk_text x) → (a : ℕ) → a < action_limit
      → (on word a ≡ true) ↔ ((p : ℕ) × (from p ≡ true) × ((k : ℕ) × (k < value) × AsksAt may (bind w v k) (at + 2) x p n a))

module _ {may : ℕ → Bool} {bytes : List ℕ} {at end : ℕ} {rows bound : List ℕ} {n : ℕ} {before : List ℕ} {from : Set} where
  pub posing_start : {reached : Set} → ((q : ℕ) → reached q ≡ false) → Bare before (at + 2) end → Posing may bytes at end rows bound n before before from reached 0 0
  posing_start empty bare = record {
    choosing = choosing_start empty bare;
    posed = λ w tabled low v x l s e a room. (λ h. absurd (off_on (on_none a) h), λ h. let few : h.2.0 < 0 = h.2.1 in absurd (omega arith));
  }

  pub posing_more : {slots middle after inner : List ℕ} {reached there all : Set} {word said value here : ℕ}
      → ((v : Variable) → Lettered bytes (at + 1) v → here ≡ place v) → inner ≡ set bound here value → AskKept may bytes (at + 2) rows inner n slots middle from there said
      → Forgotten middle (at + 2) end after → ((q : ℕ) → all q ≡ (reached q || there q)) → Posing may bytes at end rows bound n before slots from reached word value
      → Posing may bytes at end rows bound n before after from all (bit_or word said) (value + 1)
  posing_more {slots} {middle} {after} {inner} {reached} {there} {all} {word} {said} {value} {here} letter same f clean join r = record {
    choosing = choosing_more letter same f.walked clean join r.choosing;
    posed = go;
  }
    where
      go : (w : World) → Tabled w rows bound n → UpTo n from → (v : Variable) (x : Walk) → Lettered bytes (at + 1) v → Stands bytes (at + 2) (of_walk x)
          → end ≡ at + 2 + length (walk_text x) → (a : ℕ) → a < action_limit
          → (on (bit_or word said) a ≡ true) ↔ ((p : ℕ) × (from p ≡ true) × ((k : ℕ) × (k < value + 1) × AsksAt may (bind w v k) (at + 2) x p n a))
      go w tabled low v x l s e a few =
          let own : inner ≡ set bound (place v) value = subst (λ (i : ℕ). inner ≡ set bound i value) (letter v l) same in
          let bare = r.choosing.bare in
          let u = r.posed w tabled low v x l s e a few in
          let t = asked_exact f (bind w v value) (Within (at + 2) end) x (value_begun (at + 2) false v x value bare own tabled low s e) (λ j above below star. bare j above (omega (arith, e))) a few in (
            λ h. ⊎_elim
                (λ k. let (p, i, (j, some, asks)) = u.0 k in let less : j < value = some in (p, i, (j, omega arith, asks)))
                (λ k. let (p, i, asks) = t.0 k in (p, i, (value, omega arith, asks)))
                ((or_iff (on word a) (on said a)).0 (sym (on_or word said a) ∙ h)),
            λ h. let (p, i, (j, some, asks)) = h in on_or word said a ∙ (or_iff (on word a) (on said a)).1 (elim (dec_lt j value) [
              | yes less ↦ inl (u.1 (p, i, (j, less, asks)))
              | no more ↦
                  let this : j ≡ value = omega (arith, some) in
                  inr (t.1 (p, i, subst (λ (k : ℕ). AsksAt may (bind w v k) (at + 2) x p n a) this asks))
            ]),
          )

  pub posing_done : {first slots : List ℕ} {reached : Set} {word value many : ℕ} → get_or bytes at 0 ≡ 112 → BinderHere bytes at end → Turns bytes at (domain_in bound) many
      → Forgotten first (at + 2) end before → value ≡ many → Posing may bytes at end rows bound n before slots from reached word value
      → AskKept may bytes at rows bound n first slots from reached word
  unfolding Heard AsksAt
  posing_done {first} {slots} {reached} {word} {value} {many} sign here turns clean whole r = record {
    walked = choosing_done sign here turns clean whole r.choosing;
    asked = λ w scope x g b these h. go w scope g (spread b.stands 112 sign) b these;
  }
    where
      go : (w : World) (scope : Set) (g : Ground) {x : Walk} → Spread bytes at 112 (of_walk x) → Begun w bytes scope rows bound n at x false g first from → (these : Set)
          → Asking may w n at x g these slots from word
      go w scope g (pick_at v x l s) b these =
          let u = r.posed w b.tabled b.low v x l s (here.ends (of_walk x) s) in
          let many_is = b.tabled.bears.many in
          record {
            least = λ p a room i h. (or_iff (these a) (on word a)).1 (inr ((u a room).1 (p, i, turned p a h (turns.enough v (of_walk x) l s))));
            most = λ a room h. let (p, i, (k, some, asks)) = (u a room).0 h in let less : k < value = some in (p, b.ground p i, (k, omega (arith, turns.low, many_is, whole), asks));
            heard = tt;
          }
        where
          turned : (p a : ℕ) → (i : ℕ) × (i < w.domain) × AsksAt may (bind w v i) (at + 2) x p n a → (many ≡ domain_in bound) ⊎ ((many ≡ 1) × (walk_free v x ≡ false))
              → (k : ℕ) × (k < value) × AsksAt may (bind w v k) (at + 2) x p n a
          turned p a (k, some, asks) (inl all) = (k, omega (arith, some, b.tabled.bears.many, whole), asks)
          turned p a (k, some, asks) (inr (one, idle)) =
              (0, omega (arith, whole), (asks_idle may w v 0 (at + 2) x idle p n a).1 ((asks_idle may w v k (at + 2) x idle p n a).0 asks))

-- from nowhere nothing is asked for
pub nowhere_asked : {may : ℕ → Bool} {bytes : List ℕ} {at : ℕ} {rows bound : List ℕ} {n : ℕ} {slots : List ℕ} {from reached : Set} → get_or bytes at 0 ≡ 112 → ((q : ℕ) → from q ≡ false)
    → ((q : ℕ) → reached q ≡ false) → AskKept may bytes at rows bound n slots slots from reached 0
unfolding Heard
nowhere_asked {may} {bytes} {at} {rows} {bound} {n} {slots} {from} {reached} sign none empty = record {
  walked = nowhere_walked none empty;
  asked = λ w scope x g b these h. go w scope g (spread b.stands 112 sign) b these;
}
  where
    go : (w : World) (scope : Set) (g : Ground) {x : Walk} → Spread bytes at 112 (of_walk x) → Begun w bytes scope rows bound n at x false g slots from → (these : Set)
        → Asking may w n at x g these slots from 0
    go w scope g (pick_at v x l s) b these = record {
      least = λ p a room i h. absurd (off_on (none p) i);
      most = λ a room h. absurd (off_on (on_none a) h);
      heard = tt;
    }

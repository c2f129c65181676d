-- The test of a `?` at the positions of a turn, which have one now: it says there what the walk's meaning asks of it, and what has been told stays right. Knows what the test's
-- own call promises.
use mathlib.Core.Path.{◌≡◌, refl, sym, ap, ap₂, subst, subst⁻¹, ◌∙◌}
use mathlib.Core.Logic.{◌↔◌}
use mathlib.Core.Bool.{true}
use mathlib.Core.List.{List}
use Prim.Native.Nat.{ℕ, zero, suc, ◌+◌, ◌≤◌}
use native.Mathlib.Decide.{ℕ_discrete}
use native.Mathlib.Omega.{arith}
use lib.ListN.{length}
use Rattle.meaning.specs.Theory.{World, now_step, inside}
use Rattle.meaning.specs.Rule.{Test, of_test, test_text}
use Rattle.meaning.specs.Leads.{Truth, Holds, own_now}
use Rattle.meaning.proofs.Bounds.{own_within}
use Rattle.meaning.proofs.Readings.{holds_owning, inside_now}
use Rattle.theory.specs.Subject.{reading_of}
use Rattle.grammar.specs.Standing.{Stands}
use Rattle.runs.specs.Image.{Set, UpTo, Sifted}
use Rattle.runs.specs.Values.{own_in, inner_in, inside_of}
use Rattle.runs.specs.Readings.{Together, Renewed}
use Rattle.runs.specs.Found.{Tabled}
use Rattle.runs.specs.Slots.{Outside}
use Rattle.runs.specs.Run.{Told, Covers, TestKept}
use Rattle.runs.proofs.Bound.{tabled_inside, tabled_earlier}
use Rattle.runs.proofs.Keeping.{outside_more, outside_then}
use Rattle.runs.proofs.Seen.{told_as, Within, within_covers, within_told, bare_told}

-- the now of a test of the walk's own, by the number of its reading
pub own_step : (w : World) (p n reading : ℕ) → w.own ≡ reading_of reading → reading ≡ 0 → own_now w p n ≡ p
unfolding own_now
own_step w p n reading e none = let step : w.own ≡ now_step = e ∙ ap reading_of none in rw step refl

pub own_end : (w : World) (p n reading : ℕ) → w.own ≡ reading_of reading → (reading ≡ 0 → ⊥) → own_now w p n ≡ n
unfolding own_now
own_end w p n zero e some = absurd (some refl)
own_end w p n (suc reading) e some = rw e refl

-- The test of a `?` at the positions of a turn: asked inside a `<`, in the scope of the walk where both are read as one, and else in a scope of its own.
pub record Turned (w : World) (n : ℕ) (bytes : List ℕ) (scope : Set) (at : ℕ) (x : Test) (slots after : List ℕ) (these there : Set) : Type 0 where
  pub sift : (q : ℕ) → (there q ≡ true) ↔ ((these q ≡ true) × Holds w x q (own_now w q n))
  pub told : Told w n bytes scope after
  pub outside : Outside (at + 1) (at + 1 + length (test_text x)) slots after

module _ {bytes : List ℕ} (at : ℕ) {rows bound : List ℕ} {n end own : ℕ} {left these there : Set} {slots clean tested after inner : List ℕ}
    (turn : Together left n bound own these) (same : inner ≡ inside_of bound) (fresh : Renewed bound slots (at + 1) end clean)
    (f : TestKept bytes (at + 1) rows inner own clean tested these there) (again : Renewed bound tested (at + 1) end after) where
  -- the turn's now is not past now, and none of its positions is past it
  now_there : (w : World) → Tabled w rows bound n → UpTo n left → (q : ℕ) → these q ≡ true → (q ≤ own) × (own ≤ n)
  now_there w tabled low q h =
      let e = turn.now w tabled.bears.own q h in
      let between = own_within w q n (low q (turn.within q h)) in
      (omega (arith, between.0), omega (arith, between.1))

  inside_tabled : (w : World) → Tabled w rows bound n → UpTo n left → Tabled (inside w) rows inner own
  inside_tabled w tabled low =
      let early = (now_there w tabled low turn.some.0 turn.some.1).1 in
      subst⁻¹ (λ (l : List ℕ). Tabled (inside w) rows l own) same (tabled_inside (tabled_earlier tabled early))

  sift_there : (w : World) → Tabled w rows bound n → (x : Test) → Sifted (Holds (inside w) x) own these there
      → (q : ℕ) → (there q ≡ true) ↔ ((these q ≡ true) × Holds w x q (own_now w q n))
  sift_there w tabled x s q =
      let now : these q ≡ true → Holds (inside w) x q own ≡ Holds w x q (own_now w q n)
      = λ h. ap₂ (λ (t : Truth) (k : ℕ). t q k) (holds_owning w w.inner x) (sym (turn.now w tabled.bears.own q h)) in (
        λ h. let (mine, holds) = (s.each q).0 h in (mine, subst (λ (t : Type 0). t) (now mine) holds),
        λ h. (s.each q).1 (h.0, subst⁻¹ (λ (t : Type 0). t) (now h.0) h.1),
      )

  pub turned : (w : World) (scope : Set) → Tabled w rows bound n → UpTo n left → (x : Test) → Stands bytes (at + 1) (of_test x) → at + 1 + length (test_text x) ≡ end
      → Covers scope at (at + 1 + length (test_text x)) → Told w n bytes scope slots → Turned w n bytes scope at x slots after these there
  turned w scope tabled low x stands ends covers told = go (ℕ_discrete (own_in bound) (inner_in bound))
    where
      alone : UpTo own these
      alone q h = (now_there w tabled low q h).0

      one : own_in bound ≡ inner_in bound → w.own ≡ w.inner
      one e = tabled.bears.own ∙ ap reading_of e ∙ sym tabled.bears.inner

      nows : own_in bound ≡ inner_in bound → (p : ℕ) → own_now w p n ≡ own_now (inside w) p own
      nows e = let (q, h) = turn.some in inside_now w q n own (one e) (turn.now w tabled.bears.own q h)

      go : Dec (own_in bound ≡ inner_in bound) → Turned w n bytes scope at x slots after these there
      go (yes e) =
          let kept : Told (inside w) own bytes scope clean
          = subst⁻¹ (Told (inside w) own bytes scope) (fresh.same e) (told_as w (inside w) n own (λ y. sym (holds_owning w w.inner y)) (nows e) told) in
          let t = f.found (inside w) scope refl (inside_tabled w tabled low) alone x stands (λ i above below. covers i (omega arith) below) kept in
          record {
            sift = sift_there w tabled x t.sifted;
            told = subst⁻¹ (Told w n bytes scope) (again.same e) (told_as (inside w) w own n (λ y. holds_owning w w.inner y) (λ p. sym (nows e p)) t.told);
            outside = subst (λ (l : List ℕ). Outside (at + 1) (at + 1 + length (test_text x)) l after) (fresh.same e)
                (subst⁻¹ (Outside (at + 1) (at + 1 + length (test_text x)) clean) (again.same e) (outside_more (omega arith) (omega arith) t.outside));
          }
      go (no apart) =
          let clear = fresh.other apart in
          let over = again.other apart in
          let t = f.found (inside w) (Within (at + 1) end) refl (inside_tabled w tabled low) alone x stands
          (λ i above below. within_covers (at + 1) end i above (omega arith)) (within_told (at + 1) end clear.none) in
          let changed : Outside (at + 1) end slots after
          = outside_then clear.outside (outside_then (outside_more (omega arith) (omega arith) t.outside) over.outside) in
          record {
            sift = sift_there w tabled x t.sifted;
            told = bare_told (at + 1) end over.none changed told;
            outside = outside_more (omega arith) (omega arith) changed;
          }

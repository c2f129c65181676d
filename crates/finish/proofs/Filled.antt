-- The table of lengths, whole: what is measured from the job's end leaves out no sign that is needed. Knows no code.
use mathlib.Core.Path.{◌≡◌, refl, sym, ap, subst}
use mathlib.Core.Bool.{true}
use mathlib.Core.List.{List}
use Prim.Native.Nat.{ℕ, ◌+◌, ◌≤◌, ◌<◌}
use native.Mathlib.Omega.{arith}
use lib.ListN.{length, replicate, length-replicate, get_or-replicate}
use Rattle.laws.specs.Bit.{on}
use Rattle.meaning.specs.Limits.{text_limit}
use Rattle.meaning.specs.Rule.{Walk, walk_text, of_walk}
use Rattle.meaning.specs.Lengths.{Reaching, allows}
use Rattle.theory.specs.Subject.{Subject, counts_of, table_masks, world_of}
use Rattle.grammar.specs.Standing.{Stands}
use Rattle.grammar.proofs.Spread.{inside}
use Rattle.finish.specs.Search.{stands}
use Rattle.finish.specs.Lengths.{Closed, BeforeTold, FillHere, FollowTold}
use Rattle.finish.proofs.Gained.{closed_none}
use Rattle.finish.proofs.LeftOut.{measured_allows}

pub empty_room : {actions : ℕ} {masks job ends log follow : List ℕ} → FillHere actions masks job ends log follow → length job ≤ length follow
empty_room {job = job} {follow = follow} h = omega (arith, h.short, ap length h.empty, length-replicate {A = ℕ} (text_limit + 1) 0)

pub filled : (s : Subject) {job ends follow larger : List ℕ} {state ons offs before : ℕ} → FillHere (counts_of s).actions s.masks job ends s.log follow
    → state ≡ stands (world_of s) → Reaching (counts_of s).actions (table_masks s.masks) state ons offs
    → BeforeTold job 0 ons offs 1 follow larger before → FollowTold s job larger
filled s {job} {follow = follow} {larger = larger} {ons = ons} {offs = offs} {before = before} here e reach told = record {
  each = λ x j.
      let empty : Closed ons offs follow 0 x = subst (λ (f : List ℕ). Closed ons offs f 0 x) (sym here.empty) (closed_none ons offs 0 x) in
      measured_allows (world_of s) x ons offs before larger j.onward (subst (λ (i : ℕ). Reaching (counts_of s).actions (table_masks s.masks) i ons offs) e reach)
      (told.each x j.there empty).measured;
}

-- a table in which every sign may ask, whatever follows
pub all_allowed : (job : List ℕ) (x : Walk) → length job ≤ text_limit → Stands job 0 (of_walk x) → (i : ℕ) → i < 0 + length (walk_text x)
    → allows (replicate (text_limit + 1) 255) 0 i ≡ true
unfolding on
all_allowed job x short there i h = rw (get_or-replicate {A = ℕ} (text_limit + 1) i 255 0 (omega (arith, inside there))) refl

-- Which actions the search may leave out: those that are not possible, and those that no sign of the job asks for behind which it can be as long as needed. Knows no text.
use mathlib.Core.Path.{◌≡◌, sym, subst, ◌∙◌}
use mathlib.Core.Logic.{◌↔◌}
use mathlib.Core.Bool.{Bool, true, false}
use mathlib.Core.List.{List, [], ◌∷◌, ◌++◌, append-nil}
use Prim.Native.Nat.{ℕ, ◌+◌, ◌≤◌, ◌<◌}
use native.Mathlib.Omega.{arith}
use lib.Bits.{bit_and}
use lib.ListN.{length}
use lib.Seq.{append_snoc}
use Rattle.laws.specs.Bit.{on}
use Rattle.meaning.specs.Limits.{action_limit, more_limit}
use Rattle.meaning.specs.Theory.{World, as_job, Possible, relog}
use Rattle.meaning.specs.Rule.{Walk, backward, walk_text}
use Rattle.meaning.specs.Asks.{AsksAt}
use Rattle.meaning.specs.Lengths.{allows, Reaching, Measured}
use Rattle.meaning.proofs.AsksAt.{all_ask, next_asked_at}
use Rattle.laws.proofs.Truth.{off_on, and_iff}
use Rattle.laws.proofs.Bitwise.{on_and}
use Rattle.theory.specs.Subject.{Subject, counts_of, table_masks, world_of}
use Rattle.finish.specs.Search.{stands, grown, Allows, Tries}
use Rattle.finish.specs.Next.{MayCome}
use Rattle.finish.specs.Found.{Doable, MayBegin}
use Rattle.finish.proofs.Lengths.{completes_more}

-- a table of the lengths as the meaning has them leaves out no sign that is needed
pub measured_allows : (w : World) (x : Walk) (ons offs before : ℕ) (follow : List ℕ) → backward x ≡ false → Reaching w.actions w.masks (stands w) ons offs
    → Measured ons offs follow 0 x 1 before → Allows w x follow
measured_allows w x ons offs before follow onward reach measured tried a rest short c =
    next_asked_at w x ons offs follow before tried a rest onward reach measured c.able short c.done

-- nor does it where one more action has been taken
pub allows_grown : (w : World) (x : Walk) (follow : List ℕ) (b : ℕ) → b < w.actions → Possible (w.masks b) (stands w) → Allows w x follow → Allows (grown w b) x follow
allows_grown w x follow b known able allow tried a rest short c =
    subst (λ (l : List ℕ). AsksAt (allows follow (length rest)) (relog (as_job w) l) 0 x 0 (length l) a) (sym (append_snoc w.log b tried))
    (allow (b ∷ tried) a rest short ((completes_more w x b (tried ++ a ∷ rest)).1 (known, able, c)))

-- so what may come next can be taken, and no action left out begins a rest of such a length that completes the job
pub next_tries : (w : World) (x : Walk) (follow : List ℕ) (left actions : ℕ) → left ≤ more_limit → Allows w x follow → MayBegin (allows follow left) w x actions
    → Tries w x left actions
next_tries w x follow left actions short allow next =
    record {
      possible = λ a h. let u = (next a).0 h in (u.0, u.1);
      leaves = λ a h rest e c.
          let u = (completes_more w x a rest).0 c in
          let asked = subst (λ (l : List ℕ). AsksAt (allows follow (length rest)) (relog (as_job w) l) 0 x 0 (length l) a) (append-nil w.log) (allow [] a rest (omega arith) c) in
          off_on h ((next a).1 (u.0, u.1, subst (λ (k : ℕ). AsksAt (allows follow k) (as_job w) 0 x 0 (length w.log) a) e asked));
    }

-- where every sign may ask
pub begin_come : (may : ℕ → Bool) (w : World) (x : Walk) (actions : ℕ) → ((i : ℕ) → i < 0 + length (walk_text x) → may i ≡ true) → MayBegin may w x actions → MayCome w x actions
begin_come may w x actions all next a =
    let same = all_ask may (as_job w) 0 x all 0 (length w.log) a in (
      λ h. let u = (next a).0 h in (u.0, u.1, same.0 u.2),
      λ h. (next a).1 (h.0, h.1, same.1 h.2),
    )

-- the word of those that are possible and of those that the job asks for
pub asked_next : (may : ℕ → Bool) (s : Subject) (x : Walk) (state able asked : ℕ) → (counts_of s).actions ≤ action_limit
    → state ≡ stands (world_of s) → Doable (counts_of s).actions s.masks state able
    → ((a : ℕ) → a < action_limit → (on asked a ≡ true) ↔ AsksAt may (as_job (world_of s)) 0 x 0 (length s.log) a)
    → MayBegin may (world_of s) x (bit_and able asked)
asked_next may s x state able asked few e d asks a = (
  λ h.
      let both = (and_iff (on able a) (on asked a)).0 (sym (on_and able asked a) ∙ h) in
      let u = (d.each a).0 both.0 in
      (u.0, rw (← e) u.1, (asks a (omega (arith, u.0))).0 both.1),
  λ h. on_and able asked a ∙ (and_iff (on able a) (on asked a)).1 ((d.each a).1 (h.0, rw e h.1), (asks a (omega (arith, h.0))).1 h.2),
)

pub asked_able : (s : Subject) (state able asked : ℕ) → state ≡ stands (world_of s) → Doable (counts_of s).actions s.masks state able
    → (a : ℕ) → on (bit_and able asked) a ≡ true → (a < (counts_of s).actions) × Possible (table_masks s.masks a) (stands (world_of s))
asked_able s state able asked e d a h =
    let both = (and_iff (on able a) (on asked a)).0 (sym (on_and able asked a) ∙ h) in
    let u = (d.each a).0 both.0 in
    (u.0, rw (← e) u.1)

-- Document 02, Q-13, "Yesterday's verdict stands": of a log up to now and whatever follows it, and of what reach answers. Knows the first law of cutting a log.
use mathlib.Core.Logic.Iff
use mathlib.Core.Logic.{◌↔◌}
use mathlib.Core.Bool.{Bool}
use mathlib.Core.List.{List, ◌++◌}
use Prim.Native.Nat.{ℕ, ◌≤◌}
use lib.ListN.{length}
use Rattle.meaning.specs.Theory.{World, relog}
use Rattle.meaning.specs.Rule.{Walk, Test}
use Rattle.meaning.specs.Leads.{Leads, Holds}
use Rattle.meaning.specs.Reach.{Reached, ReachedAs}
use Rattle.meaning.specs.Stands.{Agree}
use Rattle.meaning.proofs.Cut.{agree_since, leads_cut, holds_cut}

-- "an answer at (then, now) is the same whichever actions follow position now in the log"
module _ (w : World) (l more other : List ℕ) (t n : ℕ) (now : n ≤ length l) where
  pub walk_stands : (x : Walk) (q : ℕ) → Leads (relog w (l ++ more)) x t q n ↔ Leads (relog w (l ++ other)) x t q n
  walk_stands x q = leads_cut w x (l ++ more) (l ++ other) t q n (agree_since l more other n now)

  pub test_stands : (x : Test) → t ≤ n → Holds (relog w (l ++ more)) x t n ↔ Holds (relog w (l ++ other)) x t n
  test_stands x h = holds_cut w x (l ++ more) (l ++ other) t n (agree_since l more other n now) h

-- the set, its count and its earliest position
module _ (w : World) (x : Walk) (l l' : List ℕ) (t n : ℕ) (same : Agree l l' n) where
  pub reached_stands : {held : ℕ → Bool} {count earliest : ℕ} → Reached (relog w l) x t n held count earliest → Reached (relog w l') x t n held count earliest
  reached_stands r = record { holds = λ q. Iff.trans (r.holds q) (leads_cut w x l l' t q n same); counted = r.counted; first = r.first }

  pub reached_as_stands : {set count earliest : ℕ} → ReachedAs (relog w l) x t n set count earliest → ReachedAs (relog w l') x t n set count earliest
  reached_as_stands r = record { held = r.held; written = r.written; reached = reached_stands r.reached }

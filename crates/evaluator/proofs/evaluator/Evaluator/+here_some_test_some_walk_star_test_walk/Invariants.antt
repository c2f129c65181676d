-- The proof of the evaluator's cycle of calls {here, some_test, some_walk, star, test, walk}: a line for each need, by the laws of Calls (what stands behind a
-- sign), Found (what the parts' answers make, and what is kept), Rounds and Chosen (what the loops hold). The measure is the text that is left, twice; `star`,
-- `here` and the binders are called at the walk's or the test's own place, so they have one less.
use Prim.Native.Nat.{◌-◌, ◌*◌}
use mathlib.Core.Path.{◌≡◌}
use lib.ListN.{length}
use Rattle.meaning.specs.Limits.{places}
use Rattle.meaning.specs.Reach.{count_of}
use Rattle.positions.specs.Positions.{holds}
use Rattle.steps.specs.Values.{listed}
use Rattle.runs.proofs.Rounds.{Rounds, Sifting}
use Rattle.runs.proofs.Chosen.{Choosing, Sorting}
use Rattle.evaluator.proofs.evaluator.Evaluator.+here_some_test_some_walk_star_test_walk.Given as goal

abbrev pub decreases-here : goal.decreases-here
decreases-here l = 2 * (length l.self.now.text.now - l.at) - 1

abbrev pub decreases-some_test : goal.decreases-some_test
decreases-some_test l = 2 * (length l.self.now.text.now - l.at) - 1

abbrev pub decreases-some_walk : goal.decreases-some_walk
decreases-some_walk l = 2 * (length l.self.now.text.now - l.at) - 1

abbrev pub decreases-star : goal.decreases-star
decreases-star l = 2 * (length l.self.now.text.now - l.at) - 1

abbrev pub decreases-test : goal.decreases-test
decreases-test l = 2 * (length l.self.now.text.now - l.at)

abbrev pub decreases-walk : goal.decreases-walk
decreases-walk l = 2 * (length l.self.now.text.now - l.at)

-- of the positions asked in all, it holds the ones gone over where the test is true
abbrev pub invariant-here-loop-left : goal.invariant-here-loop-left
invariant-here-loop-left l =
    (length l.slots ≡ length l.initial.slots) × Sifting l.self.text.now l.at l.self.rows.now (listed l.vars) l.now l.initial.slots l.slots (holds l.among) (holds l.asked) (holds l.left) (holds l.held)

abbrev pub decreases-here-loop-left : goal.decreases-here-loop-left
decreases-here-loop-left l = count_of (holds l.left)

-- where a value gone over makes the test true, and what is left
abbrev pub invariant-some_test-loop-next : goal.invariant-some_test-loop-next
invariant-some_test-loop-next l =
    (length l.slots ≡ length l.initial.slots) × Sorting l.self.text.now l.at l.end l.self.rows.now (listed l.vars) l.now l.initial.slots l.slots (holds l.initial.left) (holds l.found) (holds l.left) l.next

-- where the values gone over lead to
abbrev pub invariant-some_walk-loop-value : goal.invariant-some_walk-loop-value
invariant-some_walk-loop-value l =
    (length l.slots ≡ length l.initial.slots) × Choosing l.self.text.now l.at l.end l.back l.self.rows.now (listed l.vars) l.now l.initial.slots l.slots (holds l.from) (holds l.found) l.value

-- from what it has seen the next step is seen or new, and all of that is led to
abbrev pub invariant-star-loop-new : goal.invariant-star-loop-new
invariant-star-loop-new l =
    (length l.slots ≡ length l.initial.slots) × Rounds l.self.text.now l.at l.back l.self.rows.now (listed l.vars) l.now l.initial.slots l.slots (holds l.initial.new) (holds l.seen) (holds l.new)

abbrev pub decreases-star-loop-new : goal.decreases-star-loop-new
decreases-star-loop-new l = places - count_of (holds l.seen)

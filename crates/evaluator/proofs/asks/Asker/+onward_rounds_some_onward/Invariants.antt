-- The proof of the cycle of calls {onward, rounds, some_onward}: a line for each need, by the laws of Calls (what stands behind a sign), Signs, Heard and Chosen
-- (where the parts lead and what they ask for). The measure is the text that is left, twice; `rounds` and `some_onward` are called at the walk's own place, so
-- they have one less.
use Prim.Native.Nat.{◌-◌, ◌*◌}
use mathlib.Core.Path.{◌≡◌}
use lib.ListN.{length}
use Rattle.meaning.specs.Limits.{places}
use Rattle.meaning.specs.Reach.{count_of}
use Rattle.meaning.specs.Lengths.{allows}
use Rattle.positions.specs.Positions.{holds}
use Rattle.steps.specs.Values.{listed}
use Rattle.runs.proofs.Heard.{Speaking}
use Rattle.runs.proofs.Chosen.{Posing}
use Rattle.evaluator.proofs.asks.Asker.+onward_rounds_some_onward.Given as goal

abbrev pub decreases-onward : goal.decreases-onward
decreases-onward l = 2 * (length l.self.now.evaluator.text.now - l.at)

abbrev pub decreases-rounds : goal.decreases-rounds
decreases-rounds l = 2 * (length l.self.now.evaluator.text.now - l.at) - 1

abbrev pub decreases-some_onward : goal.decreases-some_onward
decreases-some_onward l = 2 * (length l.self.now.evaluator.text.now - l.at) - 1

-- as of a star, and what its walk asks for from where it has been is told
abbrev pub invariant-rounds-loop-new : goal.invariant-rounds-loop-new
invariant-rounds-loop-new l =
    (length l.slots ≡ length l.initial.slots) × Speaking (allows l.self.follow.now l.self.left) l.self.evaluator.text.now l.at l.self.evaluator.rows.now (listed l.vars) l.self.end l.initial.slots l.slots (holds l.initial.new) (holds l.seen) (holds l.new) l.asked

abbrev pub decreases-rounds-loop-new : goal.decreases-rounds-loop-new
decreases-rounds-loop-new l = places - count_of (holds l.seen)

-- where the values gone over lead to, and what is asked for with them
abbrev pub invariant-some_onward-loop-value : goal.invariant-some_onward-loop-value
invariant-some_onward-loop-value l =
    (length l.slots ≡ length l.initial.slots) × Posing (allows l.self.follow.now l.self.left) l.self.evaluator.text.now l.at l.last l.self.evaluator.rows.now (listed l.vars) l.self.end l.initial.slots l.slots (holds l.from) (holds l.reached) l.asked l.value

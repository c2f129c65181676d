-- The proof of the cycle of calls {before, rounds} of `finish::truth::Job`: a line for each need, by the laws of Calls (what stands behind a sign), Gained (what the parts'
-- lengths make) and Rounds (what a round adds). The measure is the text that is left, twice; `rounds` is called at its star's own place, so it has one less.
use mathlib.Core.Path.{◌≡◌}
use Prim.Native.Nat.{◌-◌, ◌*◌, ◌^◌, ◌<◌}
use lib.Bits.{bit_and}
use lib.ListN.{length}
use Rattle.finish.proofs.Rounds.{Rounds}
use Rattle.finish.proofs.truth.Job.+before_rounds.Given as goal

abbrev pub decreases-before : goal.decreases-before
decreases-before l = 2 * (length l.self.text.now - l.at)

abbrev pub decreases-rounds : goal.decreases-rounds
decreases-rounds l = 2 * (length l.self.text.now - l.at) - 1

-- what is new is not seen yet, and what the rounds lead to is one or the other
abbrev pub invariant-rounds-loop-new : goal.invariant-rounds-loop-new
invariant-rounds-loop-new l =
    (length l.follow ≡ length l.initial.follow) × Rounds l.self.text.now l.at l.turning.ons l.turning.offs l.behind l.initial.follow l.follow l.seen l.new × (l.seen < 2 ^ 8) × (l.new < 2 ^ 8) × (bit_and l.seen l.new ≡ 0)

abbrev pub decreases-rounds-loop-new : goal.decreases-rounds-loop-new
decreases-rounds-loop-new l = 2 ^ 8 - l.seen

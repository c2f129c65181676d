-- `wyh_reach` meets its contract: what `ask::reach` answers, as a number and three slots; count and earliest are at most 64, so that they fit.
use native.Mathlib.Omega.{arith}
use Rattle.ask.specs.Reach.{ReachAnswered}
use Rattle.exported.specs.Exported.{asked}
use Rattle.ask_calls.proofs.Small.{reach_small}
use Rattle.ask_calls.proofs.wyh_reach.Goals as goal
use Rattle.ask_calls.proofs.wyh_reach.Goals.{After-told-refusal}

-- what was told is what `ask::reach` answers
answered : (c : After-told-refusal) → let a = c.args in let slot = c.told-refusal.new.slot in
    ReachAnswered (asked a.fluents a.actions a.domain a.start a.reading a.masks.now a.log.now) a.walk.now a.then a.now c.told-refusal.result slot.set slot.count slot.earliest
answered c = rw (c.told-refusal.ensures.number, c.told-refusal.ensures.value) (rw c.of-setting.ensures at c.reach.ensures)

pub overflow_cast-count : goal.overflow_cast-count
overflow_cast-count c = omega (arith, (reach_small (answered (goal.at.overflow_cast-count c).After-told-refusal)).0)

pub overflow_cast-earliest : goal.overflow_cast-earliest
overflow_cast-earliest c = omega (arith, (reach_small (answered (goal.at.overflow_cast-earliest c).After-told-refusal)).1)

pub returns : goal.returns
returns c = answered (goal.at.returns c).After-told-refusal

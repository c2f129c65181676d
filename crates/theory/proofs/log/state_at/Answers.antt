-- `theory::log::state_at` meets its contract. The loop's invariant: the state is that after the steps passed.
use mathlib.Core.Path.{◌≡◌, sym, ◌∙◌, ap}
use Prim.Native.Nat.{◌<◌}
use native.Mathlib.Omega.{arith}
use Rattle.std.proofs.Common.{length-take}
use Rattle.std.proofs.lemmas.List.{get_or-take}
use Rattle.meaning.specs.Theory.{state_before}
use Rattle.meaning.proofs.Theory.{state_start, state_step}
use Rattle.theory.proofs.log.state_at.Invariants.{world}
use Rattle.theory.proofs.log.state_at.Goals as goal

pub loop-a-init : goal.loop-a-init
loop-a-init c =
    let a = c.args in
    sym (state_start (world a.asked.setting.start a.asked.masks.now a.asked.log.now))

pub act-state-requires : goal.act-state-requires
act-state-requires c =
    let log = c.args.asked.log.now in
    let within : c.loop-a.a-index < c.args.p = omega (arith, length-take c.args.p log) in
    rw (c.from.ensures, get_or-take) (c.requires.1.covered c.loop-a.a-index (omega arith))

pub loop-a-preserved : goal.loop-a-preserved
loop-a-preserved c =
    let a = c.args in
    let w = world a.asked.setting.start a.asked.masks.now a.asked.log.now in
    let i = c.loop-a.a-index in
    let within : i < a.p = omega (arith, length-take a.p a.asked.log.now) in
    let step = get_or-take a.p a.asked.log.now i 0 within in
    let next = state_step w i (omega arith) in
    cc

pub returns : goal.returns
returns c =
    let a = c.args in
    let w = world a.asked.setting.start a.asked.masks.now a.asked.log.now in
    let ends : c.loop-a.a-index ≡ a.p = omega (arith, length-take a.p a.asked.log.now) in
    c.loop-a.invariant ∙ ap (state_before w) ends

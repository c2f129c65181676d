-- `tables::turn` meets its contract. The loop's invariant: what is turned so far are the fluents by which the rest differs from what changed.
use native.Mathlib.Omega.{arith}
use native.Mathlib.Nat.{mod-lt}
use lib.Bits.{xor_lt}
use lib.Pow.{pow_pos}
use Rattle.laws.proofs.First.{lowest_within, lowest_later}
use Rattle.meaning.specs.Limits.{fluent_limit}
use Rattle.tables.proofs.Marks.{turn_none, turn_more, turn_all}
use Rattle.tables.proofs.turn.Goals as goal

pub loop-rest-init : goal.loop-rest-init
loop-rest-init c = (c.ranges.changed.fits, turn_none c.args.rows.now c.args.changed c.args.places)

pub loop-rest-smaller : goal.loop-rest-smaller
loop-rest-smaller c =
    let low = lowest_within fluent_limit c.loop-rest.invariant.0 c.loop-rest-test.true in
    omega (arith, lowest_later fluent_limit c.loop-rest.rest low)

pub loop-rest-preserved : goal.loop-rest-preserved
loop-rest-preserved c =
    let loop = c.loop-rest in
    let low = lowest_within fluent_limit loop.invariant.0 c.loop-rest-test.true in (
      xor_lt fluent_limit loop.rest _ loop.invariant.0 (mod-lt _ (pow_pos fluent_limit)),
      turn_more c.args.changed loop.rest c.requires low loop.invariant.1,
    )

pub returns : goal.returns
returns c = turn_all c.loop-rest-test.false c.loop-rest.invariant.1

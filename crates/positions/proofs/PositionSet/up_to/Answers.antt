-- `up_to` holds the places up to its position.
use Prim.Native.Nat.{◌+◌}
use lib.Pow.{pow_pos}
use Rattle.positions.proofs.Word.{next_power, up_to_place, up_to_all}
use Rattle.positions.proofs.PositionSet.up_to.Goals as goal

pub overflow_sub-word : goal.overflow_sub-word
overflow_sub-word c = rw (next_power c.args.n c.if-n-lt-LOG_LIMIT.true) (pow_pos (c.args.n + 1))

pub returns-then-n-lt-LOG_LIMIT : goal.returns-then-n-lt-LOG_LIMIT
returns-then-n-lt-LOG_LIMIT c = up_to_place c.args.n c.if-n-lt-LOG_LIMIT.true

pub returns-else-n-lt-LOG_LIMIT : goal.returns-else-n-lt-LOG_LIMIT
returns-else-n-lt-LOG_LIMIT c = up_to_all c.args.n c.if-n-lt-LOG_LIMIT.false

-- `tables::turn` meets its contract. The loop's invariant: what is turned so far are the fluents by which the rest differs from what changed.
use Prim.Native.Nat.{◌-◌, ◌^◌, ◌<◌}
use lib.Bits.{bit_xor}
use lib.Count.{count_trailing_zeros}
use Rattle.meaning.specs.Limits.{fluent_limit}
use Rattle.tables.specs.Tables.{Reversed}
use Rattle.tables.proofs.turn.Given as goal

abbrev pub invariant-loop-rest : goal.invariant-loop-rest
invariant-loop-rest l = (l.rest < 2 ^ fluent_limit) × Reversed l.initial.rows l.rows (bit_xor l.changed l.rest) l.places

abbrev pub decreases-loop-rest : goal.decreases-loop-rest
decreases-loop-rest l = fluent_limit - count_trailing_zeros fluent_limit l.rest

-- `board::tell::byte_of` meets its contract: the refusal's byte, or that of the verdict over the rows.
use native.Mathlib.Omega.{arith}
use Rattle.refusal.proofs.Numbers.{number_low}
use Rattle.board.proofs.Telling.{byte_refused, byte_told, byte_of_bool}
use Rattle.board.proofs.tell.byte_of.Goals as goal

pub overflow_add-result : goal.overflow_add-result
overflow_add-result c = omega (arith, c.from.ensures, number_low c.in-Err.why)

pub true_at-requires : goal.true_at-requires
true_at-requires c = record { counts = c.args.s.counts; accepted = c.in-Ok.ensures.1 }

pub returns-in-Err : goal.returns-in-Err
returns-in-Err c = record { each = λ masks log ready. rw c.from.ensures (byte_refused ready c.in-Err.why c.in-Err.ensures) }

pub returns-in-Ok : goal.returns-in-Ok
returns-in-Ok c = record { each = λ masks log ready. rw (c.from-in-Ok.ensures, byte_of_bool) (byte_told ready c.in-Ok.ensures c.true_at.result c.true_at.ensures) }

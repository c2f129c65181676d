-- `answer::decide` meets its contract: a refused sheet has its number and line, and the parts of an accepted one are asked about as they are handed back.
use mathlib.Core.Path.{sym}
use native.Mathlib.Omega.{arith}
use lib.Seq.{length-take-le}
use Rattle.answer.proofs.Handing.{given, can_be_asked, decided}
use Rattle.answer.proofs.decide.Goals as goal

pub overflow_mul-table : goal.overflow_mul-table
overflow_mul-table c = omega (arith, (given c.in_ok-p.ensures).few)

pub slice_bounds-masks-end : goal.slice_bounds-masks-end
slice_bounds-masks-end c = (given c.in_ok-p.ensures).within

pub slice_bounds-asked-end : goal.slice_bounds-asked-end
slice_bounds-asked-end c = sym (length-take-le _ _ (given c.in_ok-p.ensures).within)

pub respond-requires : goal.respond-requires
respond-requires c = can_be_asked (given c.in_ok-p.ensures) _ _ c.part-test.ensures.bytes c.part-job.ensures.bytes

pub returns : goal.returns
returns c = decided (given c.in_ok-p.ensures) _ _ c.part-test.ensures.bytes c.part-job.ensures.bytes c.respond.result c.respond.ensures

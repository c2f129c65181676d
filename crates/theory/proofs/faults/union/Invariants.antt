-- `theory::faults::union` meets its contract. The loop's invariant: the mask so far names what the masks passed name.
use Rattle.theory.specs.Union.{Union}
use Rattle.theory.proofs.faults.union.Given as goal

abbrev pub invariant-loop-mask : goal.invariant-loop-mask
invariant-loop-mask l = Union l.masks l.mask-index l.all

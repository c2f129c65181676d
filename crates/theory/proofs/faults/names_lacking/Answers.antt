-- `theory::faults::names_lacking` meets its contract: a mask of 32 bits is shifted past the theory's fluents.
use native.Mathlib.Omega.{arith}
use Rattle.std.proofs.lemmas.Grind.{common_steps}
use Rattle.theory.proofs.Lacking.{lacking_iff}
use Rattle.theory.proofs.faults.names_lacking.Goals as goal

pub returns : goal.returns
returns c = rw c.from.ensures (grind (arith, common_steps, lacking_iff 32 c.args.fluents c.ranges.mask.fits))

-- `spelling::put::number` meets its contract: the digits before the last one are those of the number without it. The width falls.
use Rattle.spelling.proofs.put.+number.Given as goal

abbrev pub decreases-number : goal.decreases-number
decreases-number l = l.width

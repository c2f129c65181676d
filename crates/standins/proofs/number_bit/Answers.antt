-- `standins::number_bit` meets its contract: two digits at a place are those of one number.
use Rattle.standins.proofs.Words.{one_bit, no_bit, no_number}
use Rattle.standins.proofs.number_bit.Goals as goal

pub returns-in-Some : goal.returns-in-Some
returns-in-Some c = one_bit c.args.text.now c.args.at c.in-Some.n c.if-n-lt-ACTION_LIMIT.true c.in-Some.ensures

pub returns-in_default : goal.returns-in_default
returns-in_default c = no_bit c.args.text.now c.args.at c.in-Some.n c.if-n-lt-ACTION_LIMIT.false c.in-Some.ensures

pub returns-in_default-2 : goal.returns-in_default-2
returns-in_default-2 c = no_number c.args.text.now c.args.at c.in_default.ensures

-- Document 01, "Numbers of refusal", and document 02, Q-2: the number of each case.
use Rattle.std.specs.Prelude.{ℕ}
use Rattle.refusal.specs.declared.Refusal.{Refusal}
use Rattle.refusal.specs.declared.Refusal.TheVariants.{SheetTooLong, BadLine, BadNumber, LacksFluent, BadLog, BadRule, LacksName, TooDeep, BackwardJob, BadPosition, NoFinish, ShortOutput, Unbound}

abbrev pub number_of : Refusal → ℕ
number_of SheetTooLong = 1
number_of BadLine = 2
number_of BadNumber = 3
number_of LacksFluent = 4
number_of BadLog = 5
number_of BadRule = 6
number_of LacksName = 7
number_of TooDeep = 8
number_of BackwardJob = 9
number_of BadPosition = 10
number_of NoFinish = 11
number_of ShortOutput = 12
number_of Unbound = 13

-- `spelling::put::decimal` meets its contract: the number of digits is the one that the number needs.
use Rattle.spelling.proofs.Writing.{wrote_as}
use Rattle.spelling.proofs.Plain.{one_digit, two_digits, three_digits}
use borrow.Author.Rules.{rules}
use Rattle.spelling.proofs.put.decimal.Goals as goal

pub returns-then-n-lt10 : goal.returns-then-n-lt10
returns-then-n-lt10 c = wrote_as (one_digit _ (search rules)) c.number.ensures

pub returns-then-n-lt100 : goal.returns-then-n-lt100
returns-then-n-lt100 c = wrote_as (two_digits _ (search rules) (search rules)) c.number-then-n-lt100.ensures

pub returns : goal.returns
returns c = wrote_as (three_digits _ (search rules) (search rules)) c.number-2.ensures

-- `reader::read_test` and `reader::read_walk` meet their contracts: one line of `Answers` for each sign. The measure of each is what is left of the text.
use Prim.Native.Nat.{◌-◌}
use lib.ListN.{length}
use Rattle.rule.proofs.reader.+read_test_read_walk.Given as goal

abbrev pub decreases-read_test : goal.decreases-read_test
decreases-read_test l = length l.text.now - l.at

abbrev pub decreases-read_walk : goal.decreases-read_walk
decreases-read_walk l = length l.text.now - l.at

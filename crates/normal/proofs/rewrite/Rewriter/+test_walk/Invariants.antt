-- `Rewriter::test` and `Rewriter::walk` meet their contracts: what a part is asked is a line of `Asked`, what is written a line of `Arms` or `TestArms`. The
-- measure of each is what is left of the text.
use Prim.Native.Nat.{◌-◌}
use lib.ListN.{length}
use Rattle.normal.proofs.rewrite.Rewriter.+test_walk.Given as goal

abbrev pub decreases-test : goal.decreases-test
decreases-test l = length l.self.now.text.now - l.at

abbrev pub decreases-walk : goal.decreases-walk
decreases-walk l = length l.self.now.text.now - l.at

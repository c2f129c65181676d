-- `board::tests::count` meets its contract: there are as many tests as LFs.
use mathlib.Core.Path.{◌≡◌, ◌∙◌}
use Rattle.std.proofs.Common.{rules}
use Rattle.board.proofs.Falling.{lfs, counted}
use Rattle.board.proofs.tests.count.Goals as goal

pub returns : goal.returns
returns c = λ tests f. let e : c.count.result ≡ lfs c.args.text.now = search rules in e ∙ counted f

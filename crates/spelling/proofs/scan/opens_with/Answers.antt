-- `spelling::scan::opens_with` meets its contract: what `starts_with` says of what is left of the text.
use Rattle.std.proofs.Common.{drop}
use Rattle.std.proofs.lemmas.Bool.Decides.{Decides-eqb}
use Rattle.std.proofs.lemmas.Slice.Eq.{starts_is}
use lib.Seq.{drop-drop}
use Rattle.spelling.proofs.Stretch.{to_the_end}
use Rattle.spelling.proofs.scan.opens_with.Goals as goal

pub returns : goal.returns
returns c =
    let a = c.args in
    let value = rw to_the_end at c.starts_with.ensures.value in
    let is = starts_is Decides-eqb (drop a.at a.text.now) a.key.now c.starts_with.result value in
    (λ e. rw (← drop-drop) (is.0 e), is.1 _)

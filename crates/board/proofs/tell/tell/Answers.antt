-- `board::tell::tell` meets its contract: each turn tells the next test; where the text ends, or the output, all are told.
use mathlib.Core.Path.{◌≡◌}
use mathlib.Core.List.{List}
use Prim.Native.Nat.{ℕ, ◌<◌}
use native.Mathlib.Omega.{arith}
use lib.ListN.{length}
use Rattle.std.proofs.lemmas.List.{set-get_or}
use Rattle.board.specs.Tests.{FallsInto}
use Rattle.board.proofs.Falling.{NextTest, next_test, lf_within, end_of_line}
use Rattle.board.proofs.Telling.{one_more, all_told, all_counted}
use Rattle.board.proofs.tell.tell.Goals as goal

pub loop-k-preserved : goal.loop-k-preserved
loop-k-preserved c =
    let l = c.loop-k in
    let low : l.at < length c.args.text.now = omega arith in
    let next : (tests : List (List ℕ)) → FallsInto c.args.text.now tests → NextTest c.args.text.now tests l.k l.at = λ tests f. next_test f.each l.k l.at (l.invariant.1 tests f).stand low in
    let ours = next c.requires.tests c.requires.falls in (
      omega (arith, lf_within ours.stands, end_of_line ours.stands c.find_lf-end.ensures),
      λ tests f. one_more _ _ _ _ _ _ (l.invariant.1 tests f) (next tests f) c.find_lf-end.ensures c.byte_of.ensures (omega arith),
    )

pub returns-then-at-text : goal.returns-then-at-text
returns-then-at-text c = rw set-get_or (record { each = λ tests f. all_told _ _ _ _ _ _ (c.loop-k.invariant.1 tests f) (omega arith) })

pub returns : goal.returns
returns c =
    let l = c.loop-k in
    let end : l.k ≡ length l.out = omega arith in
    let room : length l.out ≡ length c.args.out.now = (l.invariant.1 c.requires.tests c.requires.falls).told.room in
    rw (← end) (record { each = λ tests f. all_counted _ _ _ _ _ _ f c.requires.falls (omega (arith, c.requires.enough)) (l.invariant.1 tests f) })

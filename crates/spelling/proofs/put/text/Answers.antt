-- `spelling::put::text` meets its contract: the text stands where it was copied to.
use Rattle.std.proofs.Common.{length, ◌∙◌, sym, refl, arith}
use Rattle.std.proofs.lemmas.List.Edits.{sets-eq}
use Rattle.std.proofs.lemmas.Slice.{put_mid-paste}
use lib.Seq.{take_all}
use Rattle.spelling.proofs.put.text.Goals as goal

pub returns : goal.returns
returns c =
    let a = c.args in
    let text = a.text.now in
    record {
      stands =
          put_mid-paste a.to _ a.out.now _ text (length text) c.copy_from_slice.ensures.after (omega arith) refl
          ∙ rw (take_all (length text) text (omega arith)) (sym (sets-eq text a.out.now a.to (omega arith)));
      onward = refl;
    }

-- `may_print` meets its contract: what `theory::possible` answers about the theory of the labels.
use Rattle.laws.proofs.Truth.{off_on}
use Rattle.desk.proofs.Library.{print-told}
use Rattle.desk.proofs.may_print.Goals as goal

pub returns : goal.returns
returns c =
    let a = c.args in
    let fits = c.in_ok-within.ensures in
    let made = c.asked_of-asked.ensures in
    print-told a.cartons c.asked_of-asked.result.masks.now a.log.now fits.0 made.0 fits.1 a.label (λ h. off_on c.if-bad_label.false (c.bad_label.ensures.1 h)) (rw (made.1, made.2) at c.possible.ensures)

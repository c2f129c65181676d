-- `finish::tries::coming` meets its contract: the rows are made, and the state is that behind the log.
use mathlib.Core.Path.{◌∙◌}
use Rattle.meaning.proofs.Theory.{state_end}
use Rattle.theory.specs.Subject.{subject, world_of}
use Rattle.finish.proofs.tries.coming.Goals as goal

pub tries-requires : goal.tries-requires
tries-requires c =
    let w = world_of (subject c.args.asked) in
    (c.requires, record { described = c.transpose.ensures; here = c.state_at-state.ensures ∙ state_end w })

-- `ask::layout::lay_out` meets its contract: what filling the table of ends and transposing the log ensure.
use Rattle.ask.proofs.Answering.{ends_marked}
use Rattle.ask.proofs.layout.lay_out.Goals as goal

pub returns : goal.returns
returns c =
    record {
      marked = ends_marked c.requires.1 c.requires.2 c.fill_ends.ensures;
      described = c.transpose.ensures;
    }

-- The place of the first end of a line.
use Rattle.line_framer.proofs.PlaceLemmas.{end_at}
use Rattle.line_framer.proofs.scanning.end_of_line.Goals as goal

pub returns : goal.returns
returns c = end_at c.args.bytes.now c.first_end.result c.first_end.ensures

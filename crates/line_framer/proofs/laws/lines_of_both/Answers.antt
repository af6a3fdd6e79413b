use Rattle.line_framer.proofs.FramingLemmas.{lines_of-ended}
use Rattle.line_framer.proofs.laws.lines_of_both.Goals as goal

pub returns : goal.returns
returns c = lines_of-ended

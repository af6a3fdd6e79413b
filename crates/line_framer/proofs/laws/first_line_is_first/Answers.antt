use Rattle.line_framer.proofs.FramingLemmas.{first_line}
use Rattle.line_framer.proofs.laws.first_line_is_first.Goals as goal

pub returns : goal.returns
returns c = first_line

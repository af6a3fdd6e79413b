use Rattle.line_framer.proofs.FramingLemmas.{last_line}
use Rattle.line_framer.proofs.laws.last_line_is_last.Goals as goal

pub returns : goal.returns
returns c = last_line

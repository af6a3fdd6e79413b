use Rattle.line_framer.proofs.FramingLemmas.{one_more}
use Rattle.line_framer.proofs.laws.one_line_more.Goals as goal

pub returns : goal.returns
returns c = one_more

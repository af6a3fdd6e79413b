use Rattle.line_wire.proofs.LinesLemmas.{lines_of_output}
use Rattle.line_wire.proofs.laws.lines_are_replies.Goals as goal

pub returns : goal.returns
returns c = lines_of_output

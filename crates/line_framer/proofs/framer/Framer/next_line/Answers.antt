-- A line is not too long.
use Rattle.line_framer.proofs.FramingLemmas.{few_of_first}
use Rattle.line_framer.proofs.framer.Framer.next_line.Goals as goal

pub returns-clause-few : goal.returns-clause-few
returns-clause-few c = few_of_first c.self.inside.queue c.as_slice-left.result.now _ _ c.self.inside.last_len c.as_slice-left.ensures c.in_ok-end.ensures.1 c.self.invariant

-- What stands after the first line.
use Rattle.line_framer.proofs.FramingLemmas.{skip_open, skip_state}
use Rattle.line_framer.proofs.framer.Framer.take_line.Goals as goal

pub invariant_of-self : goal.invariant_of-self
invariant_of-self c = skip_open c.self.inside.queue c.as_slice.result.now c.skip.new.self c.in-Some.end c.self.inside.last_len c.as_slice.ensures c.skip.ensures c.in-Some.ensures.1 c.self.invariant

pub returns-in-Some-clause-taken : goal.returns-in-Some-clause-taken
returns-in-Some-clause-taken c line rest first =
    skip_state c.args.self.now c.self.inside.queue c.as_slice.result.now c.skip.new.self c.self.inside.is_long c.in-Some.end c.self.view_is c.as_slice.ensures c.skip.ensures c.in-Some.ensures.1 line rest first

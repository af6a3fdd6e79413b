use Rattle.std.proofs.Common.{length}
use Rattle.record_parts.proofs.grant_matching.+after_each_state.Given as goal

abbrev pub decreases-after_each_state : goal.decreases-after_each_state
decreases-after_each_state l = length l.states.now

use Rattle.std.proofs.Common.{length}
use Rattle.procap.proofs.writing.+add_each_state.Given as goal

abbrev pub decreases-add_each_state : goal.decreases-add_each_state
decreases-add_each_state l = length l.states.now

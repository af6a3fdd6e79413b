use Rattle.std.proofs.Common.{length}
use Rattle.procap.proofs.feeding.+feed_each_state.Given as goal

abbrev pub decreases-feed_each_state : goal.decreases-feed_each_state
decreases-feed_each_state l = length l.states.now

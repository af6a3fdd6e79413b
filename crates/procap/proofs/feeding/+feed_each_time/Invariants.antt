use Rattle.std.proofs.Common.{length}
use Rattle.procap.proofs.feeding.+feed_each_time.Given as goal

abbrev pub decreases-feed_each_time : goal.decreases-feed_each_time
decreases-feed_each_time l = length l.times.now

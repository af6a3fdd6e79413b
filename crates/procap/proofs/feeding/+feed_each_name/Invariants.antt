use Rattle.std.proofs.Common.{length}
use Rattle.procap.proofs.feeding.+feed_each_name.Given as goal

abbrev pub decreases-feed_each_name : goal.decreases-feed_each_name
decreases-feed_each_name l = length l.numbers.now

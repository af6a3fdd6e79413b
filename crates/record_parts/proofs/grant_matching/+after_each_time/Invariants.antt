use Rattle.std.proofs.Common.{length}
use Rattle.record_parts.proofs.grant_matching.+after_each_time.Given as goal

abbrev pub decreases-after_each_time : goal.decreases-after_each_time
decreases-after_each_time l = length l.times.now

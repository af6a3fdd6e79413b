use Rattle.std.proofs.Common.{length}
use Rattle.procap.proofs.writing.+add_each_time.Given as goal

abbrev pub decreases-add_each_time : goal.decreases-add_each_time
decreases-add_each_time l = length l.times.now

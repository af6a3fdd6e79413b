use Rattle.std.proofs.Common.{length}
use Rattle.record_parts.proofs.grant_matching.+after_each_name.Given as goal

abbrev pub decreases-after_each_name : goal.decreases-after_each_name
decreases-after_each_name l = length l.numbers.now

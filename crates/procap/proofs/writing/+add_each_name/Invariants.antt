use Rattle.std.proofs.Common.{length}
use Rattle.procap.proofs.writing.+add_each_name.Given as goal

abbrev pub decreases-add_each_name : goal.decreases-add_each_name
decreases-add_each_name l = length l.numbers.now

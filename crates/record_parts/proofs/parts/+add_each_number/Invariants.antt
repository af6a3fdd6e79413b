use Rattle.std.proofs.Common.{length}
use Rattle.record_parts.proofs.parts.+add_each_number.Given as goal

abbrev pub decreases-add_each_number : goal.decreases-add_each_number
decreases-add_each_number l = length l.numbers.now

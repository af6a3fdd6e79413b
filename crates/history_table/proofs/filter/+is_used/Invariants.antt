-- The list gets shorter.
use Rattle.std.proofs.Common.{length}
use Rattle.history_table.proofs.filter.+is_used.Given as goal

abbrev pub decreases-is_used : goal.decreases-is_used
decreases-is_used l = length l.uses.now

-- The list gets shorter.
use Rattle.std.proofs.Common.{length}
use Rattle.history_table.proofs.rows.+add_uses.Given as goal

abbrev pub decreases-add_uses : goal.decreases-add_uses
decreases-add_uses l = length l.pairs.now

-- Each line leaves less of the text.
use Rattle.std.proofs.Common.{length}
use Rattle.mode_rows.proofs.tables.write_tables.Given as goal

abbrev pub decreases-loop-line : goal.decreases-loop-line
decreases-loop-line l = length l.rest

-- A line is taken from the rest.
use Rattle.std.proofs.Common.{length}
use Rattle.pcfs_prove.proofs.reading.read_statements.Given as goal

abbrev pub decreases-loop-line : goal.decreases-loop-line
decreases-loop-line l = length l.rest

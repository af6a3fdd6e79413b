-- One number less with each call.
use Rattle.std.proofs.Common.{length}
use Rattle.pcfs_audit.proofs.ends.+first_end.Given as goal

abbrev pub decreases-first_end : goal.decreases-first_end
decreases-first_end l = length l.numbers.now

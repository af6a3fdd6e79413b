use Rattle.std.proofs.Common.{length}
use Rattle.nine_fids.proofs.error.+first_holding.Given as goal

-- one fewer is left
abbrev pub decreases-first_holding : goal.decreases-first_holding
decreases-first_holding l = length l.tests.now

use Rattle.std.proofs.Common.{length}
use Rattle.record_parts.proofs.parts.+add_each_procap.Given as goal

abbrev pub decreases-add_each_procap : goal.decreases-add_each_procap
decreases-add_each_procap l = length l.procaps.now

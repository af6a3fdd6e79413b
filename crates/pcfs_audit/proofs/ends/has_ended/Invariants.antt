-- None of the ends so far is one.
use Rattle.std.proofs.Common.{take}
use Rattle.std.specs.List.{AllByRecursion}
use Rattle.pcfs_audit.specs.Ends.{NeverEnds}
use Rattle.pcfs_audit.proofs.ends.has_ended.Given as goal

abbrev pub invariant-loop-end : goal.invariant-loop-end
invariant-loop-end l = AllByRecursion NeverEnds (take l.end-index l.ends)

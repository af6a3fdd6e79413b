-- The ends of the statements so far.
use Rattle.std.proofs.Common.{◌≡◌, map, take}
use Rattle.pcfs_audit.specs.Ends.{base_end}
use Rattle.pcfs_audit.proofs.ends.base_ends.Given as goal

abbrev pub invariant-loop-entry : goal.invariant-loop-entry
invariant-loop-entry l = l.ends.items ≡ map base_end (take l.entry-index l.entries)

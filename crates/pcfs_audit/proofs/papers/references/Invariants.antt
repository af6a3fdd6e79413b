-- References to the grants so far.
use Rattle.std.proofs.Common.{◌≡◌, take}
use Rattle.pcfs_audit.specs.Papers.{shown}
use Rattle.pcfs_audit.proofs.papers.references.Given as goal

abbrev pub invariant-loop-grant : goal.invariant-loop-grant
invariant-loop-grant l = shown l.references.items ≡ take l.grant-index l.grants

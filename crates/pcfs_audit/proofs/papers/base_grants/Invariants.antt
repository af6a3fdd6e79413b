-- The grants of the issues so far.
use Rattle.std.proofs.Common.{◌≡◌, take}
use Rattle.pcfs_audit.specs.Papers.{grants_in}
use Rattle.pcfs_audit.proofs.papers.base_grants.Given as goal

abbrev pub invariant-loop-issue : goal.invariant-loop-issue
invariant-loop-issue l = l.grants ≡ grants_in (take l.issue-index l.issues)

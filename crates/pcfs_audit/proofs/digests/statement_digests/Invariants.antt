-- The digests of the statements so far.
use Rattle.std.proofs.Common.{◌≡◌, map, take}
use Rattle.policy_statement.specs.Digest.{digest_of}
use Rattle.pcfs_audit.specs.Papers.{shown}
use Rattle.pcfs_audit.proofs.digests.statement_digests.Given as goal

abbrev pub invariant-loop-statement : goal.invariant-loop-statement
invariant-loop-statement l = l.digests.items ≡ map digest_of (shown (take l.statement-index l.statements))

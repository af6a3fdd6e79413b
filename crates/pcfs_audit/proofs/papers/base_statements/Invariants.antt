-- The statements of the entries so far.
use Rattle.std.proofs.Common.{◌≡◌, take}
use Rattle.policy_statement.specs.Registry.{sayings}
use Rattle.pcfs_audit.specs.Papers.{shown}
use Rattle.pcfs_audit.proofs.papers.base_statements.Given as goal

abbrev pub invariant-loop-entry : goal.invariant-loop-entry
invariant-loop-entry l = shown l.statements.items ≡ sayings (take l.entry-index l.entries)

-- So many rows so far.
use Rattle.std.proofs.Common.{◌≡◌, ◌≤◌, replicate}
use Rattle.pcfs_audit.specs.declared.supports.Support.TheVariants.{Unissued}
use Rattle.pcfs_audit.proofs.supports.rows_without_support.Given as goal

abbrev pub invariant-loop : goal.invariant-loop
invariant-loop l = (l.rows.items ≡ replicate l.counter Unissued) × (l.counter ≤ l.count)

-- The issues so far are counted.
use Rattle.std.proofs.Common.{◌≡◌, [], length, take}
use Rattle.pcfs_audit.specs.Papers.{shown}
use Rattle.pcfs_audit.specs.Supports.{AreSupports}
use Rattle.pcfs_audit.proofs.supports.count_base.Given as goal

abbrev pub invariant-loop-issue : goal.invariant-loop-issue
invariant-loop-issue l = record {
  sized : length l.rows.items ≡ length l.fn.rows.items;
  counted : AreSupports (shown l.dossier.papers.grants.items) l.dossier.papers.ends.items [] l.fn.rows.items
      → AreSupports (shown l.dossier.papers.grants.items) l.dossier.papers.ends.items (take l.issue-index l.issues) l.rows.items;
}

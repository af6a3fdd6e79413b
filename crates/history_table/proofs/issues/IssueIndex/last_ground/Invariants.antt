-- None of the issues after the next place has the grant and stands.
use Rattle.history_table.specs.Index.{digest_of, digests_of}
use Rattle.history_table.proofs.IssueLemmas.{Searches, remaining}
use Rattle.history_table.proofs.issues.IssueIndex.last_ground.Given as goal

abbrev pub invariant-places : goal.invariant-places
invariant-places l = Searches l.registry.entries l.grant l.issues (digests_of l.key l.issues) (digest_of l.key l.grant) l.next

abbrev pub decreases-places : goal.decreases-places
decreases-places l = remaining l.next

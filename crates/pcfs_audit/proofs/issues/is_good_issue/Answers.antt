-- The cited statements are there, and the proof is checked; or they are not.
use Rattle.rayon.proofs.ListFacts.{IfOk-then}
use Rattle.pcfs_audit.specs.Papers.{shown}
use Rattle.pcfs_audit.proofs.CitesLemmas.{good_by_cites, is_false}
use Rattle.pcfs_audit.proofs.issues.is_good_issue.Goals as goal

pub is_granted-requires-clause-rising : goal.is_granted-requires-clause-rising
is_granted-requires-clause-rising c = let theirs = rw c.in-Ok-Some.field-0-is at c.in-Ok-Some.ensures in theirs.cited

pub is_granted-requires-clause-cited : goal.is_granted-requires-clause-cited
is_granted-requires-clause-cited c = let theirs = rw c.in-Ok-Some.field-0-is at c.in-Ok-Some.ensures in theirs.found.numbers_are

pub returns-in-Ok-Some : goal.returns-in-Ok-Some
returns-in-Ok-Some c =
    IfOk-then c.is_granted.result _ _ c.is_granted.ensures
    (λ good decides. good_by_cites (shown c.args.statements.now) c.args.cited.now c.args.proof.now c.args.grant.now _ good (rw c.in-Ok-Some.field-0-is at c.in-Ok-Some.ensures) decides)

pub returns-in-Ok-None : goal.returns-in-Ok-None
returns-in-Ok-None c = is_false (λ good. (rw c.in-Ok-None.field-0-is at c.in-Ok-None.ensures) c.args.proof.now c.args.grant.now good)

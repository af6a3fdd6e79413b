use Rattle.pcfs_audit.proofs.LawLemmas.{good_by_verdict}
use Rattle.pcfs_audit.proofs.laws.issues_are_good_by_their_verdict.Goals as goal

pub returns : goal.returns
returns c = good_by_verdict

use Rattle.pcfs_audit.proofs.LawLemmas.{unissued_rows_only}
use Rattle.pcfs_audit.proofs.laws.lawful_histories_have_unissued_rows_only.Goals as goal

pub returns : goal.returns
returns c = unissued_rows_only

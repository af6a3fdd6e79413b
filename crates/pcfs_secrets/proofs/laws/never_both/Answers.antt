use Rattle.pcfs_secrets.proofs.LawLemmas as lemmas
use Rattle.pcfs_secrets.proofs.laws.never_both.Goals as goal

pub returns : goal.returns
returns c = lemmas.never_both

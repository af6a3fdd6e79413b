use Rattle.pcfs_secrets.proofs.DecideLemmas as lemmas
use Rattle.pcfs_secrets.proofs.laws.one_or_the_other.Goals as goal

pub returns : goal.returns
returns c = lemmas.one_or_the_other

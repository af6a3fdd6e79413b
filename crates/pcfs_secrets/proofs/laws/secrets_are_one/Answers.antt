use Rattle.pcfs_secrets.proofs.LawLemmas as lemmas
use Rattle.pcfs_secrets.proofs.laws.secrets_are_one.Goals as goal

pub returns : goal.returns
returns c = lemmas.one_reading

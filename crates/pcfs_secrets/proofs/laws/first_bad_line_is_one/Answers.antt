use Rattle.pcfs_secrets.proofs.LawLemmas as lemmas
use Rattle.pcfs_secrets.proofs.laws.first_bad_line_is_one.Goals as goal

pub returns : goal.returns
returns c = lemmas.one_first_bad

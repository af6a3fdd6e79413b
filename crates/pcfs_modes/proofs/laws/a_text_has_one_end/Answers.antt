use Rattle.pcfs_modes.proofs.LawLemmas.{one_end}
use Rattle.pcfs_modes.proofs.laws.a_text_has_one_end.Goals as goal

pub returns : goal.returns
returns c = one_end

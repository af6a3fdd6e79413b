use Rattle.root_signing.proofs.LawLemmas.{one_end}
use Rattle.root_signing.proofs.laws.a_text_has_one_end.Goals as goal

pub returns : goal.returns
returns c = one_end

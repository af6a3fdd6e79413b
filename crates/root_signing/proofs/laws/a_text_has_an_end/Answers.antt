use Rattle.root_signing.proofs.LawLemmas.{an_end}
use Rattle.root_signing.proofs.laws.a_text_has_an_end.Goals as goal

pub returns : goal.returns
returns c = an_end

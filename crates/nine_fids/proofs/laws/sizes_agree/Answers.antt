use Rattle.nine_fids.proofs.LawLemmas.{size_agreed}
use Rattle.nine_fids.proofs.laws.sizes_agree.Goals as goal

pub returns : goal.returns
returns c = λ s asked m. size_agreed s asked m

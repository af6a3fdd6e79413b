use Rattle.nine_fids.proofs.LawLemmas.{others_stay}
use Rattle.nine_fids.proofs.laws.other_fids_stay.Goals as goal

pub returns : goal.returns
returns c = λ s asked m number other. others_stay s asked m number other

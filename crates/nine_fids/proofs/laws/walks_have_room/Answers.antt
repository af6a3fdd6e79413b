use Rattle.nine_fids.proofs.LawLemmas.{walk_has_room}
use Rattle.nine_fids.proofs.laws.walks_have_room.Goals as goal

pub returns : goal.returns
returns c = λ s after asked fid newfid names node is. walk_has_room s after asked fid newfid names node is

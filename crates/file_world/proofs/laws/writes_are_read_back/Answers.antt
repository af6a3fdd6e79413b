use Rattle.file_world.proofs.LawLemmas.{writes_are_read_back}
use Rattle.file_world.proofs.laws.writes_are_read_back.Goals as goal

pub returns : goal.returns
returns c = writes_are_read_back

use Rattle.file_world.proofs.LawLemmas.{marks_change_alone}
use Rattle.file_world.proofs.laws.marks_change_alone.Goals as goal

pub returns : goal.returns
returns c = marks_change_alone

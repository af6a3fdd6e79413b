use Rattle.file_world.proofs.LawLemmas.{marks_stay_marks}
use Rattle.file_world.proofs.laws.marks_stay_marks.Goals as goal

pub returns : goal.returns
returns c = marks_stay_marks

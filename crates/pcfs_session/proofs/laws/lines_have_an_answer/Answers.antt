use Rattle.pcfs_session.proofs.TotalLemmas.{line_has_answer}
use Rattle.pcfs_session.proofs.laws.lines_have_an_answer.Goals as goal

pub returns : goal.returns
returns c = line_has_answer

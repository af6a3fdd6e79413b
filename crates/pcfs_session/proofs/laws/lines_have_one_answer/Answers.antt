use Rattle.pcfs_session.proofs.OneAnswerLemmas.{line_once}
use Rattle.pcfs_session.proofs.laws.lines_have_one_answer.Goals as goal

pub returns : goal.returns
returns c s line first second one other after later lawful = line_once s lawful line first second one other after later

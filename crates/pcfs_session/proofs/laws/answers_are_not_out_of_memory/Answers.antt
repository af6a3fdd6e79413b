use Rattle.pcfs_session.proofs.NoMemoryLemmas.{answer_memory}
use Rattle.pcfs_session.proofs.laws.answers_are_not_out_of_memory.Goals as goal

pub returns : goal.returns
returns c = answer_memory

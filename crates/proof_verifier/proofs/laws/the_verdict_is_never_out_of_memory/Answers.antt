use Rattle.proof_verifier.proofs.MemoryLemmas.{verdict-memoryless}
use Rattle.proof_verifier.proofs.laws.the_verdict_is_never_out_of_memory.Goals as goal

pub returns : goal.returns
returns c = verdict-memoryless

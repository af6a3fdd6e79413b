use Rattle.reply_laws.proofs.FaultLemmas.{line_reported, proof_reported}
use Rattle.reply_laws.proofs.laws.out_of_memory_is_no_fault.Goals as goal

pub returns : goal.returns
returns c = record { lines = line_reported; proofs = proof_reported }

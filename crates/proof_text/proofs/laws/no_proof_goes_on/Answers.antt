-- A sentence is read, or is too large.
use Rattle.proof_text.proofs.ExactLemmas.{no_proof_goes_on}
use Rattle.proof_text.proofs.laws.no_proof_goes_on.Goals as goal

pub returns : goal.returns
returns c = λ text e small x other same s. no_proof_goes_on small x same s

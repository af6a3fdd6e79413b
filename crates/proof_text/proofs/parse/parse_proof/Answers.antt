-- A text has one proof or one fault.
use Rattle.proof_text.proofs.TextLemmas.{only_proof, only_fault}
use Rattle.proof_text.proofs.parse.parse_proof.Goals as goal

pub returns-clause-every_proof : goal.returns-clause-every_proof
returns-clause-every_proof c = only_proof c.args.text.now c.read_proof.result c.read_proof.ensures.read c.read_proof.ensures.fault

pub returns-clause-every_fault : goal.returns-clause-every_fault
returns-clause-every_fault c = only_fault c.args.text.now c.read_proof.result c.read_proof.ensures.read c.read_proof.ensures.fault

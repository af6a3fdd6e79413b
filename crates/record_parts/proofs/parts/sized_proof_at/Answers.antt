use Rattle.std.proofs.lemmas.Bool.{false≢true}
use Rattle.record_parts.proofs.ReadingLemmas.{length_stops, proof_stops, length_is_the_proofs, length_is_another}
use Rattle.record_parts.proofs.parts.sized_proof_at.Goals as goal

pub returns-in-Err : goal.returns-in-Err
returns-in-Err c = length_stops c.args.input c.args.bytes.now c.in-Err.fault c.in-Err.ensures

pub returns-in-Err-proof_at : goal.returns-in-Err-proof_at
returns-in-Err-proof_at c = rw c.of_proof.ensures (proof_stops c.args.input c.args.bytes.now c.in-Ok.rest.now c.in-Ok.len c.in-Err-proof_at.fault c.in-Ok.ensures c.in-Err-proof_at.ensures)

pub returns-then-is_of_length : goal.returns-then-is_of_length
returns-then-is_of_length c =
    length_is_the_proofs c.args.input c.args.bytes.now c.in-Ok.rest.now c.in-Ok-proof_at.behind.now c.in-Ok.len c.in-Ok-proof_at.proof c.in-Ok.ensures c.in-Ok-proof_at.ensures (c.is_of_length.ensures.0 c.if-is_of_length.true)

pub returns-else-is_of_length : goal.returns-else-is_of_length
returns-else-is_of_length c =
    rw c.place.ensures (length_is_another c.args.input c.args.bytes.now c.in-Ok.rest.now c.in-Ok-proof_at.behind.now c.in-Ok.len c.in-Ok-proof_at.proof c.in-Ok.ensures c.in-Ok-proof_at.ensures (λ same. absurd (false≢true (rw (← c.if-is_of_length.false) (c.is_of_length.ensures.1 same)))))

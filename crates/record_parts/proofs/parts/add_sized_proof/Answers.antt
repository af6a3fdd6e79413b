use Rattle.std.proofs.Common.{ap, length, arith}
use Rattle.std.proofs.lemmas.List.{length-append}
use Rattle.proof_term.specs.ProofSpelling.{proof_spelling}
use Rattle.record_parts.proofs.ProofLengthLemmas.{proof_is_short}
use Rattle.record_parts.proofs.parts.add_sized_proof.Goals as goal

pub overflow_cast-len : goal.overflow_cast-len
overflow_cast-len c =
    let short = proof_is_short c.args.proof.now c.in_ok-write_proof.ensures.spelled in
    let total = ap length c.in_ok-write_proof.ensures.ok in
    record { fits = omega (arith, short, total, c.len.ensures, c.len-from.ensures, length-append c.extend.new.self (proof_spelling c.args.proof.now)) }

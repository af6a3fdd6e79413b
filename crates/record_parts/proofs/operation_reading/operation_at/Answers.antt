use Rattle.std.proofs.Common.{arith}
use Rattle.record_parts.proofs.OperationLemmas.{reads_what_fits}
use Rattle.record_parts.proofs.operation_reading.operation_at.Goals as goal

pub returns-clause-fits : goal.returns-clause-fits
returns-clause-fits c = reads_what_fits (λ x. (x.0, x.1.now)) c.args.input c.args.bytes.now c.coded_words_at.result (λ i. omega (arith, c.type_inv.bytes i)) c.coded_words_at.ensures

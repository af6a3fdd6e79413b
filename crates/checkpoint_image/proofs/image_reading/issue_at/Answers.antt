-- What was read cites no more statements than their count tells.
use Rattle.std.proofs.Common.{arith}
use Rattle.record_parts.proofs.RecordLemmas.{issued_codec}
use Rattle.checkpoint_image.proofs.image_reading.issue_at.Goals as goal

pub of-requires : goal.of-requires
of-requires c =
    let found = issued_codec.found c.args.input c.args.bytes.now c.in-Ok.rest.now (c.in-Ok.cited, (c.in-Ok.proof, c.in-Ok.grant)) (λ i. omega (arith, c.type_inv.bytes i)) c.in-Ok.ensures in
    rw c.as_slice.ensures found.0.numbers.few

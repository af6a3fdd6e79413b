use Rattle.std.proofs.Common.{arith}
use Rattle.checkpoint_image.proofs.FittingLemmas.{reads_what_fits}
use Rattle.checkpoint_image.proofs.image_reading.image_at.Goals as goal

pub returns-clause-fits : goal.returns-clause-fits
returns-clause-fits c = reads_what_fits (λ x. x.1.now) (λ x. x.0) c.args.input c.args.bytes.now c.versioned_at.result (λ i. omega (arith, c.type_inv.bytes i)) c.versioned_at.ensures.read c.versioned_at.ensures.same

use Rattle.std.proofs.Common.{arith}
use Rattle.checkpoint_image.proofs.FittingLemmas.{reads_old_standing, reads_old_what_fits}
use Rattle.checkpoint_image.proofs.image_reading.old_image_at.Goals as goal

pub returns-clause-fits : goal.returns-clause-fits
returns-clause-fits c = reads_old_what_fits (λ x. x.1.now) (λ x. x.0) c.args.input c.args.bytes.now c.fields_at.result (λ i. omega (arith, c.type_inv.bytes i)) c.fields_at.ensures.read c.fields_at.ensures.same

pub returns-clause-standing : goal.returns-clause-standing
returns-clause-standing c = reads_old_standing (λ x. x.1.now) (λ x. x.0) c.args.input c.args.bytes.now c.fields_at.result (λ i. omega (arith, c.type_inv.bytes i)) c.fields_at.ensures.read

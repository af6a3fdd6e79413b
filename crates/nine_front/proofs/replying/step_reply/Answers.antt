-- The text of a reply that is of no operation fits.
use Rattle.std.proofs.Common.{◌∙◌, sym}
use Rattle.nine_front.proofs.ShortLemmas.{other_step_fits}
use Rattle.nine_front.proofs.replying.step_reply.Goals as goal

pub returns-else-is_operation-clause-writable : goal.returns-else-is_operation-clause-writable
returns-else-is_operation-clause-writable c = λ nonce. other_step_fits 65536 c.args.replied (sym c.is_operation.ensures ∙ c.if-is_operation.false) c.requires c.has_short_names.ensures

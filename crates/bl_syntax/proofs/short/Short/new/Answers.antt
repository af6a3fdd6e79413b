-- The bytes that were copied stand at the front of a place of zero bytes.
use Rattle.bl_syntax.proofs.PaddingLemmas.{IsPadded-written}
use Rattle.bl_syntax.proofs.short.Short.new.Goals as goal

pub invariant_of-result : goal.invariant_of-result
invariant_of-result g c = IsPadded-written g.row.N c.args.bytes.now c.copy_from_slice.new.self c.copy_from_slice.ensures.after

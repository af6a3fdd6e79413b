use Rattle.file_blocks.proofs.TailLemmas.{no_blocks, nothing_joined}
use Rattle.file_blocks.proofs.blocks.Blocks.new.Goals as goal

pub invariant_of-result : goal.invariant_of-result
invariant_of-result c = no_blocks c.new.result.items c.empty.result c.new.ensures.items c.empty.ensures

pub returns : goal.returns
returns c = nothing_joined c.new.result.items c.empty.result c.new.ensures.items c.empty.ensures

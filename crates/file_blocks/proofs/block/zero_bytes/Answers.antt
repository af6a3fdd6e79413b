use Rattle.std.proofs.Common.{sym, ◌∙◌}
use Rattle.file_blocks.proofs.OverLemmas.{zeros-is}
use Rattle.file_blocks.proofs.block.zero_bytes.Goals as goal

pub returns : goal.returns
returns c = c.in_ok-vec.ensures.items_if_clones_equal (λ y h. h) ∙ sym (zeros-is c.args.count)

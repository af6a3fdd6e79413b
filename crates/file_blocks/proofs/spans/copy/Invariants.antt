-- The blocks up to here are copied.
use Rattle.std.proofs.Common.{◌≡◌, take}
use Rattle.file_blocks.proofs.spans.copy.Given as goal

abbrev pub invariant-loop-block : goal.invariant-loop-block
invariant-loop-block l = l.copied.items ≡ take l.block-index l.blocks

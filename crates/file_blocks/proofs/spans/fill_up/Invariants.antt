-- The blocks that were added are zero.
use Rattle.std.proofs.Common.{◌≡◌, ◌-◌, ◌*◌, ◌≤◌, ◌++◌, length, max}
use Rattle.std.specs.List.{concat}
use Rattle.file_blocks.specs.Blocks.{zeros, AreWhole}
use Rattle.file_blocks.specs.declared.block.TheConstants.{BLOCK_BYTES}
use Rattle.file_blocks.proofs.spans.fill_up.Given as goal

abbrev pub invariant-loop-added : goal.invariant-loop-added
invariant-loop-added l = record {
  whole : AreWhole l.blocks.items;
  counted : length l.blocks.items ≡ l._added;
  bounded : length l.blocks.items ≤ max l.count (length l.initial.blocks.items);
  grows : length l.initial.blocks.items ≤ length l.blocks.items;
  bytes : concat l.blocks.items ≡ concat l.initial.blocks.items ++ zeros (BLOCK_BYTES * (length l.blocks.items - length l.initial.blocks.items));
}

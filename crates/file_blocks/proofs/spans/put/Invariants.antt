-- What is left to be put leaves what all of it leaves.
use Rattle.std.proofs.Common.{◌≡◌, ◌+◌, ◌*◌, ◌≤◌, length}
use Rattle.std.specs.List.{concat}
use Rattle.file_blocks.specs.Blocks.{over, AreWhole}
use Rattle.file_blocks.specs.declared.block.TheConstants.{BLOCK_BYTES}
use Rattle.file_blocks.proofs.spans.put.Given as goal

abbrev pub invariant-pieces : goal.invariant-pieces
invariant-pieces l = record {
  whole : AreWhole l.blocks;
  within : l.at + length l.rest ≤ BLOCK_BYTES * length l.blocks;
  same : over (concat l.blocks) l.at l.rest ≡ over (concat l.initial.blocks) l.initial.at l.initial.rest;
}

abbrev pub decreases-pieces : goal.decreases-pieces
decreases-pieces l = length l.rest

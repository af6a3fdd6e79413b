-- What is there and what is left to be read make up all that is wanted.
use Rattle.std.proofs.Common.{◌≡◌, ◌-◌, ◌≤◌, ◌++◌, length, take, drop}
use Rattle.file_blocks.specs.Blocks.{joined}
use Rattle.file_blocks.proofs.spans.append.Given as goal

abbrev pub invariant-pieces : goal.invariant-pieces
invariant-pieces l = record {
  kept : take (length l.initial.out) l.out ≡ l.initial.out;
  within : l.at ≤ l.end;
  same : l.out ++ take (l.end - l.at) (drop l.at (joined l.blocks l.tail)) ≡ l.initial.out ++ take (l.end - l.initial.at) (drop l.initial.at (joined l.blocks l.tail));
}

abbrev pub decreases-pieces : goal.decreases-pieces
decreases-pieces l = l.end - l.at

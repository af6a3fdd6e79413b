use Rattle.std.proofs.Common.{◌*◌, ◌≤◌, length}
use Rattle.client_tree.proofs.contents.pieces.Given as goal

-- so many pieces at most
abbrev pub invariant-loop-count : goal.invariant-loop-count
invariant-loop-count g l = length l.all ≤ l._count * 65536

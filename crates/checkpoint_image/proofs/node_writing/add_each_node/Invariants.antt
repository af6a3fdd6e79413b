-- The nodes so far are written.
use Rattle.std.proofs.Common.{◌≡◌, ◌++◌, take}
use Rattle.std.specs.List.{flat_map}
use Rattle.node_rows.specs.Rows.{item_rows}
use Rattle.checkpoint_image.specs.NodeSpelling.{node_spelling}
use Rattle.checkpoint_image.proofs.node_writing.add_each_node.Given as goal

abbrev pub invariant-loop-place : goal.invariant-loop-place
invariant-loop-place l = l.out ≡ l.fn.out ++ flat_map node_spelling (take l.place (item_rows l.trees l.metas))

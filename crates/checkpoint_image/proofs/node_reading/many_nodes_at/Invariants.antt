-- The nodes so far and those that are still read are those that the call reads.
use Rattle.std.proofs.Common.{◌≡◌, ◌-◌}
use Rattle.node_rows.specs.Rows.{item_rows, AreOfSameNodes}
use Rattle.record_parts.proofs.ReadingLemmas.{with_front}
use Rattle.checkpoint_image.specs.Chain.{chain_at}
use Rattle.checkpoint_image.specs.NodeReading.{node_at, number_of}
use Rattle.checkpoint_image.proofs.node_reading.many_nodes_at.Given as goal

abbrev pub invariant-loop : goal.invariant-loop
invariant-loop l =
    (with_front (item_rows l.trees l.metas) (chain_at (λ previous. node_at previous l.input) number_of (l.count - l.counter) l.previous l.rest)
    ≡ chain_at (λ previous. node_at previous l.input) number_of l.count 0 l.bytes)
    × AreOfSameNodes l.trees l.metas

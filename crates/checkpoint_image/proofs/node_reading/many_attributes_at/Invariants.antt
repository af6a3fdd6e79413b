-- The attributes so far and those that are still read are those that the call reads.
use Rattle.std.proofs.Common.{◌≡◌, ◌-◌, []}
use Rattle.record_parts.proofs.ReadingLemmas.{with_front}
use Rattle.checkpoint_image.specs.Chain.{chain_at}
use Rattle.checkpoint_image.specs.NodeReading.{attribute_at, name_of}
use Rattle.checkpoint_image.proofs.node_reading.many_attributes_at.Given as goal

abbrev pub invariant-loop : goal.invariant-loop
invariant-loop l =
    with_front l.attributes (chain_at (λ previous. attribute_at previous l.input) name_of (l.count - l.counter) l.previous l.rest)
    ≡ chain_at (λ previous. attribute_at previous l.input) name_of l.count [] l.bytes

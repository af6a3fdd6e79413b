-- The statements so far and those that are still read are those that the call reads.
use Rattle.std.proofs.Common.{◌≡◌, ◌-◌}
use Rattle.record_parts.proofs.ReadingLemmas.{with_front}
use Rattle.checkpoint_image.specs.Chain.{chain_at, alone, nothing_left}
use Rattle.checkpoint_image.specs.ImageReading.{entry_at}
use Rattle.checkpoint_image.proofs.image_reading.many_statements_at.Given as goal

abbrev pub invariant-loop : goal.invariant-loop
invariant-loop l = with_front l.statements (chain_at (alone (entry_at l.input)) nothing_left (l.count - l.counter) tt l.rest) ≡ chain_at (alone (entry_at l.input)) nothing_left l.count tt l.bytes

-- The numbers so far and those that are still read are those that the call reads.
use Rattle.std.proofs.Common.{◌≡◌, ◌-◌}
use Rattle.record_parts.specs.Fields.{u32_at}
use Rattle.record_parts.specs.Parts.{many_at}
use Rattle.record_parts.proofs.ReadingLemmas.{with_front}
use Rattle.record_parts.proofs.parts.many_numbers_at.Given as goal

abbrev pub invariant-loop : goal.invariant-loop
invariant-loop l = with_front l.numbers (many_at u32_at (l.count - l.counter) l.rest) ≡ many_at u32_at l.count l.bytes

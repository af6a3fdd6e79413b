-- The procaps so far and those that are still read are those that the call reads.
use Rattle.std.proofs.Common.{◌≡◌, ◌-◌}
use Rattle.procap.specs.Procap.{procap_at}
use Rattle.record_parts.specs.Parts.{many_at}
use Rattle.record_parts.proofs.ReadingLemmas.{with_front}
use Rattle.record_parts.proofs.parts.many_procaps_at.Given as goal

abbrev pub invariant-loop : goal.invariant-loop
invariant-loop l = with_front l.procaps (many_at (procap_at l.input) (l.count - l.counter) l.rest) ≡ many_at (procap_at l.input) l.count l.bytes

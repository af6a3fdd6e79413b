-- The numbers so far and those that are still read are those that the call reads.
use Rattle.std.proofs.Common.{◌≡◌, ◌-◌}
use Rattle.record_parts.proofs.ReadingLemmas.{with_front}
use Rattle.checkpoint_image.specs.Chain.{chain_at}
use Rattle.checkpoint_image.specs.WithdrawnNumbers.{withdrawn_number_at, number_left}
use Rattle.checkpoint_image.proofs.withdrawn_numbers.many_withdrawn_numbers_at.Given as goal

abbrev pub invariant-loop : goal.invariant-loop
invariant-loop l =
    with_front l.numbers (chain_at (λ previous. withdrawn_number_at l.most previous l.input) number_left (l.count - l.counter) l.previous l.rest)
    ≡ chain_at (λ previous. withdrawn_number_at l.most previous l.input) number_left l.count 0 l.bytes

-- The entries of the numbers so far were withdrawn.
use Rattle.std.proofs.Common.{◌≡◌, take}
use Rattle.checkpoint_image.specs.WithdrawnNumbers.{marked_all}
use Rattle.checkpoint_image.proofs.withdrawn_numbers.mark_all.Given as goal

abbrev pub invariant-loop-number : goal.invariant-loop-number
invariant-loop-number l = l.entries.items ≡ marked_all l.fn.entries.items (take l.number-index l.numbers)

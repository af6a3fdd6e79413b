-- What the lines before this one gave is in the ring.
use Rattle.std.proofs.Common.{length}
use Rattle.pcfs_secrets.proofs.RingLemmas.{HasAdded}
use Rattle.pcfs_secrets.proofs.keys.add_keys.Given as goal

abbrev pub invariant-loop-line : goal.invariant-loop-line
invariant-loop-line l = HasAdded l.fn.ring l.fn.text l.ring l.rest l.place

abbrev pub decreases-loop-line : goal.decreases-loop-line
decreases-loop-line l = length l.rest

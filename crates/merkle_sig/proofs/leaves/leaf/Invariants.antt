use Rattle.std.proofs.Common.{◌∷◌}
use Rattle.sha2.specs.Hashers.{Holds256}
use Rattle.merkle_sig.specs.HashTree.{public_pairs}
use Rattle.merkle_sig.proofs.leaves.leaf.Given as goal

abbrev pub invariant-loop-bit : goal.invariant-loop-bit
invariant-loop-bit l = Holds256 l.hasher (2 ∷ public_pairs l.seed l.place l.bit)

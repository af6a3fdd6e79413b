use Rattle.std.proofs.Common.{◌∷◌}
use Rattle.sha2.specs.Hashers.{Holds256}
use Rattle.merkle_sig.specs.Signature.{pairs_from}
use Rattle.merkle_sig.proofs.leaves.leaf_from.Given as goal

abbrev pub invariant-loop-bit : goal.invariant-loop-bit
invariant-loop-bit l = Holds256 l.hasher (2 ∷ pairs_from l.shown l.digest l.bit)

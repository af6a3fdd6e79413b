use Rattle.pcfs_hmac.proofs.hashers.padded_hasher.Given as goal
use Rattle.pcfs_hmac.proofs.BlockKeyLemmas.{IsPaddedTo}

abbrev pub invariant-loop-byte : goal.invariant-loop-byte
invariant-loop-byte l = IsPaddedTo l.byte-items l.block l.pad l.byte-index

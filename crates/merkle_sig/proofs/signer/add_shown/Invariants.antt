use Rattle.std.proofs.Common.{◌≡◌, ◌++◌}
use Rattle.merkle_sig.specs.Signature.{shown_bits}
use Rattle.merkle_sig.proofs.signer.add_shown.Given as goal

abbrev pub invariant-loop-bit : goal.invariant-loop-bit
invariant-loop-bit l = l.signature ≡ l.initial.signature ++ shown_bits l.seed l.leaf l.digest l.bit

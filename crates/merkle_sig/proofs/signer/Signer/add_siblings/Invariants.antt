use Rattle.std.proofs.Common.{◌≡◌, ◌++◌}
use Rattle.merkle_sig.specs.Signature.{siblings}
use Rattle.merkle_sig.proofs.NodesLemmas.{IsOnWay}
use Rattle.merkle_sig.proofs.signer.Signer.add_siblings.Given as goal

abbrev pub invariant-loop-level : goal.invariant-loop-level
invariant-loop-level l = record {
  way : IsOnWay l.self.height l.self.next l.level l.place;
  added : l.signature ≡ l.initial.signature ++ siblings l.self.seed l.self.next l.level;
}

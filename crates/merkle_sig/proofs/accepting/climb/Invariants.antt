use Rattle.std.proofs.Common.{◌≡◌, ◌/◌, ◌^◌}
use Rattle.merkle_sig.specs.Signature.{climb}
use Rattle.merkle_sig.proofs.accepting.climb.Given as goal

abbrev pub invariant-loop-level : goal.invariant-loop-level
invariant-loop-level l = (l.here ≡ climb l.fn.leaf l.number l.others l.level) × (l.place ≡ l.number / 2 ^ l.level)

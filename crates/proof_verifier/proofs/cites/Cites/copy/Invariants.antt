use Rattle.std.proofs.Common.{◌≡◌, take}
use Rattle.proof_verifier.proofs.cites.Cites.copy.Given as goal

abbrev pub invariant-loop-cite : goal.invariant-loop-cite
invariant-loop-cite l = l.cites.items ≡ take l.cite-index l.cite-items
